-- The ends of the tasks that a worker has performed, one after the other in a turn.
use Rattle.std.proofs.Common.{◌≡◌, ℕ, ◌+◌, ◌≤◌, List, [], ◌∷◌, ◌++◌, length, take, drop, refl, sym, ap, subst, ◌∙◌, append_assoc, append-nil, length-append, zero-add, arith}
use Rattle.std.proofs.Math.ListN.{drop_of_length-le}
use Rattle.std.proofs.Math.Seq.{drop-append_seam, take-append_seam}
use Rattle.std.proofs.lemmas.Slice.Zip.{AllZip-long}
use Rattle.std.specs.declared.snapshot.Snapshot.{Snapshot}
use Rattle.task_order.specs.declared.key.Key.{Key}
use Rattle.task_order.specs.declared.task.Task.{Task}
use Rattle.app_laws.specs.Applications.{Application}
use Rattle.crew.specs.Jobs.{IsPerformed}
use Rattle.run_laws.specs.Jobs.{Done, Job}
use Rattle.run_laws.specs.Laws.{IsDone}
use Rattle.run_laws.specs.Moves.{Moved, MovesFollow, StaysAreMoves}
use Rattle.run_laws.specs.Progress.{Progress}
use Rattle.graph_update.specs.Engine.{FinishStaysSound}
use Rattle.source_pool.specs.Course.{IsJobDone}
use Rattle.worker_gate.specs.Fits.{drained_count}
use Rattle.free_pool.specs.Acted.{keys_acted}
use Rattle.free_pool.specs.Turns.{AreDone, MayEnd, jobs_left, keys_ended, keys_of}

keys_of_one_more : {V : Type 0} (jobs : List (Job V)) (job : Job V) → keys_of (jobs ++ job ∷ []) ≡ keys_of jobs ++ job.task.key ∷ []
keys_of_one_more [] job = refl
keys_of_one_more (one ∷ jobs) job = ap (λ (keys : List Key). one.task.key ∷ keys) (keys_of_one_more jobs job)

module _ {V : Type 0} (app : Application V) where
  -- the first of the jobs is the one that was performed first
  pub record IsFirstDone (jobs : List (Job V)) (done : Done V) (rest : List (Done V)) : Type 0 where
    pub job : Job V
    pub others : List (Job V)
    pub there : jobs ≡ job ∷ others
    pub own : IsJobDone app job done
    pub left : AreDone app others rest

  pub first_done : (jobs : List (Job V)) (done : Done V) (rest : List (Done V)) → AreDone app jobs (done ∷ rest) → IsFirstDone jobs done rest
  first_done [] done rest none = absurd none
  first_done (job ∷ others) done rest each = record { job = job; others = others; there = refl; own = each.0; left = each.1 }

  module _ (jobs : List (Job V)) (done : Done V) (rest : List (Done V)) (first : IsFirstDone jobs done rest) where
    performed : IsPerformed app jobs done first.job first.others
    performed = record { before = []; after = first.others; there = first.there; others_are = refl; node = first.own.node; task = first.own.task; effect = first.own.effect }

    -- the same beside the jobs of others
    performed_beside : (more : List (Job V)) → IsPerformed app (jobs ++ more) done first.job (first.others ++ more)
    performed_beside more = record {
      before = [];
      after = first.others ++ more;
      there = ap (λ (all : List (Job V)). all ++ more) first.there;
      others_are = refl;
      node = first.own.node;
      task = first.own.task;
      effect = first.own.effect;
    }

  pub is_done : (now : Progress V) (done : Done V) (rest : List (Done V)) → MayEnd app now (done ∷ rest) → IsDone app now done
  is_done now done rest may =
      let first = first_done may.jobs done rest may.done in
      record {
        jobs = may.jobs ++ may.others;
        values = may.values;
        sound = may.sound;
        job = first.job;
        others = first.others ++ may.others;
        performed = performed_beside may.jobs done rest first may.others;
      }

  pub others_may_end : (old now : Progress V) (done : Done V) (rest : List (Done V)) → MayEnd app old (done ∷ rest) → FinishStaysSound app old done now → MayEnd app now rest
  others_may_end old now done rest may stays =
      let first = first_done may.jobs done rest may.done in
      record {
        jobs = first.others;
        others = may.others;
        values = (app.act first.job.task may.values).cells;
        sound = stays (may.jobs ++ may.others) (first.others ++ may.others) first.job may.values may.sound (performed_beside may.jobs done rest first may.others);
        done = first.left;
      }

  module _ (start : Progress V) where
    -- of these jobs so many have ended, the first ones, and the others are those that are performed and left
    pub record HaveEnded (had : List (Job V)) (now : Progress V) (left : List (Done V)) (ended : ℕ) : Type 0 where
      pub before : List (Job V)
      pub after : List (Job V)
      pub there : had ≡ before ++ after
      pub count : length before ≡ ended
      pub done : AreDone app after left
      pub moved : Moved app start had now after (keys_of before)

    one_more : MovesFollow app → (old now : Progress V) (had : List (Job V)) (done : Done V) (rest : List (Done V)) (ended : ℕ) → HaveEnded had old (done ∷ rest) ended
        → ((job : Job V) (jobs others : List (Job V)) → IsPerformed app jobs done job others → Moved app old jobs now others (done.task.key ∷ [])) → HaveEnded had now rest (ended + 1)
    one_more follow old now had done rest ended so_far moves =
        let first = first_done so_far.after done rest so_far.done in
        let keys : keys_of so_far.before ++ done.task.key ∷ [] ≡ keys_of (so_far.before ++ first.job ∷ []) =
        ap (λ (task : Task). keys_of so_far.before ++ task.key ∷ []) (sym first.own.task) ∙ sym (keys_of_one_more so_far.before first.job) in
        record {
          before = so_far.before ++ first.job ∷ [];
          after = first.others;
          there = so_far.there ∙ ap (λ (jobs : List (Job V)). so_far.before ++ jobs) first.there ∙ sym (append_assoc so_far.before (first.job ∷ []) first.others);
          count = length-append so_far.before (first.job ∷ []) ∙ ap (λ (n : ℕ). n + 1) so_far.count;
          done = first.left;
          moved = subst (Moved app start had now first.others) keys
              (follow start old now had so_far.after first.others (keys_of so_far.before) (done.task.key ∷ []) so_far.moved
              (moves first.job so_far.after first.others (performed so_far.after done rest first)));
        }

    -- what ended is told by how many did
    told : (now : Progress V) (had before after : List (Job V)) (ended : ℕ) → had ≡ before ++ after → length before ≡ ended → Moved app start had now after (keys_of before)
        → Moved app start had now (drop ended had) (keys_ended had ended)
    told now had before after ended there count moved =
        let rest : after ≡ drop ended had = sym (ap (drop ended) there ∙ ap (λ (n : ℕ). drop n (before ++ after)) (sym count) ∙ drop-append_seam before after) in
        let first : before ≡ take ended had = sym (ap (take ended) there ∙ ap (λ (n : ℕ). take n (before ++ after)) (sym count) ∙ take-append_seam before after) in
        subst (λ (jobs : List (Job V)). Moved app start had now jobs (keys_ended had ended)) rest
        (subst (λ (jobs : List (Job V)). Moved app start had now after (keys_of jobs)) first moved)

    -- so many of those that were performed have ended, and these are left
    pub record AreEnding (all : List (Done V)) (now : Progress V) (left : List (Done V)) (ended : ℕ) : Type 0 where
      pub may_end : MayEnd app now left
      pub each : (had : List (Job V)) → AreDone app had all → HaveEnded had now left ended
      pub drained : drained_count now ≡ drained_count start
      pub count : ended + length left ≡ length all

    pub none_ended : StaysAreMoves app → (all : List (Done V)) → MayEnd app start all → AreEnding all start all 0
    none_ended stays all may = record {
      may_end = may;
      each = λ had done. record { before = []; after = had; there = refl; count = refl; done = done; moved = stays start had };
      drained = refl;
      count = zero-add (length all);
    }

    pub one_ended : MovesFollow app → (all : List (Done V)) (old now : Progress V) (left : List (Done V)) (done : Done V) (rest : List (Done V)) (ended : ℕ) → AreEnding all old left ended → left ≡ done ∷ rest
        → ((job : Job V) (jobs others : List (Job V)) → IsPerformed app jobs done job others → Moved app old jobs now others (done.task.key ∷ []))
        → FinishStaysSound app old done now → drained_count now ≡ drained_count old → AreEnding all now rest (ended + 1)
    one_ended follow all old now left done rest ended ending next moves stays drained =
        let at = subst (λ (dones : List (Done V)). AreEnding all old dones ended) next ending in
        record {
          may_end = others_may_end old now done rest at.may_end stays;
          each = λ had are. one_more follow old now had done rest ended (at.each had are) moves;
          drained = drained ∙ at.drained;
          count = omega (arith, at.count);
        }

    -- where nothing more is to end
    pub as_told : (all : List (Done V)) (now : Progress V) (left : List (Done V)) (ended : ℕ) → AreEnding all now left ended → (had : List (Job V)) → AreDone app had all
        → Moved app start had now (drop ended had) (keys_ended had ended)
    as_told all now left ended ending had are =
        let so_far = ending.each had are in
        told now had so_far.before so_far.after ended so_far.there so_far.count so_far.moved

    -- where an end is refused
    pub as_refused : MovesFollow app → (all : List (Done V)) (old now : Progress V) (left : List (Done V)) (done : Done V) (rest : List (Done V)) (ended : ℕ) → AreEnding all old left ended → left ≡ done ∷ rest
        → ((job : Job V) (jobs others : List (Job V)) → IsPerformed app jobs done job others → Moved app old jobs now jobs [])
        → (had : List (Job V)) → AreDone app had all → Moved app start had now (drop ended had) (keys_ended had ended)
    as_refused follow all old now left done rest ended ending next refused had are =
        let so_far = (subst (λ (dones : List (Done V)). AreEnding all old dones ended) next ending).each had are in
        let first = first_done so_far.after done rest so_far.done in
        told now had so_far.before so_far.after ended so_far.there so_far.count
        (subst (Moved app start had now so_far.after) (append-nil (keys_of so_far.before))
        (follow start old now had so_far.after so_far.after (keys_of so_far.before) [] so_far.moved (refused first.job so_far.after first.others (performed so_far.after done rest first))))

  -- where all ended, and then others are claimed
  pub then_claimed : MovesFollow app → (old mid now : Progress V) (had claimed : List (Job V)) (dones : List (Done V)) (ended : ℕ) → AreDone app had dones → length dones ≤ ended
      → Moved app old had mid (drop ended had) (keys_ended had ended) → Moved app mid [] now claimed [] → Moved app old had now (jobs_left had ended claimed) (keys_ended had ended)
  then_claimed follow old mid now had claimed dones ended are all one two =
      let none : drop ended had ≡ [] = drop_of_length-le had (omega (arith, all, AllZip-long (IsJobDone app) had dones are)) in
      let left : claimed ≡ jobs_left had ended claimed = sym (ap (λ (rest : List (Job V)). claimed ++ rest) none ∙ append-nil claimed) in
      subst (λ (jobs : List (Job V)). Moved app old had now jobs (keys_ended had ended)) left
      (subst (Moved app old had now claimed) (append-nil (keys_ended had ended))
      (follow old mid now had [] claimed (keys_ended had ended) [] (subst (λ (jobs : List (Job V)). Moved app old had mid jobs (keys_ended had ended)) none one) two))

  -- where no task acts
  pub no_act : (old now : Progress V) (had have : List (Job V)) (ended : ℕ) (acted : List (Snapshot Key)) → acted ≡ []
      → Moved app old had now have (keys_ended had ended) → Moved app old had now have (keys_ended had ended ++ keys_acted acted)
  no_act old now had have ended acted idle moved =
      subst (λ (keys : List (Snapshot Key)). Moved app old had now have (keys_ended had ended ++ keys_acted keys)) (sym idle)
      (subst (Moved app old had now have) (sym (append-nil (keys_ended had ended))) moved)

  -- where nothing is claimed and no task acts besides
  pub unacted : (old now : Progress V) (had : List (Job V)) (ended : ℕ) (claimed : List (Job V)) (acted : List (Snapshot Key)) → claimed ≡ [] → acted ≡ []
      → Moved app old had now (drop ended had) (keys_ended had ended) → Moved app old had now (jobs_left had ended claimed) (keys_ended had ended ++ keys_acted acted)
  unacted old now had ended claimed acted none idle moved =
      subst (λ (jobs : List (Job V)). Moved app old had now (jobs_left had ended jobs) (keys_ended had ended ++ keys_acted acted)) (sym none) (no_act old now had (drop ended had) ended acted idle moved)

  -- where light tasks act then
  pub then_acted : MovesFollow app → (old mid now : Progress V) (had claimed stuck : List (Job V)) (ended : ℕ) (keys : List Key) → claimed ≡ []
      → Moved app old had mid (drop ended had) (keys_ended had ended) → ((jobs : List (Job V)) → Moved app mid jobs now (stuck ++ jobs) keys)
      → Moved app old had now (stuck ++ jobs_left had ended claimed) (keys_ended had ended ++ keys)
  then_acted follow old mid now had claimed stuck ended keys none one two =
      subst (λ (jobs : List (Job V)). Moved app old had now (stuck ++ jobs_left had ended jobs) (keys_ended had ended ++ keys)) (sym none)
      (follow old mid now had (drop ended had) (stuck ++ drop ended had) (keys_ended had ended) keys one (two (drop ended had)))
