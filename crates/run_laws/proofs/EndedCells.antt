-- The whole cells after the end of a task.
use Rattle.std.proofs.Common.{◌≡◌, ◌≢◌, ℕ, ◌<◌, ◌||◌, Bool, true, false, List, [], ◌∷◌, ◌++◌, length, refl, sym, ap, subst, ◌∙◌}
use Rattle.std.specs.Prelude.{Contains, IsTrue, ◌↔◌, if◌then◌else◌}
use Rattle.std.specs.List.{AllByRecursion, list_any}
use Rattle.std.proofs.lemmas.Bool.{true≢false}
use Rattle.plain_laws.specs.Lists.{none_from_all, All-weaker, All-joined}
use Rattle.rw_sets.specs.Accesses.{AreIndependent, access_at, allows_write, writes}
use Rattle.rw_sets.specs.AccessLaws.{some_from_writes}
use Rattle.cell_store.specs.declared.cell.Cell.{Cell}
use Rattle.cell_store.specs.declared.cell.Cell.TheVariants.{Home, Out}
use Rattle.cell_store.specs.Cells.{cell_at, cell_in, cells_given, part_of}
use Rattle.cell_store.specs.Home.{IsHome}
use Rattle.cell_store.specs.Values.{AgreesWith, homes}
use Rattle.kdg_graph.specs.Node.{Node}
use Rattle.app_laws.specs.Applications.{Application}
use Rattle.run_laws.specs.Jobs.{Done, Job}
use Rattle.run_laws.specs.FinishBasis.{FinishBasis}
use Rattle.run_laws.specs.Finishes.{IsEnd}
use Rattle.run_laws.specs.Lists.{all_but_one, any_but_one}
use Rattle.run_laws.specs.Progress.{Progress}
use Rattle.run_laws.specs.Sound.{IsOfNode, IsWhole, is_written}
use Rattle.run_laws.proofs.Ended.{ended_node}
use Rattle.run_laws.proofs.EndedJobs.{differ}
use Rattle.run_laws.proofs.EndedNodes.{ended_key, others_apart}
use Rattle.run_laws.proofs.Performed.{agrees_given, changes_written, given_is}
use Rattle.run_laws.proofs.FinishTasks.{length-mapped}

pub never_out : {V : Type 0} (cell : Cell V) → IsHome cell → cell ≡ Out → ⊥
never_out cell home is = subst IsHome is home

any_more : {X : Type 0} (p : X → Bool) (xs : List X) (x : X) (ys : List X) → list_any p (xs ++ ys) ≡ true → list_any p (xs ++ x ∷ ys) ≡ true
any_more p [] x ys any = go (p x)
  where
    go : (test : Bool) → (test || list_any p ys) ≡ true
    go true = refl
    go false = any
any_more p (y ∷ xs) x ys any = by_case (p y) any (any_more p xs x ys)
  where
    by_case : (test : Bool) → (test || list_any p (xs ++ ys)) ≡ true → (list_any p (xs ++ ys) ≡ true → list_any p (xs ++ x ∷ ys) ≡ true) → (test || list_any p (xs ++ x ∷ ys)) ≡ true
    by_case true any later = refl
    by_case false any later = later any

module _ {V : Type 0} {app : Application V} (basis : FinishBasis app) where
  module _ {old now : Progress V} {done : Done V} {job : Job V} {jobs others : List (Job V)} {values : List V} (end : IsEnd app old jobs values done job others now) where
    -- the other jobs' sets are independent of that of the task that ended
    independent : AllByRecursion (λ other. AreIndependent job.bundle.set other.bundle.set) (end.performed.before ++ end.performed.after)
    independent =
        All-joined (λ other. job.task.key ≢ other.task.key) (IsOfNode app old.nodes) (λ other. AreIndependent job.bundle.set other.bundle.set)
        (λ other differ of_node.
        let node = of_node.0 in
        let has = basis.keys_find old.nodes other.task.key node of_node.1 in
        let apart : node.id ≢ end.finished.node.id = λ same. differ (same_key other node has.0 has.1 same) in
        let sets : AreIndependent end.finished.node.set node.set = others_apart basis end node has.0 of_node.2.running apart in
        subst (λ set. AreIndependent job.bundle.set set) of_node.2.set (subst (λ set. AreIndependent set node.set) (ended_node basis end).job_set sets))
        (end.performed.before ++ end.performed.after) (differ basis end)
        (all_but_one (IsOfNode app old.nodes) end.performed.before job end.performed.after (subst (AllByRecursion (IsOfNode app old.nodes)) end.performed.there end.sound.outs_match.named))
      where
        same_key : (other : Job V) (node : Node) → Contains old.nodes node → node.task.key ≡ other.task.key → node.id ≡ end.finished.node.id → job.task.key ≡ other.task.key
        same_key other node has key same =
            let first = basis.have_ids old.nodes node end.sound.keys_and_counts.graph has in
            let second = (ended_node basis end).at_id in
            let ended = ended_key basis end in
            cc

    pub cells_are : now.cells ≡ cells_given old.cells (part_of (homes (app.act job.task values).cells) job.bundle.set)
    cells_are = ap (λ (progress : Progress V). progress.cells) end.finished.after ∙ given_is basis end.sound end.performed

    pub agrees_after : AgreesWith now.cells (app.act job.task values).cells
    agrees_after =
        subst (λ (cells : List (Cell V)). AgreesWith cells (app.act job.task values).cells) (sym (ap (λ (progress : Progress V). progress.cells) end.finished.after))
        (agrees_given basis end.sound end.performed)

    as_many_after : length now.cells ≡ length old.cells
    as_many_after = ap length cells_are ∙ basis.given.as_many old.cells (part_of (homes (app.act job.task values).cells) job.bundle.set)

    pub cell_after : (loc : ℕ) → loc < length old.cells
        → cell_at now.cells loc ≡ (if writes job.bundle.set loc then cell_in (part_of (homes (app.act job.task values).cells) job.bundle.set) loc else cell_at old.cells loc)
    cell_after loc inside =
        ap (λ (cells : List (Cell V)). cell_at cells loc) cells_are ∙ basis.given.each old.cells (part_of (homes (app.act job.task values).cells) job.bundle.set) loc inside

    -- what the task wrote is home, and no other job writes it
    written_is_home : (loc : ℕ) → loc < length old.cells → writes job.bundle.set loc ≡ true → IsHome (cell_at now.cells loc)
    written_is_home loc inside written =
        let new = (app.act job.task values).cells in
        let set = job.bundle.set in
        let here : cell_at now.cells loc ≡ cell_at (homes new) loc =
        cell_after loc inside
        ∙ ap (λ test. if test then cell_in (part_of (homes new) set) loc else cell_at old.cells loc) written
        ∙ basis.parts.each (homes new) set loc (some_from_writes (access_at set loc) written) in
        let many : length (homes new) ≡ length old.cells = length-mapped Home new ∙ (changes_written basis end.sound end.performed).as_many ∙ sym end.sound.whole.home.as_many in
        subst IsHome (sym here) (basis.all_homes.all_home new loc (subst (λ n. loc < n) (sym many) inside))

    unwritten_by_others : (loc : ℕ) → writes job.bundle.set loc ≡ true → is_written app (end.performed.before ++ end.performed.after) loc ≡ false
    unwritten_by_others loc written =
        none_from_all (λ other. writes other.bundle.set loc) (end.performed.before ++ end.performed.after)
        (All-weaker (λ other. AreIndependent job.bundle.set other.bundle.set) (λ other. writes other.bundle.set loc ≡ false)
        (λ other apart. ap allows_write (apart.left_writes loc written)) (end.performed.before ++ end.performed.after) independent)

    away_after : (loc : ℕ) → loc < length old.cells → (cell_at now.cells loc ≡ Out) ↔ IsTrue (is_written app (end.performed.before ++ end.performed.after) loc)
    away_after loc inside = by_case (writes job.bundle.set loc) refl
      where
        by_case : (written : Bool) → writes job.bundle.set loc ≡ written → (cell_at now.cells loc ≡ Out) ↔ IsTrue (is_written app (end.performed.before ++ end.performed.after) loc)
        by_case true is = (
          (λ out. absurd (never_out (cell_at now.cells loc) (written_is_home loc inside is) out)),
          (λ any. absurd (true≢false (sym any ∙ unwritten_by_others loc is))),
        )
        by_case false is =
            let same : cell_at now.cells loc ≡ cell_at old.cells loc = cell_after loc inside ∙ ap (λ test. if test then cell_in (part_of (homes (app.act job.task values).cells) job.bundle.set) loc else cell_at old.cells loc) is in (
              (λ out. any_but_one (λ other. writes other.bundle.set loc) end.performed.before job end.performed.after
                  (subst (λ jobs. is_written app jobs loc ≡ true) end.performed.there ((end.sound.whole.away loc inside).0 (sym same ∙ out))) is),
              (λ any. same ∙ (end.sound.whole.away loc inside).1
                  (subst (λ jobs. is_written app jobs loc ≡ true) (sym end.performed.there) (any_more (λ other. writes other.bundle.set loc) end.performed.before job end.performed.after any))),
            )

    bundles_after : AllByRecursion (λ other. other.bundle ≡ part_of (homes (app.act job.task values).cells) other.bundle.set) (end.performed.before ++ end.performed.after)
    bundles_after =
        All-joined (λ other. AreIndependent job.bundle.set other.bundle.set) (λ other. other.bundle ≡ part_of (homes values) other.bundle.set) (λ other. other.bundle ≡ part_of (homes (app.act job.task values).cells) other.bundle.set)
        (λ other apart is. is ∙ sym (basis.changes.elsewhere values (app.act job.task values).cells job.bundle.set other.bundle.set (basis.independence_turned job.bundle.set other.bundle.set apart) (changes_written basis end.sound end.performed)))
        (end.performed.before ++ end.performed.after) independent
        (all_but_one (λ other. other.bundle ≡ part_of (homes values) other.bundle.set) end.performed.before job end.performed.after
        (subst (AllByRecursion (λ other. other.bundle ≡ part_of (homes values) other.bundle.set)) end.performed.there end.sound.whole.bundles))

    pub whole_is : IsWhole app now.cells others (app.act job.task values).cells
    whole_is = subst (λ others. IsWhole app now.cells others (app.act job.task values).cells) (sym end.performed.others_are) (record {
      home = agrees_after;
      away = λ loc inside. away_after loc (subst (λ n. loc < n) as_many_after inside);
      bundles = bundles_after;
    })
