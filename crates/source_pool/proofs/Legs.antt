-- Legs of a run, each of which goes on where the one before it came to, with first tasks.
use Rattle.std.proofs.Common.{◌≡◌, ℕ, ◌+◌, ◌-◌, List, [], ◌++◌, length, Option, Some, None, refl, sym, ap, subst, ◌∙◌, append_assoc, arith}
use Rattle.std.specs.Prelude.{IfSome}
use Rattle.std.proofs.lemmas.List.{length-map}
use Rattle.task_order.specs.Key.{end}
use Rattle.task_order.specs.TaskList.{put_all}
use Rattle.cell_store.specs.Values.{homes, values_of}
use Rattle.output_log.specs.EntryLaws.{same_texts}
use Rattle.kdg_graph.specs.Nodes.{tasks_of}
use Rattle.output_log.specs.Entries.{Entry, ShareNoKey, joined_by_key, joined_texts, with_texts}
use Rattle.app_laws.specs.Applications.{Application, PathsAreIgnored}
use Rattle.app_laws.specs.declared.serial_run.Finals.{Finals}
use Rattle.app_laws.specs.Execution.{Execution, first_from}
use Rattle.commuting.specs.Clear.{IsReady}
use Rattle.commuting.specs.Commuting.{BothEnd}
use Rattle.commuting.specs.Renaming.{ComesToSame, HasSameTexts}
use Rattle.commuting.specs.Rounds.{TakesRounds}
use Rattle.commuting.specs.Standing.{AreUnlogged, IsLaterLog}
use Rattle.commuting.specs.States.{State, state_of, run_from}
use Rattle.commuting.specs.EndLaws.{given_up, end_beside, none_before}
use Rattle.run_laws.specs.CourseLaws.{IsJoinedRest}
use Rattle.run_laws.specs.Progress.{Progress, whole_state}
use Rattle.run_laws.specs.Renaming.{IsRenamed}
use Rattle.run_laws.specs.Sound.{IsSound}
use Rattle.source_pool.specs.Basis.{Basis}
use Rattle.source_pool.specs.Course.{IsAtRest, LeadsByRounds}
use Rattle.source_pool.specs.Kept.{IsLastAfter, KeepsAfter}
use Rattle.source_pool.specs.KeptLaws.{RenamingsKeepTexts}
use Rattle.source_pool.specs.Legs.{IsEndBehind, LegsBegin, LegsGoOn, RenamingsGoOn}
use Rattle.source_pool.specs.Runs.{IsRoundsEnd, rest_of_run, state_at_rest}
use Rattle.source_pool.proofs.JoinedTexts.{texts_of_rest}
use Rattle.source_pool.proofs.KeptLegs.{keeps_behind}
use Rattle.source_pool.proofs.RoundNumbers.{rounds_take_more, whole_is_home}

module _ {V : Type 0} (app : Application V) where
  -- ---- legs

  pub legs_begin : LegsBegin app
  legs_begin start = record {
    ends = λ finals whole more is behind. let all : more ≡ 0 + more = omega arith in record {
      last = is.last;
      is_end = is.is_end;
      store = behind.store ∙ is.store;
      text = behind.text_is ∙ is.text;
      count = behind.count ∙ is.count;
      rounds_are = subst (λ n. TakesRounds app n (state_at_rest start)) all is.rounds_are;
    };
    too_long = λ none. none;
    limit = refl;
    keeps = λ more state kept keeps. let all : more ≡ 0 + more = omega arith in record {
      there = state;
      keeps = subst (λ n. KeepsAfter app start n state kept) all keeps;
      last = λ last. subst (λ n. IsLastAfter app start n state) all last;
    };
  }

  pub legs_go_on : LegsGoOn app
  legs_go_on start middle now text more rounds others first second = record {
    ends = λ finals whole count is behind.
        let between : Finals V = record { store = finals.store; text = more ++ finals.text; count = finals.count } in
        let all : rounds + (others + count) ≡ (rounds + others) + count = omega arith in
        subst (λ n. IsRoundsEnd app start whole n) all
        (first.ends between whole (others + count)
        (second.ends finals between count is (record { store = refl; text_is = refl; count = refl }))
        (record { store = behind.store; text_is = behind.text_is ∙ append_assoc text more finals.text; count = behind.count }));
    too_long = λ none. first.too_long (second.too_long none);
    limit = second.limit ∙ first.limit;
    keeps = λ count state kept keeps.
        let all : rounds + (others + count) ≡ (rounds + others) + count = omega arith in
        let behind = second.keeps count state kept keeps in
        let whole = first.keeps (others + count) behind.there (more ++ kept) behind.keeps in
        record {
          there = whole.there;
          keeps = subst (λ n. KeepsAfter app start n whole.there ((text ++ more) ++ kept)) all (subst (KeepsAfter app start (rounds + (others + count)) whole.there) (sym (append_assoc text more kept)) whole.keeps);
          last = λ last. subst (λ n. IsLastAfter app start n whole.there) all (whole.last (behind.last last));
        };
  }

module _ {V : Type 0} {app : Application V} (basis : Basis app) where
  -- ---- where pending tasks become first tasks

  module _ (start now next : Progress V) (state : State V) (text : List ℕ) (ignored : PathsAreIgnored app) (rest : IsAtRest app start (values_of start.cells) state text now) (renamed : IsRenamed app now next) where
    abbrev here : State V
    here = whole_state now rest.values

    -- how many more tasks may end
    abbrev left : ℕ
    left = next.limit - next.ended

    abbrev there : Option (Execution V)
    there = run_from app.act left end here

    next_sound : IsSound app next [] rest.values
    next_sound = basis.renamings_keep_sound now next rest.values rest.course.come.sound renamed

    next_at_rest : whole_state next rest.values ≡ state_at_rest next
    next_at_rest = ap (whole_state next) (whole_is_home basis next rest.values next_sound).1

    next_is : state_of rest.values (put_all (first_from 0 renamed.first) []) ≡ state_at_rest next
    next_is = ap (state_of rest.values) (sym renamed.nodes.tasks) ∙ next_at_rest

    comes : ComesToSame app here (state_at_rest next)
    comes =
        subst (ComesToSame app here) next_is
        (basis.come_to_same ignored here rest.course.come.stands.ready renamed.first renamed.listed)

    same_ended : next.ended ≡ now.ended
    same_ended = ap (λ (progress : Progress V). progress.ended) renamed.after

    same_limit : next.limit ≡ start.limit
    same_limit = ap (λ (progress : Progress V). progress.limit) renamed.after ∙ rest.course.come.limit

    -- the run from the start takes a step more for each entry
    limits : start.limit - start.ended ≡ length rest.course.entries + left
    limits =
        let counts = rest.course.come.sound.keys_and_counts in
        omega (arith, rest.course.come.ended, rest.course.come.limit, counts.created, counts.within, same_ended, same_limit)

    runs : BothEnd (IsJoinedRest app end rest.course.entries) (rest_of_run app start) there
    runs =
        subst (λ n. BothEnd (IsJoinedRest app end rest.course.entries) (run_from app.act n end (state_at_rest start)) there) (sym limits)
        (subst (λ done. BothEnd (IsJoinedRest app end done) (run_from app.act (length done + left) end (state_at_rest start)) there) (basis.before_end rest.course.entries)
        ((basis.runs start (values_of start.cells) rest.course.drained rest.course.entries now [] rest.values rest.course.come).runs end left))

    -- ---- the end

    texts_here : with_texts now.log ≡ [] → (last : Execution V) → there ≡ Some last
        → text ++ joined_texts last.log ≡ joined_texts (joined_by_key start.log (joined_by_key rest.course.entries last.log))
    texts_here silent last is =
        let stands = rest.course.come.stands in
        let course = rest.course in
        let drained = course.drained in
        let counts = rest.course.come.sound.keys_and_counts in
        let later : IsLaterLog drained last.log = subst (λ run. IfSome run (λ e. IsLaterLog drained e.log)) is (basis.log_later here drained stands.ready course.come.earlier left end) in
        let new = λ (entries : List Entry) (unlogged : AreUnlogged entries (tasks_of now.nodes)).
        subst (λ run. IfSome run (λ e. ShareNoKey entries e.log)) is (basis.log_new_keys here entries stands.ready unlogged left end) in
        ap (λ first. first ++ joined_texts last.log) course.text_is
        ∙ sym (texts_of_rest basis start.log rest.course.entries drained now.log last.log course.come.logged stands.ordered counts.log_ordered silent later
        (new rest.course.entries stands.unlogged) (new now.log counts.unlogged))

    texts_next : (last other : Execution V) → rest_of_run app next ≡ Some other → HasSameTexts last other → joined_texts (joined_by_key next.log other.log) ≡ joined_texts last.log
    texts_next last other is same =
        let ready = subst (IsReady app) next_at_rest next_sound.ready in
        let logs : IsLaterLog [] other.log = subst (λ run. IfSome run (λ e. IsLaterLog [] e.log)) is (basis.log_later (state_at_rest next) [] ready (none_before (tasks_of next.nodes)) left end) in
        ap (λ log. joined_texts (joined_by_key log other.log)) (ap (λ (progress : Progress V). progress.log) renamed.after)
        ∙ ap joined_texts (basis.joins_with_none other.log logs.ordered).1
        ∙ same_texts other.log last.log (sym same.texts_are)

    counts_add : (e last other : Execution V) → e.log ≡ joined_by_key rest.course.entries last.log → HasSameTexts last other → next.ended + length other.log ≡ start.ended + length e.log
    counts_add e last other is same =
        let text_of = λ (entry : Entry). entry.1 in
        omega (
          arith,
          ap length is,
          basis.joins_add_lengths rest.course.entries last.log,
          length-map last.log text_of,
          length-map other.log text_of,
          ap length same.texts_are,
          same_ended,
          rest.course.come.ended,
        )

    too_long : rest_of_run app next ≡ None → rest_of_run app start ≡ None
    too_long none = given_up (IsJoinedRest app end rest.course.entries) (rest_of_run app start) there runs (given_up HasSameTexts there (rest_of_run app next) (comes.ends left) none)

    module _ (rounds : ℕ) (leads : LeadsByRounds app rounds (state_at_rest start) state) (silent : with_texts now.log ≡ []) where
      ends : (finals whole : Finals V) (more : ℕ) → IsRoundsEnd app next finals more → IsEndBehind text finals whole → IsRoundsEnd app start whole (rounds + more)
      ends finals whole more is behind =
          let last = end_beside HasSameTexts there (rest_of_run app next) is.last (comes.ends left) is.is_end in
          let e = end_beside (IsJoinedRest app end rest.course.entries) (rest_of_run app start) there last.0 runs last.1 in
          record {
            last = e.0;
            is_end = e.1;
            store = behind.store ∙ is.store ∙ ap homes (sym last.2.cells_are ∙ sym (e.2.cells_are refl));
            text =
                behind.text_is ∙ ap (λ texts. text ++ texts) (is.text ∙ texts_next last.0 is.last is.is_end last.2)
                ∙ texts_here silent last.0 last.1 ∙ ap (λ log. joined_texts (joined_by_key start.log log)) (sym e.2.log);
            count = behind.count ∙ is.count ∙ counts_add e.0 last.0 is.last e.2.log last.2;
            rounds_are = rounds_take_more app rounds more (state_at_rest start) state leads (subst (TakesRounds app more) rest.state_is (comes.rounds more is.rounds_are));
          }

  pub renamings_go_on : RenamingsGoOn app
  renamings_go_on start now next state text rounds ignored begins rest leads count silent renamed = record {
    ends = ends start now next state text ignored rest renamed rounds leads silent;
    too_long = too_long start now next state text ignored rest renamed;
    limit = same_limit start now next state text ignored rest renamed;
    keeps =
        keeps_behind basis start now next state text rounds ignored begins rest leads count silent renamed.first renamed.listed (next_is start now next state text ignored rest renamed)
        (same_ended start now next state text ignored rest renamed) (same_limit start now next state text ignored rest renamed) (ap (λ (p : Progress V). p.log) renamed.after);
  }

  pub renamings_keep_texts : RenamingsKeepTexts app
  renamings_keep_texts start now next state last text kept rounds more ignored begins rest leads count silent renamed =
      keeps_behind basis start now next state text rounds ignored begins rest leads count silent renamed.first renamed.listed (next_is start now next state text ignored rest renamed)
      (same_ended start now next state text ignored rest renamed) (same_limit start now next state text ignored rest renamed) (ap (λ (p : Progress V). p.log) renamed.after)
      more last kept
