-- What was drained between two rounds is what is kept.
use Rattle.std.proofs.Common.{◌≡◌, ℕ, zero, suc, ◌+◌, ◌||◌, true, false, not, List, [], ◌∷◌, ◌++◌, length, append-nil, Some, refl, sym, ap, subst, ◌∙◌, arith}
use Rattle.std.specs.List.{list_any}
use Rattle.std.specs.Ordering.{is_lt}
use Rattle.std.specs.declared.cmp.Ordering.{Ordering}
use Rattle.std.specs.declared.cmp.Ordering.TheVariants.{Less}
use Rattle.std.proofs.lemmas.List.{length-map}
use Rattle.std.proofs.lemmas.Option.{same_Some}
use Rattle.plain_laws.specs.Members.{all_at, none_any}
use Rattle.plain_laws.specs.Orderings.{not_less}
use Rattle.task_order.specs.declared.key.Key.{Key}
use Rattle.task_order.specs.declared.task.Task.{Task}
use Rattle.task_order.specs.Key.{Bound, at_key, is_before, key_cmp}
use Rattle.task_order.specs.TaskList.{IsAscending}
use Rattle.task_order.specs.KeyLaws.{not_past_earlier}
use Rattle.cell_store.specs.Values.{values_of}
use Rattle.kdg_graph.specs.Node.{Node}
use Rattle.kdg_graph.specs.Nodes.{tasks_of}
use Rattle.output_log.specs.Entries.{Entry, entries_before, joined_by_key, joined_texts}
use Rattle.app_laws.specs.Applications.{Application}
use Rattle.app_laws.specs.Execution.{Execution, is_clear_before}
use Rattle.commuting.specs.Clear.{IsReady}
use Rattle.commuting.specs.Commuting.{entries_of}
use Rattle.commuting.specs.Rounds.{after_round, clear_tasks}
use Rattle.commuting.specs.Standing.{IsRestOf, StandsFor}
use Rattle.commuting.specs.States.{State, execution_from, run_from, state_of}
use Rattle.commuting.specs.EndLaws.{end_beside}
use Rattle.run_laws.specs.CourseLaws.{least_bound}
use Rattle.run_laws.specs.Events.{drainable}
use Rattle.run_laws.specs.Progress.{Progress, whole_state}
use Rattle.source_pool.specs.Basis.{Basis}
use Rattle.source_pool.specs.Course.{IsAtRest, LeadsByRounds}
use Rattle.source_pool.specs.Kept.{KeepsAfter, acted_in, entries_after, first_pending}
use Rattle.source_pool.specs.KeptLaws.{DrainedTextsAreKept}
use Rattle.source_pool.specs.Runs.{state_at_rest}

pub bound_is : (nodes : List Node) → least_bound nodes ≡ first_pending (tasks_of nodes)
bound_is [] = refl
bound_is (node ∷ nodes) = refl

module _ {V : Type 0} (app : Application V) where
  -- a run from the first state to the bound, within so many steps, and its log
  pub record RunTo (first : State V) (bound : Bound) (log : List Entry) : Type 0 where
    pub last : Execution V
    pub is : run_from app.act (length log) bound first ≡ Some last
    pub log_is : last.log ≡ log

  -- one round more
  pub acted_next : (rounds : ℕ) (state now : State V) → LeadsByRounds app rounds state now → acted_in app (suc rounds) state ≡ acted_in app rounds state + length (clear_tasks app now)
  acted_next zero state now leads = omega (arith, ap (λ (s : State V). length (clear_tasks app s)) leads)
  acted_next (suc rounds) state now leads = omega (arith, acted_next rounds (after_round app state) now leads.1)

module _ {V : Type 0} {app : Application V} (basis : Basis app) where
  -- ---- the first of the pending tasks

  pub none_before_first : (cells : List V) (pending : List Task) → IsAscending pending → is_clear_before (first_pending pending) (execution_from (state_of cells pending)) ≡ true
  none_before_first cells [] up = refl
  none_before_first cells (task ∷ tasks) up =
      let key = task.key in
      let test = λ (other : Task). is_before other.key (at_key key) in
      let own : is_lt (key_cmp key key) ≡ false = not_less (key_cmp key key) (λ less. basis.irreflexive key key less refl) in
      let later : list_any test tasks ≡ false =
      none_any test tasks (λ other has. not_past_earlier key other.key (all_at (λ (other : Task). key_cmp key other.key ≡ Less) tasks other up.0 has)) in
      ap not (ap (λ found. found || list_any test tasks) own ∙ later)

  -- ---- one run

  pub run_to : (first now : State V) (entries : List Entry) (bound : Bound) → is_clear_before bound (execution_from now) ≡ true → StandsFor app first entries now
      → RunTo app first bound (entries_before bound entries)
  run_to first now entries bound clear stands =
      let done = entries_before bound entries in
      let all : length done + 0 ≡ length done = omega arith in
      let both = end_beside (IsRestOf bound done) (run_from app.act (length done + 0) bound first) (run_from app.act 0 bound now) (execution_from now)
      (stands.same_rest bound 0) ((basis.begins (execution_from now) bound).0 clear 0) in
      record {
        last = both.0;
        is = subst (λ steps. run_from app.act steps bound first ≡ Some both.0) all both.1;
        log_is = both.2.log-is ∙ (basis.joins_with_none done (basis.parts_in_order bound entries stands.ordered).0).1;
      }

  -- two runs to one bound that come to an end come to the same one
  pub one_run : (first : State V) (bound : Bound) (steps others : ℕ) (last other : Execution V) → run_from app.act steps bound first ≡ Some last → run_from app.act others bound first ≡ Some other → last ≡ other
  one_run first bound steps others last other is other_is =
      let not_past_earlier : steps + others ≡ others + steps = omega arith in
      let longer = subst (λ n. run_from app.act n bound first ≡ Some last) not_past_earlier (basis.greater_limits (execution_from first) steps others bound last is) in
      same_Some last other (sym longer ∙ basis.greater_limits (execution_from first) others steps bound other other_is)

  -- so entries with which one state stands for the rest are the same, up to a bound that no pending task is before
  pub same_entries : (first now : State V) (entries others : List Entry) (bound : Bound) → is_clear_before bound (execution_from now) ≡ true → StandsFor app first entries now
      → StandsFor app first others now → entries_before bound entries ≡ entries_before bound others
  same_entries first now entries others bound clear stands other_stands =
      let run = run_to first now entries bound clear stands in
      let other = run_to first now others bound clear other_stands in
      sym run.log_is ∙ ap (λ (e : Execution V). e.log) (one_run first bound _ _ run.last other.last run.is other.is) ∙ other.log_is

  -- ---- rounds

  pub rounds_stand : (rounds : ℕ) (first state now : State V) (entries : List Entry) → StandsFor app first entries state → LeadsByRounds app rounds state now
      → StandsFor app first (entries_after app rounds entries state) now
  rounds_stand zero first state now entries stands leads = subst (StandsFor app first entries) (sym leads) stands
  rounds_stand (suc rounds) first state now entries stands leads =
      rounds_stand rounds first (after_round app state) now (joined_by_key entries (entries_of app.act state.cells (clear_tasks app state)))
      (basis.rounds_stand first state entries stands) leads.1

  -- ---- what was drained

  module _ (start now : Progress V) (state : State V) (text : List ℕ) (rounds : ℕ) (ready : IsReady app (state_at_rest start)) (rest : IsAtRest app start (values_of start.cells) state text now) where
    abbrev first : State V
    first = state_at_rest start

    abbrev here : State V
    here = whole_state now rest.values

    drained_is : LeadsByRounds app rounds first here → drainable app now.nodes now.log ≡ []
        → rest.course.drained ≡ entries_before (first_pending here.pending) (joined_by_key start.log (entries_after app rounds [] first))
    drained_is leads none =
        let course = rest.course in
        let come = course.come in
        let entries = course.entries in
        let drained = course.drained in
        let others = entries_after app rounds [] first in
        let bound = first_pending here.pending in
        let drain = basis.next_drain start (values_of start.cells) drained entries now [] rest.values come in
        let clear = none_before_first rest.values here.pending come.sound.keys_and_counts.graph.ascending in
        let same = same_entries first here entries others bound clear come.stands (rounds_stand rounds first first here [] (basis.starts_stand first ready) leads) in
        sym (ap (λ more. drained ++ more) none ∙ append-nil drained) ∙ drain.all ∙ ap (λ b. entries_before b (drained ++ now.log)) (bound_is now.nodes)
        ∙ ap (entries_before bound) (sym come.logged) ∙ (basis.parts_join bound start.log entries).0 ∙ ap (joined_by_key (entries_before bound start.log)) same
        ∙ sym (basis.parts_join bound start.log others).0

    kept_here : LeadsByRounds app rounds first here → now.ended ≡ start.ended + acted_in app rounds first → drainable app now.nodes now.log ≡ [] → KeepsAfter app start rounds here text
    kept_here leads count none =
        let come = rest.course.come in
        let counts = come.sound.keys_and_counts in
        record {
          leads = leads;
          within = omega (arith, count, come.limit, counts.created, counts.within, length-map now.nodes (λ (node : Node). node.task));
          text_is = rest.course.text_is ∙ ap joined_texts (drained_is leads none);
        }

  pub drained_texts_are_kept : DrainedTextsAreKept app
  drained_texts_are_kept start now state text rounds begins rest leads count none =
      let first = state_at_rest start in
      let ready = subst (IsReady app) begins.state_is begins.course.come.sound.ready in
      subst (λ (s : State V). KeepsAfter app start rounds s text) rest.state_is
      (kept_here start now state text rounds ready rest (subst (LeadsByRounds app rounds first) (sym rest.state_is) leads) count none)
