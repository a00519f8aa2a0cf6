-- Where pending tasks become first tasks, what is kept from there is kept from the start too, behind the text so far.
use Rattle.std.proofs.Common.{◌≡◌, ℕ, ◌+◌, ◌-◌, ◌≤◌, true, List, [], ◌++◌, length, Some, sym, ap, subst, ◌∙◌, arith}
use Rattle.std.specs.Prelude.{IfSome, map}
use Rattle.std.specs.List.{AllByRecursion}
use Rattle.std.proofs.lemmas.List.{length-map}
use Rattle.std.proofs.lemmas.List.Elements.{filter-append}
use Rattle.plain_laws.specs.Lists.{All-filter, All-weaker}
use Rattle.task_order.specs.declared.start.Start.{Start}
use Rattle.task_order.specs.declared.task.Task.{Task}
use Rattle.task_order.specs.Key.{Bound}
use Rattle.task_order.specs.TaskList.{put_all}
use Rattle.cell_store.specs.Values.{values_of}
use Rattle.kdg_graph.specs.Nodes.{tasks_of}
use Rattle.output_log.specs.Entries.{Entry, ShareNoKey, entries_before, is_entry_before, joined_by_key, joined_texts, with_texts}
use Rattle.app_laws.specs.Applications.{Application, PathsAreIgnored}
use Rattle.app_laws.specs.Execution.{Execution, first_from, is_clear_before}
use Rattle.app_laws.specs.Names.{AreListed, renamed}
use Rattle.app_laws.specs.Order.{is_prefix}
use Rattle.app_laws.specs.Renaming.{AreNamed, renamed_entry}
use Rattle.commuting.specs.Clear.{IsReady}
use Rattle.commuting.specs.Renaming.{renamed_state}
use Rattle.commuting.specs.Rounds.{after_round, clear_tasks}
use Rattle.commuting.specs.Standing.{AreUnlogged, IsLaterLog, StandsFor}
use Rattle.commuting.specs.States.{State, execution_from, run_from, state_of}
use Rattle.commuting.specs.EndLaws.{end_beside}
use Rattle.run_laws.specs.CourseLaws.{IsJoinedRest}
use Rattle.run_laws.specs.Progress.{Progress, whole_state}
use Rattle.source_pool.specs.Basis.{Basis}
use Rattle.source_pool.specs.Course.{IsAtRest, LeadsByRounds}
use Rattle.source_pool.specs.Kept.{IsLastAfter, KeepsAfter, KeepsBehind, acted_in, entries_after, first_pending}
use Rattle.source_pool.specs.Legs.{BeginsAtRest}
use Rattle.source_pool.specs.Runs.{state_at_rest}
use Rattle.source_pool.proofs.JoinedTexts.{texts_of_rest}
use Rattle.source_pool.proofs.Kept.{RunTo, none_before_first, one_run, rounds_stand, run_to}
use Rattle.source_pool.proofs.KeptLater.{acted_add, before_first, leads_on_to, rounds_follow, silent_part}
use Rattle.source_pool.proofs.KeptNames.{IsSameAfter, before_first-renamed, joined-renamed, same_after, texts_renamed}

module _ {V : Type 0} {app : Application V} (basis : Basis app) (start now next : Progress V) (state : State V) (text : List ℕ) (rounds : ℕ) (ignored : PathsAreIgnored app)
    (begins : BeginsAtRest app start) (rest : IsAtRest app start (values_of start.cells) state text now) (leads : LeadsByRounds app rounds (state_at_rest start) state)
    (count : now.ended ≡ start.ended + acted_in app rounds (state_at_rest start)) (silent : with_texts now.log ≡ []) (first_tasks : List Start)
    (listed : AreListed (tasks_of now.nodes) first_tasks) (next_is : state_of rest.values (put_all (first_from 0 first_tasks) []) ≡ state_at_rest next)
    (same_ended : next.ended ≡ now.ended) (same_limit : next.limit ≡ start.limit) (log_is : next.log ≡ []) where
  abbrev first : State V
  first = state_at_rest start

  abbrev here : State V
  here = whole_state now rest.values

  abbrev drained : List Entry
  drained = rest.course.drained

  ready : IsReady app here
  ready = rest.course.come.stands.ready

  leads_here : LeadsByRounds app rounds first here
  leads_here = subst (LeadsByRounds app rounds first) (sym rest.state_is) leads

  names : AreNamed here.pending first_tasks
  names = basis.are_named here.pending first_tasks ready.ascending ready.apart listed

  begins_named : renamed_state names.name here ≡ state_at_rest next
  begins_named = ap (state_of rest.values) names.are_first ∙ next_is

  module _ (more : ℕ) (last : State V) (kept : List ℕ) (its : KeepsAfter app next more last kept) where
    same : IsSameAfter basis ignored names.naming more here [] last
    same = same_after basis ignored names.naming more here [] last ready names.have_names tt (subst (λ (s : State V). LeadsByRounds app more s last) (sym begins_named) its.leads)

    abbrev there : State V
    there = same.there

    abbrev bound : Bound
    bound = first_pending there.pending

    clear : is_clear_before bound (execution_from there) ≡ true
    clear = none_before_first basis there.cells there.pending same.ready.ascending

    -- ---- the entries of the rounds from here, and those from the start

    abbrev entries_here : List Entry
    entries_here = entries_after app more [] here

    abbrev entries_first : List Entry
    entries_first = entries_after app (rounds + more) [] first

    stands_here : StandsFor app here entries_here there
    stands_here = rounds_stand basis more here here there [] (basis.starts_stand here ready) same.leads

    all_lead : LeadsByRounds app (rounds + more) first there
    all_lead = leads_on_to app rounds more first here there leads_here same.leads

    run_here : RunTo app here bound (entries_before bound entries_here)
    run_here = run_to basis here there entries_here bound clear stands_here

    run_first : RunTo app first bound (entries_before bound entries_first)
    run_first =
        let first_ready = subst (IsReady app) begins.state_is begins.course.come.sound.ready in
        run_to basis first there entries_first bound clear (rounds_stand basis (rounds + more) first first there [] (basis.starts_stand first first_ready) all_lead)

    -- ---- those that had ended before

    abbrev ended : List Entry
    ended = entries_before bound rest.course.entries

    joined : (e : Execution V) × (run_from app.act (length ended + length (entries_before bound entries_here)) bound first ≡ Some e) × IsJoinedRest app bound ended e run_here.last
    joined =
        end_beside (IsJoinedRest app bound ended) (run_from app.act (length ended + length (entries_before bound entries_here)) bound first)
        (run_from app.act (length (entries_before bound entries_here)) bound here) run_here.last
        ((basis.runs start (values_of start.cells) drained rest.course.entries now [] rest.values rest.course.come).runs bound (length (entries_before bound entries_here))) run_here.is

    entries_are : entries_before bound entries_first ≡ joined_by_key ended run_here.last.log
    entries_are = sym run_first.log_is ∙ ap (λ (e : Execution V). e.log) (one_run basis first bound _ _ run_first.last joined.0 run_first.is joined.1) ∙ joined.2.log

    -- all that was drained is kept, and what the log has still is silent
    parts : joined_by_key (entries_before bound start.log) ended ≡ drained ++ entries_before bound now.log
    parts =
        let follows = rounds_follow basis drained more here there ready rest.course.come.earlier same.leads in
        sym (basis.parts_join bound start.log rest.course.entries).0 ∙ ap (entries_before bound) rest.course.come.logged ∙ filter-append (is_entry_before bound) drained now.log
        ∙ ap (λ front. front ++ entries_before bound now.log) (before_first basis drained there.pending follows)

    texts : joined_texts (joined_by_key (entries_before bound start.log) (joined_by_key ended run_here.last.log)) ≡ joined_texts drained ++ joined_texts run_here.last.log
    texts =
        let come = rest.course.come in
        let counts = come.sound.keys_and_counts in
        let steps = length (entries_before bound entries_here) in
        let rest_log = run_here.last.log in
        let logged = entries_before bound now.log in
        let later : IsLaterLog drained rest_log = subst (λ run. IfSome run (λ e. IsLaterLog drained e.log)) run_here.is (basis.log_later here drained ready come.earlier steps bound) in
        let unlogged : AreUnlogged logged here.pending =
        All-weaker (λ (task : Task). AllByRecursion (λ (entry : Entry). is_prefix task.key.path entry.0.path ≡ _) now.log)
        (λ (task : Task). AllByRecursion (λ (entry : Entry). is_prefix task.key.path entry.0.path ≡ _) logged)
        (λ task all. All-filter (λ (entry : Entry). is_prefix task.key.path entry.0.path ≡ _) (is_entry_before bound) now.log all)
        here.pending counts.unlogged in
        let unheard : ShareNoKey logged rest_log = subst (λ run. IfSome run (λ e. ShareNoKey logged e.log)) run_here.is (basis.log_new_keys here logged ready unlogged steps bound) in
        texts_of_rest basis (entries_before bound start.log) ended drained logged rest_log parts (basis.parts_in_order bound rest.course.entries come.stands.ordered).0
        (basis.parts_in_order bound now.log counts.log_ordered).0 (silent_part (is_entry_before bound) now.log silent) later joined.2.apart unheard

    -- ---- what is kept

    kept_is : kept ≡ joined_texts run_here.last.log
    kept_is =
        let name = names.name in
        let Texts = λ (s : State V) (entries : List Entry). joined_texts (entries_before (first_pending s.pending) entries) in
        its.text_is
        ∙ ap (λ (log : List Entry). Texts last (joined_by_key log (entries_after app more [] (state_at_rest next)))) log_is
        ∙ ap (λ (s : State V). Texts last (joined_by_key [] (entries_after app more [] s))) (sym begins_named)
        ∙ ap (λ (entries : List Entry). Texts last (joined_by_key [] entries)) same.entries_are
        ∙ ap (Texts last) (joined-renamed names.naming [] entries_here tt same.named)
        ∙ ap (λ (entries : List Entry). Texts last (map (renamed_entry name) entries)) (basis.joins_with_none entries_here stands_here.ordered).1
        ∙ ap (λ (s : State V). Texts s (map (renamed_entry name) entries_here)) same.now_is
        ∙ ap joined_texts (before_first-renamed names.naming there.pending entries_here same.have same.named)
        ∙ texts_renamed name (entries_before bound entries_here)
        ∙ ap joined_texts (sym run_here.log_is)

    text_is : text ++ kept ≡ joined_texts (entries_before bound (joined_by_key start.log entries_first))
    text_is =
        ap (λ before. before ++ kept) rest.course.text_is ∙ ap (λ after. joined_texts drained ++ after) kept_is ∙ sym texts
        ∙ ap (λ entries. joined_texts (joined_by_key (entries_before bound start.log) entries)) (sym entries_are)
        ∙ ap joined_texts (sym (basis.parts_join bound start.log entries_first).0)

    -- ---- how many tasks there are

    all_acted : acted_in app (rounds + more) first ≡ acted_in app rounds first + acted_in app more (state_at_rest next)
    all_acted = omega (arith, acted_add app rounds more first here leads_here, same.acted, ap (acted_in app more) begins_named)

    pending : length last.pending ≡ length there.pending
    pending = ap (λ (s : State V). length s.pending) same.now_is ∙ length-map there.pending (renamed names.name)

    within : acted_in app (rounds + more) first + length there.pending ≤ start.limit - start.ended
    within =
        let counts = rest.course.come.sound.keys_and_counts in
        omega (arith, its.within, all_acted, pending, count, same_ended, same_limit, rest.course.come.limit, counts.created, counts.within)

    last_there : IsLastAfter app next more last → IsLastAfter app start (rounds + more) there
    last_there is =
        let round = basis.same_round ignored names.name names.has_name names.naming there same.ready same.have in
        let acts = ap (λ (s : State V). length (clear_tasks app s)) same.now_is ∙ ap length round.clear ∙ length-map (clear_tasks app there) (renamed names.name) in
        let after =
        ap (λ (s : State V). length (after_round app s).pending) same.now_is ∙ ap (λ (s : State V). length s.pending) round.after
        ∙ length-map (after_round app there).pending (renamed names.name) in
        let counts = rest.course.come.sound.keys_and_counts in
        record {
          some = λ none. is.some (ap (λ (s : State V). s.pending) same.now_is ∙ ap (map (renamed names.name)) none);
          above = omega (arith, is.above, all_acted, acts, after, count, same_ended, same_limit, rest.course.come.limit, counts.created, counts.within);
        }

    pub keeps_behind : KeepsBehind app start text rounds next more last kept
    keeps_behind = record { there = there; keeps = record { leads = all_lead; within = within; text_is = text_is }; last = last_there }
