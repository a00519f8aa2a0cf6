-- A run goes on where its pending tasks get other paths.
use Rattle.std.proofs.Common.{◌≡◌, false, ℕ, ◌+◌, List, [], ◌∷◌, ◌++◌, length, Some, refl, sym, ap, ◌∙◌, subst, arith, append-nil, append_assoc}
use Rattle.std.specs.Prelude.{IfSome}
use Rattle.std.specs.List.{AllByRecursion}
use Rattle.std.proofs.lemmas.List.{length-map}
use Rattle.plain_laws.specs.Lists.{All-behind}
use Rattle.task_order.specs.declared.task.Task.{Task}
use Rattle.task_order.specs.Key.{end}
use Rattle.task_order.specs.TaskList.{put_all}
use Rattle.cell_store.specs.Values.{homes, values_of}
use Rattle.output_log.specs.Entries.{Entry, IsInKeyOrder, ShareNoKey, joined_by_key, joined_texts, with_texts}
use Rattle.output_log.specs.EntryLaws.{IsInKeyOrder-last, joined_behind, same_texts, share_turned}
use Rattle.app_laws.specs.Applications.{Application, IgnoresNames, PathsAreIgnored}
use Rattle.app_laws.specs.Execution.{Execution, first_from}
use Rattle.app_laws.specs.Order.{is_prefix}
use Rattle.app_laws.specs.RenamingLaws.{as_many_listed}
use Rattle.app_laws.specs.Renumbering.{AreRenumbered}
use Rattle.app_laws.specs.TaskLaws.{length-first_from}
use Rattle.app_laws.specs.ListedLaws.{listed_fit}
use Rattle.commuting.specs.Clear.{IsReady}
use Rattle.commuting.specs.Commuting.{BothEnd}
use Rattle.commuting.specs.Renaming.{ComesToSame, HasSameTexts}
use Rattle.commuting.specs.Standing.{IsLaterLog, IsRestOf, StandsFor}
use Rattle.commuting.specs.States.{State, run_from, state_of}
use Rattle.commuting.specs.EndLaws.{none_before}
use Rattle.list_rounds.specs.declared.parts.RunParts.{RunParts}
use Rattle.list_rounds.specs.Basis.{Basis}
use Rattle.list_rounds.specs.Course.{GoesOnFrom, HasCome, IsEndBehind, IsOnCourse, state_in}
use Rattle.list_rounds.specs.Renaming.{IsRenumbered}
use Rattle.list_rounds.proofs.Beside.{both_through}

-- ---- texts where later entries come behind, among some without a text

module _ {V : Type 0} {app : Application V} (basis : Basis app) where
  texts_behind : (drained silent rest : List Entry) → IsInKeyOrder (drained ++ silent) → with_texts silent ≡ [] → IsLaterLog drained rest → ShareNoKey (drained ++ silent) rest → ShareNoKey silent rest
      → joined_texts (joined_by_key rest (drained ++ silent)) ≡ joined_texts drained ++ joined_texts rest
  texts_behind drained silent rest ordered none logs new unheard =
      let turned = share_turned silent rest unheard in
      let back = IsInKeyOrder-last drained silent ordered in
      ap joined_texts (sym (basis.joins_commute (drained ++ silent) rest ordered logs.ordered new) ∙ joined_behind drained silent rest logs.later)
      ∙ basis.texts_follow drained (joined_by_key silent rest)
      ∙ ap (λ texts. joined_texts drained ++ texts) (ap joined_texts (basis.joins_commute silent rest back logs.ordered unheard) ∙ basis.silent_joins rest silent logs.ordered back turned none)

  -- ---- the tasks that are listed

  -- ---- the run from the new tasks

  module _ {start : State V} {old : RunParts V} (course : IsOnCourse app start old) (now : RunParts V) (ignored : PathsAreIgnored app) (silent : with_texts old.log.entries ≡ []) (names : IsRenumbered old now) where
    abbrev entries : List Entry
    entries = course.drained ++ old.log.entries

    next_is : state_of (values_of old.store) (put_all (first_from 0 names.first) []) ≡ state_in now
    next_is = ap (λ store. state_of (values_of store) (put_all (first_from 0 names.first) [])) (sym names.store) ∙ ap (state_of (values_of now.store)) (sym names.pending)

    comes : ComesToSame app (state_in old) (state_in now)
    comes = subst (ComesToSame app (state_in old)) next_is (basis.come_to_same ignored (state_in old) course.stands.ready names.first names.listed)

    next_ready : IsReady app (state_in now)
    next_ready =
        let ready = course.stands.ready in
        subst (IsReady app) next_is (basis.starts_ready (values_of old.store) names.first ready.cells (listed_fit app old.pending names.first names.listed ready.tasks))

    -- from the start to the state in which the tasks got other paths
    behind_here : (limit : ℕ) (e middle last : Execution V) → run_from app.act limit end (state_in old) ≡ Some last → IsEndBehind course.ended_before course.text_before e middle
        → IsRestOf end entries middle last → IsEndBehind old.ended old.text e last
    behind_here limit e middle last is before rest =
        let stands = course.stands in
        let later : IsLaterLog course.drained last.log = subst (λ run. IfSome run (λ f. IsLaterLog course.drained f.log)) is (basis.log_later (state_in old) course.drained stands.ready course.earlier limit end) in
        let new : ShareNoKey entries last.log = subst (λ run. IfSome run (λ f. ShareNoKey entries f.log)) is (basis.log_new_keys (state_in old) entries stands.ready stands.unlogged limit end) in
        let unlogged = silent_unlogged old.pending stands.unlogged in
        let unheard : ShareNoKey old.log.entries last.log = subst (λ run. IfSome run (λ f. ShareNoKey old.log.entries f.log)) is (basis.log_new_keys (state_in old) old.log.entries stands.ready unlogged limit end) in
        record {
          cells_are = before.cells_are ∙ rest.cells-are refl;
          text_is =
              before.text_is
              ∙ ap (λ text. course.text_before ++ text) (ap joined_texts rest.log-is ∙ texts_behind course.drained old.log.entries last.log stands.ordered silent later new unheard)
              ∙ sym (append_assoc course.text_before (joined_texts course.drained) (joined_texts last.log)) ∙ ap (λ text. text ++ joined_texts last.log) (sym course.text_is);
          count_is = omega (arith, before.count_is, ap length rest.log-is, basis.joins_add_lengths last.log entries, course.ended_is);
        }
      where
        silent_unlogged : (tasks : List Task) → AllByRecursion (λ (task : Task). AllByRecursion (λ (entry : Entry). is_prefix task.key.path entry.0.path ≡ false) entries) tasks
            → AllByRecursion (λ (task : Task). AllByRecursion (λ (entry : Entry). is_prefix task.key.path entry.0.path ≡ false) old.log.entries) tasks
        silent_unlogged [] all = tt
        silent_unlogged (task ∷ tasks) all = (All-behind (λ (entry : Entry). is_prefix task.key.path entry.0.path ≡ false) course.drained old.log.entries all.0, silent_unlogged tasks all.1)

    to_here : (limit : ℕ) → BothEnd (IsEndBehind old.ended old.text) (run_from app.act (old.ended + limit) end start) (run_from app.act limit end (state_in old))
    to_here limit =
        let all : course.ended_before + (length entries + limit) ≡ old.ended + limit = omega (arith, course.ended_is) in
        let rest = subst (λ (done : List Entry). BothEnd (IsRestOf end done) (run_from app.act (length done + limit) end course.origin) (run_from app.act limit end (state_in old)))
        (basis.before_end entries) (course.stands.same_rest end limit) in
        subst (λ n. BothEnd (IsEndBehind old.ended old.text) (run_from app.act n end start) (run_from app.act limit end (state_in old))) all
        (both_through (IsEndBehind course.ended_before course.text_before) (IsRestOf end entries) (IsEndBehind old.ended old.text)
        (run_from app.act (course.ended_before + (length entries + limit)) end start) (run_from app.act (length entries + limit) end course.origin) (run_from app.act limit end (state_in old))
        (course.from_origin (length entries + limit)) rest (behind_here limit))

    -- and on under these
    goes_on : GoesOnFrom app start old.ended old.text (state_in now)
    goes_on limit =
        let text_of = λ (entry : Entry). entry.1 in
        both_through (IsEndBehind old.ended old.text) HasSameTexts (IsEndBehind old.ended old.text) (run_from app.act (old.ended + limit) end start)
        (run_from app.act limit end (state_in old)) (run_from app.act limit end (state_in now)) (to_here limit) (comes.ends limit)
        (λ e middle last is before same. record {
          cells_are = before.cells_are ∙ same.cells_are;
          text_is = before.text_is ∙ ap (λ text. old.text ++ text) (same_texts middle.log last.log same.texts_are);
          count_is = omega (arith, before.count_is, length-map middle.log text_of, length-map last.log text_of, ap length same.texts_are);
        })

    pub names_keep_course : IsOnCourse app start now
    names_keep_course = record {
      origin = state_in now;
      ended_before = old.ended;
      text_before = old.text;
      from_origin = goes_on;
      drained = [];
      home = names.store ∙ course.home ∙ ap (λ store. homes (values_of store)) (sym names.store);
      stands = subst (λ (log : List Entry). StandsFor app (state_in now) log (state_in now)) (sym names.log) (basis.starts (state_in now) next_ready);
      earlier = none_before now.pending;
      text_is = names.text ∙ sym (append-nil old.text);
      ended_is = omega (arith, names.ended, ap length names.log);
    }

    as_many : length now.pending ≡ length old.pending
    as_many =
        let adds = basis.put_all_adds (first_from 0 names.first) [] in
        omega (arith, ap length names.pending, adds, length-first_from 0 names.first, as_many_listed old.pending names.first names.listed)

    pub names_keep_come : (limit rounds : ℕ) → HasCome app start limit rounds old → HasCome app start limit rounds now
    names_keep_come limit rounds come = record {
      course = names_keep_course;
      goes_on = λ more takes. come.goes_on more (comes.rounds more takes);
      some_each = let each = come.some_each in omega (arith, each, names.ended);
      within = let bound = come.within in omega (arith, bound, names.ended, as_many);
      limited = come.limited;
    }

    pub tasks_renumbered : AreRenumbered old.pending now.pending
    tasks_renumbered =
        let ready = course.stands.ready in
        record { first = names.first; named = basis.named old.pending names.first ready.ascending ready.apart names.listed; are = names.pending }

    -- what is known of the tasks is known of them under other paths
    pub told_of_names : (IsSo : List Task → Type 0) → IgnoresNames IsSo → IsSo old.pending → IsSo now.pending
    unfolding tasks_renumbered
    told_of_names IsSo ignores so =
        let named = tasks_renumbered.named in
        subst IsSo (named.are_first ∙ sym names.pending) (ignores old.pending named.name named.has_name named.naming named.have_names so)
