-- Where the parts of a run have come, when a task acts, a log is drained, and nothing is left.
use Rattle.std.proofs.Common.{◌≡◌, false, ℕ, ◌+◌, ◌-◌, ◌<◌, ◌≤◌, List, [], ◌∷◌, ◌++◌, length, Option, Some, None, refl, sym, ap, ◌∙◌, subst, arith, append-nil, append_assoc}
use Rattle.std.specs.Prelude.{Contains, IsSomeAnd}
use Rattle.std.specs.List.{AllByRecursion}
use Rattle.plain_laws.specs.Lists.{All-behind}
use Rattle.plain_laws.specs.Members.{all_at}
use Rattle.task_order.specs.declared.key.Key.{Key}
use Rattle.task_order.specs.declared.start.Start.{Start}
use Rattle.task_order.specs.declared.task.Task.{Task}
use Rattle.task_order.specs.Key.{at_key, child_key, end}
use Rattle.task_order.specs.TaskList.{IsAscending, put_all}
use Rattle.cell_store.specs.declared.cell.Cell.{Cell}
use Rattle.cell_store.specs.Values.{homes, values_of}
use Rattle.output_log.specs.Entries.{Entry, IsInKeyOrder, IsNewEntry, entries_before, joined_texts, with_entry}
use Rattle.output_log.specs.EntryLaws.{IsInKeyOrder-last, AreBefore, put_behind}
use Rattle.app_laws.specs.declared.serial_run.Finals.{Finals}
use Rattle.app_laws.specs.Applications.{Application, AreFitStarts}
use Rattle.app_laws.specs.Execution.{Execution, first_from}
use Rattle.app_laws.specs.Order.{is_prefix}
use Rattle.app_laws.specs.Serial.{IsRun}
use Rattle.app_laws.specs.TaskLaws.{length-first_from}
use Rattle.commuting.specs.Clear.{IsClear}
use Rattle.commuting.specs.Commuting.{BothEnd}
use Rattle.commuting.specs.Rounds.{TakesRounds}
use Rattle.commuting.specs.Standing.{ComeBefore, IsEndWith, StandsFor}
use Rattle.commuting.specs.States.{State, after_task, execution_from, run_from, state_of}
use Rattle.commuting.specs.EndLaws.{both_before, end_beside, given_up, new_where_unlogged, none_before}
use Rattle.crew.specs.declared.answers.OverCause.{OverCause}
use Rattle.crew.specs.declared.answers.OverCause.TheVariants as cause
use Rattle.list_rounds.specs.declared.parts.RunParts.{RunParts}
use Rattle.list_rounds.specs.Acting.{HasActed, IsTooMany}
use Rattle.list_rounds.specs.Basis.{Basis}
use Rattle.list_rounds.specs.Course.{GoesOnFrom, HasCome, IsDrained, IsEndBehind, IsOnCourse, drainable, state_in, undrainable}
use Rattle.list_rounds.specs.Rounds.{IsOverLimit, IsRunFault, most_tasks, start_state}
use Rattle.list_rounds.proofs.Family.{all_after}
use Rattle.list_rounds.proofs.Lists.{before_is_earlier, before_later, earlier_than_later}

module _ {V : Type 0} {app : Application V} (basis : Basis app) where
  -- ---- the start

  starts_stand : (cells : List V) (first : List Start) → app.is_fit_cells cells → AreFitStarts app first → StandsFor app (start_state cells first) [] (start_state cells first)
  starts_stand cells first fit fit_first = basis.starts (start_state cells first) (basis.starts_ready cells first fit fit_first)

  its_own_end : (run : Option (Execution V)) → BothEnd (IsEndBehind 0 []) run run
  its_own_end None = tt
  its_own_end (Some e) = record { cells_are = refl; text_is = refl; count_is = omega arith }

  from_itself : (start : State V) → GoesOnFrom app start 0 [] start
  from_itself start limit =
      let all : limit ≡ 0 + limit = omega arith in
      subst (λ n. BothEnd (IsEndBehind 0 []) (run_from app.act n end start) (run_from app.act limit end start)) all (its_own_end (run_from app.act limit end start))

  pub values_are : (store : List (Cell V)) (values : List V) → store ≡ homes values → values_of store ≡ values
  values_are store values is = ap values_of is ∙ basis.values.values_of_homes values

  pub start_is : (cells : List V) (first : List Start) (store : List (Cell V)) (pending : List Task) → store ≡ homes cells → pending ≡ put_all (first_from 0 first) [] → state_of (values_of store) pending ≡ start_state cells first
  start_is cells first store pending home puts = ap (λ values. state_of values pending) (values_are store cells home) ∙ ap (state_of cells) puts

  pub starts_have_come : (cells : List V) (first : List Start) (limit : ℕ) (parts : RunParts V) → app.is_fit_cells cells → AreFitStarts app first → parts.store ≡ homes cells → parts.pending ≡ put_all (first_from 0 first) []
      → parts.log.entries ≡ [] → parts.text ≡ [] → parts.ended ≡ 0 → length first ≤ limit → limit ≤ most_tasks → HasCome app (start_state cells first) limit 0 parts
  starts_have_come cells first limit parts fit fit_first home puts log text ended within limited =
      let start = start_state cells first in
      let is = start_is cells first parts.store parts.pending home puts in
      record {
        course = record {
          origin = start;
          ended_before = 0;
          text_before = [];
          from_origin = from_itself start;
          drained = [];
          home = home ∙ ap homes (sym (values_are parts.store cells home));
          stands = subst (λ (entries : List Entry). StandsFor app start entries (state_in parts)) (sym log)
              (subst (StandsFor app start []) (sym is) (starts_stand cells first fit fit_first));
          earlier = none_before parts.pending;
          text_is = text;
          ended_is = omega (arith, ended, ap length log);
        };
        goes_on = λ more takes.
            let all : more ≡ 0 + more = omega arith in
            subst (λ n. TakesRounds app n start) all (subst (TakesRounds app more) is takes);
        some_each = omega arith;
        within = let all = basis.put_all_adds (first_from 0 first) [] in let each = length-first_from 0 first in omega (arith, ended, within, ap length puts, all, each);
        limited = limited;
      }

  -- too many first tasks
  pub too_many_at_start : (cells : List V) (first : List Start) (limit created : ℕ) → app.is_fit_cells cells → AreFitStarts app first → created ≡ length first → limit < created → IsOverLimit app (start_state cells first) limit created limit
  too_many_at_start cells first limit created fit fit_first many above =
      let start = start_state cells first in
      let all = basis.put_all_adds (first_from 0 first) [] in
      let each = length-first_from 0 first in
      record {
        too_long = basis.too_many start start [] (starts_stand cells first fit fit_first) limit (omega arith) (omega (arith, all, each, many, above));
        limit_is = refl;
        above = above;
      }

  module _ {start : State V} {old : RunParts V} (course : IsOnCourse app start old) where
    -- where the execution from the origin doesn't end, that from the start doesn't
    never_from : (limit : ℕ) → course.ended_before ≤ limit → run_from app.act (limit - course.ended_before) end course.origin ≡ None → run_from app.act limit end start ≡ None
    never_from limit before never =
        let all : course.ended_before + (limit - course.ended_before) ≡ limit = omega (arith, before) in
        subst (λ n. run_from app.act n end start ≡ None) all
        (given_up (IsEndBehind course.ended_before course.text_before) (run_from app.act (course.ended_before + (limit - course.ended_before)) end start)
        (run_from app.act (limit - course.ended_before) end course.origin) (course.from_origin (limit - course.ended_before)) never)

    -- a pending task's key is new in the log
    pub new_entry : (task : Task) → Contains old.pending task → IsNewEntry task.key old.log.entries
    new_entry task there =
        new_where_unlogged task.key old.log.entries
        (All-behind (λ (entry : Entry). is_prefix task.key.path entry.0.path ≡ false) course.drained old.log.entries
        (all_at (λ (other : Task). AllByRecursion (λ (entry : Entry). is_prefix other.key.path entry.0.path ≡ false) (course.drained ++ old.log.entries)) old.pending task course.stands.unlogged there))

    -- ---- a clear task acts

    module _ (task : Task) (clear : IsClear app (state_in old) task) where
      abbrev entries_after : List Entry
      entries_after = with_entry task.key (app.act task (values_of old.store)).text (course.drained ++ old.log.entries)

      stands_after : StandsFor app course.origin entries_after (after_task app.act task (state_in old))
      stands_after = basis.acts course.origin (state_in old) (course.drained ++ old.log.entries) task course.stands clear

      one_more : course.ended_before + length entries_after ≡ old.ended + 1
      one_more =
          let longer = basis.joins_add_lengths (course.drained ++ old.log.entries) ((task.key, (app.act task (values_of old.store)).text) ∷ []) in
          omega (arith, longer, course.ended_is)

      earlier_after : ComeBefore course.drained (after_task app.act task (state_in old)).pending
      earlier_after =
          all_after basis course.stands.ready clear.pending (λ (key : Key). AreBefore key course.drained)
          (λ parent number prio later. earlier_than_later basis.transitive course.drained parent (child_key parent number prio) (basis.children_later parent number prio later)) course.earlier

      some_pending : 0 < length old.pending
      some_pending = let there = clear.pending.1 in omega (arith, there)

      pub never_ends : (limit : ℕ) (fault : OverCause) → old.ended + length old.pending ≤ limit → IsTooMany app old task limit fault → IsRunFault app start limit fault
      never_ends limit (cause.Budget created most) within many = record {
        too_long = never_from limit (let some = some_pending in omega (arith, one_more, within, some))
            (basis.too_many course.origin (after_task app.act task (state_in old)) entries_after stands_after (limit - course.ended_before)
            (let some = some_pending in omega (arith, one_more, within, some))
            (omega (arith, one_more, many.0, many.2)));
        limit_is = many.1;
        above = many.2;
      }
      never_ends limit cause.NoRoom within many = tt

      module _ (now : RunParts V) (acted : HasActed app old task now) where
        cells_are : values_of now.store ≡ (app.act task (values_of old.store)).cells
        cells_are = values_are now.store (app.act task (values_of old.store)).cells acted.store

        pub state_after : state_in now ≡ after_task app.act task (state_in old)
        state_after = ap (λ values. state_of values now.pending) cells_are ∙ ap (state_of (app.act task (values_of old.store)).cells) acted.pending

        log_after : entries_after ≡ course.drained ++ now.log.entries
        log_after =
            put_behind task.key (app.act task (values_of old.store)).text course.drained old.log.entries
            (all_at (λ (other : Task). AreBefore other.key course.drained) old.pending task course.earlier clear.pending)
            ∙ ap (λ log. course.drained ++ log) (sym acted.log)

        pub acts_keep_course : IsOnCourse app start now
        acts_keep_course = record {
          origin = course.origin;
          ended_before = course.ended_before;
          text_before = course.text_before;
          from_origin = course.from_origin;
          drained = course.drained;
          home = acted.store ∙ ap homes (sym cells_are);
          stands = subst (λ (entries : List Entry). StandsFor app course.origin entries (state_in now)) log_after (subst (StandsFor app course.origin entries_after) (sym state_after) stands_after);
          earlier = subst (ComeBefore course.drained) (sym acted.pending) earlier_after;
          text_is = acted.text ∙ course.text_is;
          ended_is = omega (arith, acted.ended, one_more, ap length log_after);
        }

    -- ---- a drain

    drained_parts : (pending : List Task) (log : List Entry) → IsInKeyOrder log → log ≡ drainable pending log ++ undrainable pending log
    drained_parts [] log ordered = sym (append-nil log)
    drained_parts (first ∷ tasks) log ordered = basis.earlier_first (at_key first.key) log ordered

    drainable_before : (pending : List Task) (log : List Entry) → IsAscending pending → ComeBefore (drainable pending log) pending
    drainable_before [] log ascending = tt
    drainable_before (first ∷ tasks) log ascending =
        let all = before_is_earlier first.key log in
        (all, before_later basis.transitive (entries_before (at_key first.key) log) first.key tasks ascending.0 all)

    module _ (now : RunParts V) (drain : IsDrained old now) where
      pub same_state : state_in now ≡ state_in old
      same_state = ap (λ store. state_of (values_of store) now.pending) drain.store ∙ ap (state_of (values_of old.store)) drain.pending

      pub drains_keep_course : IsOnCourse app start now
      drains_keep_course =
          let more = drainable old.pending old.log.entries in
          let rest = undrainable old.pending old.log.entries in
          let whole : course.drained ++ old.log.entries ≡ (course.drained ++ more) ++ now.log.entries =
          ap (λ log. course.drained ++ log) (drained_parts old.pending old.log.entries (IsInKeyOrder-last course.drained old.log.entries course.stands.ordered))
          ∙ sym (append_assoc course.drained more rest) ∙ ap (λ log. (course.drained ++ more) ++ log) (sym drain.log) in
          record {
            origin = course.origin;
            ended_before = course.ended_before;
            text_before = course.text_before;
            from_origin = course.from_origin;
            drained = course.drained ++ more;
            home = drain.store ∙ course.home ∙ ap (λ store. homes (values_of store)) (sym drain.store);
            stands = subst (λ (entries : List Entry). StandsFor app course.origin entries (state_in now)) whole (subst (StandsFor app course.origin (course.drained ++ old.log.entries)) (sym same_state) course.stands);
            earlier = subst (ComeBefore (course.drained ++ more)) (sym drain.pending)
                (both_before course.drained more old.pending course.earlier (drainable_before old.pending old.log.entries course.stands.ready.ascending));
            text_is =
                drain.text ∙ ap (λ text. text ++ joined_texts more) course.text_is ∙ append_assoc course.text_before (joined_texts course.drained) (joined_texts more)
                ∙ ap (λ text. course.text_before ++ text) (sym (basis.texts_follow course.drained more));
            ended_is = omega (arith, drain.ended, course.ended_is, ap length whole);
          }

    -- ---- the end

    ends_with : (limit : ℕ) (finals : Finals V) (run : Option (Execution V)) → course.ended_before ≤ limit → run_from app.act (limit - course.ended_before) end course.origin ≡ run
        → IsSomeAnd run (IsEndWith (course.drained ++ old.log.entries) (values_of old.store)) → finals.store ≡ old.store → finals.text ≡ old.text ++ joined_texts old.log.entries → finals.count ≡ old.ended
        → IsRun app.act limit (execution_from start) finals
    ends_with limit finals None before is ended store text count = absurd ended
    ends_with limit finals (Some last) before is ended store text count =
        let all : course.ended_before + (limit - course.ended_before) ≡ limit = omega (arith, before) in
        let behind = end_beside (IsEndBehind course.ended_before course.text_before) (run_from app.act (course.ended_before + (limit - course.ended_before)) end start)
        (run_from app.act (limit - course.ended_before) end course.origin) last (course.from_origin (limit - course.ended_before)) is in
        record {
          end = behind.0;
          ends = subst (λ n. run_from app.act n end start ≡ Some behind.0) all behind.1;
          store = store ∙ course.home ∙ ap homes (sym (behind.2.cells_are ∙ ended.cells-are));
          text =
              text ∙ ap (λ first. first ++ joined_texts old.log.entries) course.text_is ∙ append_assoc course.text_before (joined_texts course.drained) (joined_texts old.log.entries)
              ∙ ap (λ first. course.text_before ++ first) (sym (basis.texts_follow course.drained old.log.entries) ∙ ap joined_texts (sym ended.log-is))
              ∙ sym behind.2.text_is;
          count = omega (arith, count, course.ended_is, ap length ended.log-is, behind.2.count_is);
        }

    pub nothing_left_is_the_end : (limit : ℕ) (finals : Finals V) → old.ended + length old.pending ≤ limit → old.pending ≡ [] → finals.store ≡ old.store → finals.text ≡ old.text ++ joined_texts old.log.entries
        → finals.count ≡ old.ended → IsRun app.act limit (execution_from start) finals
    nothing_left_is_the_end limit finals within none store text count =
        let ended = course.ended_is in
        ends_with limit finals (run_from app.act (limit - course.ended_before) end course.origin) (omega (arith, ended, within)) refl
        (basis.end course.origin (state_in old) (course.drained ++ old.log.entries) course.stands none (limit - course.ended_before) (omega (arith, ended, within)))
        store text count
