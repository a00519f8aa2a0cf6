-- What a drain takes out, and what it leaves where an execution has come.
use Rattle.std.proofs.Common.{◌≡◌, ◌||◌, true, false, not, List, [], ◌∷◌, ◌++◌, length, drop, append-nil, append_assoc, refl, sym, ap, ◌∙◌}
use Rattle.std.specs.List.{AllByRecursion, list_any}
use Rattle.std.specs.declared.cmp.Ordering.TheVariants.{Less}
use Rattle.std.proofs.Math.Seq.{drop-append_seam}
use Rattle.plain_laws.specs.Orderings.{less_from_test, not_less}
use Rattle.plain_laws.specs.Members.{all_at, all_from, from_filter, none_any}
use Rattle.task_order.specs.declared.key.Key.{Key}
use Rattle.task_order.specs.declared.task.Task.{Task}
use Rattle.task_order.specs.Key.{at_key, is_before, key_cmp}
use Rattle.task_order.specs.TaskList.{IsAscending}
use Rattle.task_order.specs.KeyLaws.{not_past_earlier}
use Rattle.output_log.specs.Entries.{Entry, IsInKeyOrder, entries_before, is_entry_before, joined_by_key}
use Rattle.output_log.specs.EntryLaws.{AreBefore, AllAreBefore}
use Rattle.kdg_graph.specs.Node.{Node}
use Rattle.kdg_graph.specs.Nodes.{tasks_of}
use Rattle.app_laws.specs.Applications.{Application}
use Rattle.app_laws.specs.Execution.{is_clear_before}
use Rattle.commuting.specs.Standing.{ComeBefore}
use Rattle.commuting.specs.States.{execution_from}
use Rattle.commuting.specs.EndLaws.{both_before}
use Rattle.run_laws.specs.Basis.{LowerLaws}
use Rattle.run_laws.specs.Course.{HasCome}
use Rattle.run_laws.specs.CourseBasis.{CourseBasis}
use Rattle.run_laws.specs.CourseLaws.{DrainsKeepCourse, DrainsTakeTheNext, least_bound, log_after}
use Rattle.run_laws.specs.Events.{drainable, undrainable}
use Rattle.run_laws.specs.Jobs.{Job}
use Rattle.run_laws.specs.Progress.{Progress, whole_state}
use Rattle.run_laws.proofs.Behind.{all_before_end, before_behind, earlier_by_order, earlier_than_later}
use Rattle.run_laws.proofs.Marks.{marks_and_drains_keep_sound}

-- ---- the least node's bound

before_least : (entries : List Entry) (nodes : List Node) → ComeBefore entries (tasks_of nodes) → AllAreBefore (least_bound nodes) entries
before_least entries [] all = all_before_end entries
before_least entries (least ∷ nodes) all = earlier_by_order least.task.key entries all.0

module _ (lower : LowerLaws) where
  -- no task is earlier than a key that is earlier than all of them
  pub none_earlier : (key : Key) (tasks : List Task) → AllByRecursion (λ (task : Task). key_cmp key task.key ≡ Less) tasks → list_any (λ (task : Task). is_before task.key (at_key key)) tasks ≡ false
  none_earlier key tasks later = none_any (λ (task : Task). is_before task.key (at_key key)) tasks
      (λ task has. not_past_earlier key task.key (all_at (λ (task : Task). key_cmp key task.key ≡ Less) tasks task later has))

  none_before : (nodes : List Node) → IsAscending (tasks_of nodes) → list_any (λ (task : Task). is_before task.key (least_bound nodes)) (tasks_of nodes) ≡ false
  none_before [] ascending = refl
  none_before (least ∷ nodes) ascending =
      let own = not_less (key_cmp least.task.key least.task.key) (λ less. lower.irreflexive least.task.key least.task.key less refl) in
      ap (λ test. test || list_any (λ (task : Task). is_before task.key (at_key least.task.key)) (tasks_of nodes)) own ∙ none_earlier least.task.key (tasks_of nodes) ascending.0

  before_later : (entries : List Entry) (key : Key) (tasks : List Task) → AllByRecursion (λ (task : Task). key_cmp key task.key ≡ Less) tasks → AreBefore key entries → ComeBefore entries tasks
  before_later entries key [] later all = tt
  before_later entries key (task ∷ tasks) later all = (earlier_than_later lower entries key task.key later.0 all, before_later entries key tasks later.1 all)

module _ {V : Type 0} {app : Application V} (basis : CourseBasis app) where
  drainable_is : (nodes : List Node) (log : List Entry) → drainable app nodes log ≡ entries_before (least_bound nodes) log
  drainable_is [] log = sym (basis.all_before_end log)
  drainable_is (least ∷ nodes) log = refl

  pub drained_parts : (nodes : List Node) (log : List Entry) → IsInKeyOrder log → log ≡ drainable app nodes log ++ undrainable app nodes log
  drained_parts [] log ordered = sym (append-nil log)
  drained_parts (least ∷ nodes) log ordered = basis.ended.earlier_first (at_key least.task.key) log ordered

  pub drainable_before : (nodes : List Node) (log : List Entry) → IsAscending (tasks_of nodes) → ComeBefore (drainable app nodes log) (tasks_of nodes)
  drainable_before [] log ascending = tt
  drainable_before (least ∷ nodes) log ascending =
      let key = least.task.key in
      let entries = entries_before (at_key key) log in
      let all : AreBefore key entries =
      all_from (λ (entry : Entry). key_cmp entry.0 key ≡ Less) entries (λ entry has. less_from_test (key_cmp entry.0 key) (from_filter (is_entry_before (at_key key)) log entry has).1) in
      (all, before_later basis.begun.lower entries key (tasks_of nodes) ascending.0 all)

  -- ---- a drain

  module _ {start now : Progress V} {cells : List V} {before entries : List Entry} {jobs : List (Job V)} {values : List V} (come : HasCome app start cells before entries now jobs values) where
    pub drained_all : before ++ drainable app now.nodes now.log ≡ entries_before (least_bound now.nodes) (before ++ now.log)
    drained_all =
        ap (λ last. before ++ last) (drainable_is now.nodes now.log) ∙ sym (before_behind (least_bound now.nodes) before now.log (before_least before now.nodes come.earlier))

    pub clear_to_least : is_clear_before (least_bound now.nodes) (execution_from (whole_state now values)) ≡ true
    clear_to_least = ap not (none_before basis.begun.lower now.nodes come.sound.keys_and_counts.graph.ascending)

    -- all that is earlier than a bound that no node is before is what the start's log had, joined with the log of the first steps
    pub first_to : (bound : _) → is_clear_before bound (execution_from (whole_state now values)) ≡ true
        → entries_before bound (before ++ now.log) ≡ joined_by_key (entries_before bound start.log) (log_after app start cells (length (entries_before bound entries)))
    first_to bound clear =
        ap (entries_before bound) (sym come.logged) ∙ (basis.parts_join bound start.log entries).0
        ∙ ap (joined_by_key (entries_before bound start.log)) (sym (basis.first (whole_state start cells) (whole_state now values) entries bound come.stands clear))

    -- where the start's log was empty
    pub all_entries : start.log ≡ [] → entries ≡ before ++ now.log
    all_entries none = sym (basis.joins_with_none entries come.stands.ordered).1 ∙ ap (λ log. joined_by_key log entries) (sym none) ∙ come.logged

    pub log_to : start.log ≡ [] → (bound : _) → is_clear_before bound (execution_from (whole_state now values)) ≡ true
        → log_after app start cells (length (entries_before bound entries)) ≡ entries_before bound (before ++ now.log)
    log_to none bound clear = basis.first (whole_state start cells) (whole_state now values) entries bound come.stands clear ∙ ap (entries_before bound) (all_entries none)

  pub drains_keep_course : DrainsKeepCourse app
  drains_keep_course start cells before entries now jobs values come =
      let counts = come.sound.keys_and_counts in
      let more = drainable app now.nodes now.log in
      let rest = undrainable app now.nodes now.log in
      record {
        sound = (marks_and_drains_keep_sound basis.begun).drained_one now jobs values come.sound;
        stands = come.stands;
        logged = come.logged ∙ ap (λ log. before ++ log) (drained_parts now.nodes now.log counts.log_ordered) ∙ sym (append_assoc before more rest);
        earlier = both_before before more (tasks_of now.nodes) come.earlier (drainable_before now.nodes now.log counts.graph.ascending);
        ended = come.ended;
        limit = come.limit;
        true_mark = come.true_mark;
        entries_descend = come.entries_descend;
        tasks_descend = come.tasks_descend;
      }

  pub drains_take_the_next : DrainsTakeTheNext app
  drains_take_the_next start cells before entries now jobs values come = record {
    all = drained_all come;
    first = drained_all come ∙ first_to come (least_bound now.nodes) (clear_to_least come);
    next = λ none.
        ap (drop (length before)) (log_to come none (least_bound now.nodes) (clear_to_least come) ∙ sym (drained_all come))
        ∙ drop-append_seam before (drainable app now.nodes now.log);
  }
