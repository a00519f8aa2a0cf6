-- Lemmas on lists of tasks and of entries.
use Rattle.std.proofs.Common.{◌≡◌, ◌≢◌, true, List, [], ◌∷◌, ◌++◌}
use Rattle.std.specs.List.{AllByRecursion}
use Rattle.std.specs.declared.cmp.Ordering.TheVariants.{Less}
use Rattle.std.proofs.lemmas.List.Elements.{filter_passes, recursion_from_All}
use Rattle.plain_laws.specs.Lists.{All-behind, All-weaker}
use Rattle.plain_laws.specs.Orderings.{less_from_test}
use Rattle.task_order.specs.declared.key.Key.{Key}
use Rattle.task_order.specs.declared.task.Task.{Task}
use Rattle.task_order.specs.Key.{at_key, key_cmp}
use Rattle.task_order.specs.TaskList.{HasDistinctKeys, IsNewKey}
use Rattle.output_log.specs.Entries.{Entry, entries_before, is_entry_before}
use Rattle.task_order.specs.Laws.{EarlierIsTransitive}
use Rattle.output_log.specs.EntryLaws.{AreBefore}
use Rattle.commuting.specs.Standing.{ComeBefore}

-- where all keys differ, those of the first tasks are new among the others
pub new_in_front : (new tasks : List Task) → HasDistinctKeys (new ++ tasks) → AllByRecursion (λ task. IsNewKey task.key tasks) new
new_in_front [] tasks distinct = tt
new_in_front (task ∷ new) tasks distinct = (All-behind (λ (other : Task). other.key ≢ task.key) new tasks distinct.0, new_in_front new tasks distinct.1)

-- ---- entries behind earlier ones

-- what is before a key is earlier than it
pub before_is_earlier : (key : Key) (log : List Entry) → AreBefore key (entries_before (at_key key) log)
before_is_earlier key log = All-weaker (λ entry. is_entry_before (at_key key) entry ≡ true) (λ entry. key_cmp entry.0 key ≡ Less)
    (λ entry is. less_from_test (key_cmp entry.0 key) is) (entries_before (at_key key) log)
    (recursion_from_All (λ entry. is_entry_before (at_key key) entry ≡ true) (entries_before (at_key key) log) (filter_passes (is_entry_before (at_key key)) log))

module _ (transitive : EarlierIsTransitive) where
  -- what is earlier than a key is earlier than each later one
  pub earlier_than_later : (entries : List Entry) (key later : Key) → key_cmp key later ≡ Less → AreBefore key entries → AreBefore later entries
  earlier_than_later [] key later less all = tt
  earlier_than_later (entry ∷ entries) key later less all = (transitive entry.0 key later all.0 less, earlier_than_later entries key later less all.1)

  pub before_later : (entries : List Entry) (key : Key) (tasks : List Task) → AllByRecursion (λ (task : Task). key_cmp key task.key ≡ Less) tasks → AreBefore key entries → ComeBefore entries tasks
  before_later entries key [] later all = tt
  before_later entries key (task ∷ tasks) later all = (earlier_than_later entries key task.key later.0 all, before_later entries key tasks later.1 all)
