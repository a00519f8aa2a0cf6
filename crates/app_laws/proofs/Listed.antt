-- Tasks that are listed in the order of their paths are named by their numbers.
use Rattle.std.proofs.Common.{◌≡◌, true, false, List, [], ◌∷◌, map, sym, ap, ◌∙◌, subst, append-nil}
use Rattle.std.specs.Cmp.Lexicographic.{slice_cmp}
use Rattle.std.specs.List.{AllByRecursion}
use Rattle.std.specs.List.Sorted.{IsPermutation}
use Rattle.std.specs.Ordering.{nat_cmp}
use Rattle.std.specs.declared.cmp.Ordering.TheVariants.{Less}
use Rattle.std.proofs.lemmas.List.Sorted.{IsPermutation-sym, IsPermutation-trans}
use Rattle.plain_laws.specs.Lists.{All-weaker, All-joined, All-shuffled}
use Rattle.task_order.specs.declared.task.Task.{Task}
use Rattle.task_order.specs.Laws.{AscendingKeysAreDistinct, DistinctInAnyOrder, TasksDetermineAscending, PutAllKeepsAscending, PutAllKeepsTasks}
use Rattle.task_order.specs.TaskList.{IsAscending, HasDistinctKeys, put_all}
use Rattle.app_laws.specs.Execution.{first_from}
use Rattle.app_laws.specs.Names.{renamed}
use Rattle.app_laws.specs.Order.{is_prefix, Pairwise}
use Rattle.app_laws.specs.Renaming.{ListedTasksAreNamed}
use Rattle.app_laws.specs.RenamingLaws.{put_all-renamed}
use Rattle.app_laws.proofs.Prefixes.{below_from_earlier, not_below_itself}
use Rattle.app_laws.proofs.Naming.{TasksBelow, has_new_name, is_naming, new_name, numbered_are_first, numbered_have_names}
use Rattle.app_laws.specs.ApartLaws.{TasksApart}

-- the task is earlier than the other by their paths alone
abbrev IsEarlierByPath : Task → Task → Type 0
IsEarlierByPath task other = slice_cmp nat_cmp task.key.path other.key.path ≡ Less

-- where the one task's path is earlier than the other's, it is no prefix of it
abbrev NoneGoOn : Task → Task → Type 0
NoneGoOn task other = IsEarlierByPath task other → is_prefix task.key.path other.key.path ≡ false

none_go_on : (tasks : List Task) → Pairwise TasksApart tasks → AllByRecursion (λ task. AllByRecursion (NoneGoOn task) tasks) tasks
none_go_on [] apart = tt
none_go_on (task ∷ tasks) apart = (
  (λ less. absurd (not_below_itself task.key.path less), All-weaker (TasksApart task) (NoneGoOn task) (λ other pair _. pair.not_before) tasks apart.0),
  All-joined (TasksApart task) (λ other. AllByRecursion (NoneGoOn other) tasks) (λ other. AllByRecursion (NoneGoOn other) (task ∷ tasks))
      (λ other pair all. (λ _. pair.not_after, all))
      tasks apart.0 (none_go_on tasks apart.1),
)

below_in_order : (tasks : List Task) → Pairwise IsEarlierByPath tasks → AllByRecursion (λ task. AllByRecursion (NoneGoOn task) tasks) tasks → Pairwise TasksBelow tasks
below_in_order [] by_path none = tt
below_in_order (task ∷ tasks) by_path none = (
  All-joined (IsEarlierByPath task) (NoneGoOn task) (TasksBelow task)
      (λ other less no_prefix. below_from_earlier task.key.path other.key.path (no_prefix less) less)
      tasks by_path.0 none.0.1,
  below_in_order tasks by_path.1 (All-weaker (λ other. AllByRecursion (NoneGoOn other) (task ∷ tasks)) (λ other. AllByRecursion (NoneGoOn other) tasks) (λ other all. all.1) tasks none.1),
)

listed_below : (pending tasks : List Task) → Pairwise TasksApart pending → IsPermutation pending tasks → Pairwise IsEarlierByPath tasks → Pairwise TasksBelow tasks
listed_below pending tasks apart same by_path =
    below_in_order tasks by_path
    (All-shuffled (λ task. AllByRecursion (NoneGoOn task) tasks) pending tasks same
    (All-weaker (λ task. AllByRecursion (NoneGoOn task) pending) (λ task. AllByRecursion (NoneGoOn task) tasks)
    (λ task. All-shuffled (NoneGoOn task) pending tasks same)
    pending (none_go_on pending apart)))

module _ (distinct : AscendingKeysAreDistinct) (any_order : DistinctInAnyOrder) (determined : TasksDetermineAscending) (ascends : PutAllKeepsAscending) (keeps : PutAllKeepsTasks) where
  -- ascending tasks are what those in another order are when they are put in
  put_back : (pending tasks : List Task) → IsAscending pending → IsPermutation pending tasks → pending ≡ put_all tasks []
  put_back pending tasks ascending same =
      let no_more = append-nil tasks in
      determined pending (put_all tasks []) ascending
      (ascends tasks [] (subst HasDistinctKeys (sym no_more) (any_order pending tasks (distinct pending ascending) same)) tt)
      (IsPermutation-trans pending tasks (put_all tasks []) same (subst (λ (ts : List Task). IsPermutation ts (put_all tasks [])) no_more (keeps tasks [])))

  pub listed_tasks_are_named : ListedTasksAreNamed
  listed_tasks_are_named pending first ascending apart listed =
      let tasks = listed.tasks in
      let below = listed_below pending tasks apart listed.same listed.by_path in
      let naming = is_naming 0 tasks below in
      let have_names = numbered_have_names 0 tasks below in
      record {
        name = new_name 0 tasks;
        has_name = has_new_name 0 tasks;
        naming = naming;
        have_names = All-shuffled (λ task. has_new_name 0 tasks task.key.path ≡ true) tasks pending (IsPermutation-sym pending tasks listed.same) have_names;
        are_first =
            ap (map (renamed (new_name 0 tasks))) (put_back pending tasks ascending listed.same)
            ∙ sym (put_all-renamed naming tasks [] have_names tt)
            ∙ ap (λ new. put_all new []) (numbered_are_first 0 tasks below ∙ sym (ap (first_from 0) listed.starts));
      }
