-- Numbers as the names of tasks' paths, and of those that go on from them.
use Rattle.std.proofs.Common.{◌≡◌, ℕ, suc, ◌≤◌, Bool, true, List, [], ◌∷◌, ◌++◌, map, length, drop, Option, Some, None, if◌then◌else◌, refl, sym, ap, ◌∙◌, arith, append_assoc, append-nil, inl, inr}
use Rattle.std.specs.Cmp.Lexicographic.{slice_cmp, nat_list_cmp_total}
use Rattle.std.specs.List.{AllByRecursion}
use Rattle.std.specs.Option.{is_some, unwrap_or}
use Rattle.std.specs.Ordering.{nat_cmp, ordering_reverse}
use Rattle.std.proofs.lemmas.Bool.{true≢false, cases_Bool}
use Rattle.std.proofs.Math.Seq.{drop-append_seam}
use Rattle.plain_laws.specs.Lists.{All-joined}
use Rattle.task_order.specs.declared.task.Task.{Task}
use Rattle.task_order.specs.Comparing.{IsBelow, IsBelow-first, slice_cmp-behind}
use Rattle.app_laws.specs.Execution.{first_from}
use Rattle.app_laws.specs.Names.{IsNaming, renamed, start_of_task, with_path}
use Rattle.app_laws.specs.Order.{is_prefix, Pairwise}
use Rattle.app_laws.specs.Renaming.{HaveNames}
use Rattle.app_laws.proofs.Prefixes.{joined_from_prefix, no_prefix_of_above}
use Rattle.app_laws.specs.ApartLaws.{is_prefix-joined}

-- The name of a path that goes on from a task's: the task's number, and then what is behind the task's path. The tasks
-- are numbered from a number on.
abbrev pub found_name : ℕ → List Task → List ℕ → Option (List ℕ)
found_name number [] path = None
found_name number (task ∷ tasks) path =
    if is_prefix task.key.path path then Some (number ∷ drop (length task.key.path) path) else found_name (suc number) tasks path

-- whether there is one
abbrev pub has_new_name : ℕ → List Task → List ℕ → Bool
has_new_name number tasks path = is_some (found_name number tasks path)

-- a path that has no name keeps itself
abbrev pub new_name : ℕ → List Task → List ℕ → List ℕ
new_name number tasks path = unwrap_or (found_name number tasks path) path

-- the task's path and all that go on from it come before the other's and all that go on from that
abbrev pub TasksBelow : Task → Task → Type 0
TasksBelow task other = IsBelow task.key.path other.key.path

-- a task's own path, and what goes on from it
name_of_first : (number : ℕ) (task : Task) (tasks : List Task) (rest : List ℕ) → found_name number (task ∷ tasks) (task.key.path ++ rest) ≡ Some (number ∷ rest)
name_of_first number task tasks rest = rw (is_prefix-joined, drop-append_seam)

-- a path above that of the first task is named by the others
name_of_above : (number : ℕ) (task : Task) (tasks : List Task) (path rest : List ℕ) → IsBelow task.key.path path
    → found_name number (task ∷ tasks) (path ++ rest) ≡ found_name (suc number) tasks (path ++ rest)
name_of_above number task tasks path rest below = rw (no_prefix_of_above task.key.path path rest below)

-- the path goes on from that of a task, which has a number
record GoesOn (number : ℕ) (tasks : List Task) (path : List ℕ) : Type 0 where
  own : List ℕ
  rest : List ℕ
  joined : path ≡ own ++ rest
  place : ℕ
  from_number : number ≤ place
  names : (more : List ℕ) → found_name number tasks (own ++ more) ≡ Some (place ∷ more)
  above : (low : List ℕ) → AllByRecursion (λ task. IsBelow low task.key.path) tasks → IsBelow low own

goes_on : (number : ℕ) (tasks : List Task) (path : List ℕ) → Pairwise TasksBelow tasks → has_new_name number tasks path ≡ true → GoesOn number tasks path
goes_on number [] path below has = absurd (true≢false (sym has))
goes_on number (task ∷ tasks) path below has = elim (cases_Bool (is_prefix task.key.path path)) [
  | inl prefix ↦ record {
    own = task.key.path;
    rest = drop (length task.key.path) path;
    joined = joined_from_prefix task.key.path path prefix;
    place = number;
    from_number = omega arith;
    names = name_of_first number task tasks;
    above = λ low all. all.0;
  }
  | inr no_prefix ↦
      let later = goes_on (suc number) tasks path below.1 (rw no_prefix at has) in
      record {
        own = later.own;
        rest = later.rest;
        joined = later.joined;
        place = later.place;
        from_number = omega (arith, later.from_number);
        names = λ more. name_of_above number task tasks later.own more (later.above task.key.path below.0) ∙ later.names more;
        above = λ low all. later.above low all.1;
      }
]

-- the name of what goes on from such a path
found_behind : (number : ℕ) (tasks : List Task) (path : List ℕ) (on : GoesOn number tasks path) (more : List ℕ) → found_name number tasks (path ++ more) ≡ Some (on.place ∷ on.rest ++ more)
found_behind number tasks path on more =
    ap (λ joined. found_name number tasks (joined ++ more)) on.joined ∙ ap (found_name number tasks) (append_assoc on.own on.rest more) ∙ on.names (on.rest ++ more)

name_is : (number : ℕ) (tasks : List Task) (path : List ℕ) (on : GoesOn number tasks path) → new_name number tasks path ≡ on.place ∷ on.rest
name_is number tasks path on = ap (λ found. unwrap_or found path) (ap (found_name number tasks) on.joined ∙ on.names on.rest)

-- ---- names are in order

-- where the first path goes on from the first task's, and the other from a later one's
first_in_order : (number : ℕ) (task : Task) (tasks : List Task) (path other : List ℕ) → Pairwise TasksBelow (task ∷ tasks)
    → is_prefix task.key.path path ≡ true → has_new_name (suc number) tasks other ≡ true
    → slice_cmp nat_cmp (number ∷ drop (length task.key.path) path) (new_name (suc number) tasks other) ≡ slice_cmp nat_cmp path other
first_in_order number task tasks path other below prefix has =
    let behind = drop (length task.key.path) path in
    let on = goes_on (suc number) tasks other below.1 has in
    ap (slice_cmp nat_cmp (number ∷ behind)) (name_is (suc number) tasks other on)
    ∙ (IsBelow-first number on.place [] [] (omega (arith, on.from_number))).before behind on.rest
    ∙ sym ((on.above task.key.path below.0).before behind on.rest)
    ∙ (λ i. slice_cmp nat_cmp (sym (joined_from_prefix task.key.path path prefix) i) (sym on.joined i))

-- where both go on from the first task's
both_in_order : (number : ℕ) (own path other : List ℕ) → is_prefix own path ≡ true → is_prefix own other ≡ true
    → slice_cmp nat_cmp (number ∷ drop (length own) path) (number ∷ drop (length own) other) ≡ slice_cmp nat_cmp path other
both_in_order number own path other prefix other_prefix =
    let behind = drop (length own) path in
    let other_behind = drop (length own) other in
    slice_cmp-behind (number ∷ []) behind other_behind ∙ sym (slice_cmp-behind own behind other_behind)
    ∙ (λ i. slice_cmp nat_cmp (sym (joined_from_prefix own path prefix) i) (sym (joined_from_prefix own other other_prefix) i))

turned_in_order : (name other_name path other : List ℕ) → slice_cmp nat_cmp other_name name ≡ slice_cmp nat_cmp other path → slice_cmp nat_cmp name other_name ≡ slice_cmp nat_cmp path other
turned_in_order name other_name path other same =
    nat_list_cmp_total.antisymm name other_name ∙ ap ordering_reverse same ∙ sym (nat_list_cmp_total.antisymm path other)

names_in_order : (number : ℕ) (tasks : List Task) (path other : List ℕ) → Pairwise TasksBelow tasks → has_new_name number tasks path ≡ true → has_new_name number tasks other ≡ true
    → slice_cmp nat_cmp (new_name number tasks path) (new_name number tasks other) ≡ slice_cmp nat_cmp path other
names_in_order number [] path other below has other_has = absurd (true≢false (sym has))
names_in_order number (task ∷ tasks) path other below has other_has =
    let own = task.key.path in
    elim (cases_Bool (is_prefix own path)) [
      | inl prefix ↦ elim (cases_Bool (is_prefix own other)) [
        | inl other_prefix ↦ rw (prefix, other_prefix) (both_in_order number own path other prefix other_prefix)
        | inr apart ↦ rw (prefix, apart) (first_in_order number task tasks path other below prefix (rw apart at other_has))
      ]
      | inr apart ↦ elim (cases_Bool (is_prefix own other)) [
        | inl prefix ↦
            rw (apart, prefix)
            (turned_in_order (new_name (suc number) tasks path) (number ∷ drop (length own) other) path other (first_in_order number task tasks other path below prefix (rw apart at has)))
        | inr other_apart ↦ rw (apart, other_apart) (names_in_order (suc number) tasks path other below.1 (rw apart at has) (rw other_apart at other_has))
      ]
    ]

pub is_naming : (number : ℕ) (tasks : List Task) → Pairwise TasksBelow tasks → IsNaming (new_name number tasks) (has_new_name number tasks)
is_naming number tasks below = record {
  have_too = λ path next has. ap is_some (found_behind number tasks path (goes_on number tasks path below has) (next ∷ []));
  go_on = λ path next has.
      let on = goes_on number tasks path below has in
      ap (λ found. unwrap_or found (path ++ next ∷ [])) (found_behind number tasks path on (next ∷ [])) ∙ sym (ap (λ named. named ++ next ∷ []) (name_is number tasks path on));
  in_order = λ path other. names_in_order number tasks path other below;
}

-- ---- the tasks that are numbered

name_of_own : (number : ℕ) (task : Task) (tasks : List Task) → found_name number (task ∷ tasks) task.key.path ≡ Some (number ∷ [])
name_of_own number task tasks = rw append-nil at (name_of_first number task tasks [])

name_of_later : (number : ℕ) (task : Task) (tasks : List Task) (other : Task) → TasksBelow task other
    → found_name number (task ∷ tasks) other.key.path ≡ found_name (suc number) tasks other.key.path
name_of_later number task tasks other below = rw append-nil at (name_of_above number task tasks other.key.path [] below)

pub numbered_have_names : (number : ℕ) (tasks : List Task) → Pairwise TasksBelow tasks → HaveNames (has_new_name number tasks) tasks
numbered_have_names number [] below = tt
numbered_have_names number (task ∷ tasks) below = (
  ap is_some (name_of_own number task tasks),
  All-joined (TasksBelow task) (λ other. has_new_name (suc number) tasks other.key.path ≡ true) (λ other. has_new_name number (task ∷ tasks) other.key.path ≡ true)
      (λ other above has. ap is_some (name_of_later number task tasks other above) ∙ has)
      tasks below.0 (numbered_have_names (suc number) tasks below.1),
)

later_renamed : (number : ℕ) (task : Task) (tasks others : List Task) → AllByRecursion (TasksBelow task) others
    → map (renamed (new_name number (task ∷ tasks))) others ≡ map (renamed (new_name (suc number) tasks)) others
later_renamed number task tasks [] below = refl
later_renamed number task tasks (other ∷ others) below = (λ i.
    with_path (unwrap_or (name_of_later number task tasks other below.0 i) other.key.path) other ∷ later_renamed number task tasks others below.1 i)

pub numbered_are_first : (number : ℕ) (tasks : List Task) → Pairwise TasksBelow tasks → map (renamed (new_name number tasks)) tasks ≡ first_from number (map start_of_task tasks)
numbered_are_first number [] below = refl
numbered_are_first number (task ∷ tasks) below = (λ i.
    with_path (unwrap_or (name_of_own number task tasks i) task.key.path) task
    ∷ (later_renamed number task tasks tasks below.0 ∙ numbered_are_first (suc number) tasks below.1) i)
