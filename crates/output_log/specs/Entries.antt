-- What tasks wrote, in the order of their keys.
use Rattle.std.specs.Prelude.{◌≢◌, ℕ, Bool, true, false, not, List, [], ◌∷◌, ◌++◌}
use Rattle.std.specs.List.{AllByRecursion, filter, flat_map}
use Rattle.std.specs.List.Sorted.{IsStrictlySortedBy}
use Rattle.std.specs.declared.cmp.Ordering.{Ordering}
use Rattle.task_order.specs.declared.key.Key.{Key}
use Rattle.task_order.specs.Key.{Bound, at_key, key_cmp, is_before}

-- the key of a task, and the text that it wrote
abbrev pub Entry : Type 0
Entry = Key × List ℕ

abbrev pub entry_cmp : Entry → Entry → Ordering
entry_cmp entry other = key_cmp entry.0 other.0

-- each entry is earlier than those after it
abbrev pub IsInKeyOrder : List Entry → Type 0
IsInKeyOrder entries = IsStrictlySortedBy entry_cmp entries

-- no entry has the key
abbrev pub IsNewEntry : Key → List Entry → Type 0
IsNewEntry key entries = AllByRecursion (λ entry. entry.0 ≢ key) entries

-- no key has an entry in both
abbrev pub ShareNoKey : List Entry → List Entry → Type 0
ShareNoKey entries others = AllByRecursion (λ other. IsNewEntry other.0 entries) others

abbrev pub is_entry_before : Bound → Entry → Bool
is_entry_before bound entry = is_before entry.0 bound

-- the entries that are earlier than the bound
abbrev pub entries_before : Bound → List Entry → List Entry
entries_before bound entries = filter (is_entry_before bound) entries

-- the other entries
abbrev pub entries_from : Bound → List Entry → List Entry
entries_from bound entries = filter (λ entry. not (is_entry_before bound entry)) entries

-- the entries with one more, behind those that are earlier
abbrev pub with_entry : Key → List ℕ → List Entry → List Entry
with_entry key text entries = entries_before (at_key key) entries ++ (key, text) ∷ entries_from (at_key key) entries

-- the entries with each of the others at its place
abbrev pub joined_by_key : List Entry → List Entry → List Entry
joined_by_key entries [] = entries
joined_by_key entries (other ∷ others) = with_entry other.0 other.1 (joined_by_key entries others)

-- whether a task wrote anything
abbrev pub is_written : List ℕ → Bool
is_written [] = false
is_written (byte ∷ text) = true

-- the entries of the tasks that did
abbrev pub with_texts : List Entry → List Entry
with_texts entries = filter (λ entry. is_written entry.1) entries

-- the texts, one after another
abbrev pub joined_texts : List Entry → List ℕ
joined_texts entries = flat_map (λ entry. entry.1) entries
