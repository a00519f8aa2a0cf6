-- What is so of the entries of logs, and of their texts.
use Rattle.std.proofs.Common.{Bool, List, [], ap, append_assoc, cond, false, map, not, refl, sym, true, ℕ, ◌++◌, ◌∙◌, ◌∷◌, ◌≡◌, ◌≢◌}
use Rattle.std.specs.List.{AllByRecursion, flat_map}
use Rattle.std.specs.declared.cmp.Ordering.TheVariants.{Less}
use Rattle.std.proofs.lemmas.List.Folds.{flat_map-map}
use Rattle.std.specs.Ordering.{is_lt, ordering_reverse}
use Rattle.std.proofs.lemmas.List.Elements.{filter-append}
use Rattle.std.specs.List.Sorted.{IsStrictlySortedBy}
use Rattle.std.proofs.lemmas.List.{append-nil}
use Rattle.plain_laws.specs.Members.{all_from, all_at}
use Rattle.plain_laws.specs.Lists.{filter-none, All-weaker, filter-all}
use Rattle.task_order.specs.declared.key.Key.{Key}
use Rattle.task_order.specs.Key.{key_cmp, at_key, key_cmp_total, Bound}
use Rattle.output_log.specs.Entries.{Entry, IsInKeyOrder, IsNewEntry, ShareNoKey, entries_before, entries_from, is_entry_before, joined_by_key, joined_texts, with_entry}

abbrev pub is_from : Bound → Entry → Bool
is_from bound entry = not (is_entry_before bound entry)

-- the entries are earlier than the key
abbrev pub AreBefore : Key → List Entry → Type 0
AreBefore key entries = AllByRecursion (λ (entry : Entry). key_cmp entry.0 key ≡ Less) entries

-- logs with the same texts
pub same_texts : (log other : List Entry) → map (λ (entry : Entry). entry.1) log ≡ map (λ (entry : Entry). entry.1) other → joined_texts log ≡ joined_texts other
same_texts log other same =
    sym (flat_map-map (λ text. text) (λ (entry : Entry). entry.1) log) ∙ ap (flat_map (λ text. text)) same ∙ flat_map-map (λ text. text) (λ (entry : Entry). entry.1) other

pub share_turned : (entries others : List Entry) → ShareNoKey entries others → ShareNoKey others entries
share_turned entries others new =
    all_from (λ (entry : Entry). IsNewEntry entry.0 others) entries
    (λ entry has. all_from (λ (other : Entry). other.0 ≢ entry.0) others
    (λ other among same. all_at (λ (first : Entry). first.0 ≢ other.0) entries entry (all_at (λ (last : Entry). IsNewEntry last.0 entries) others other new among) has (sym same)))

pub all_before : (key : Key) (entries : List Entry) → AreBefore key entries → entries_before (at_key key) entries ≡ entries
all_before key [] all = refl
all_before key (entry ∷ entries) all =
    ap (λ order. cond (is_lt order) (entry ∷ entries_before (at_key key) entries) (entries_before (at_key key) entries)) all.0
    ∙ ap (λ rest. entry ∷ rest) (all_before key entries all.1)

pub none_from : (key : Key) (entries : List Entry) → AreBefore key entries → entries_from (at_key key) entries ≡ []
none_from key [] all = refl
none_from key (entry ∷ entries) all =
    ap (λ order. cond (not (is_lt order)) (entry ∷ entries_from (at_key key) entries) (entries_from (at_key key) entries)) all.0 ∙ none_from key entries all.1

-- an entry comes behind those that are earlier
pub put_behind : (key : Key) (text : List ℕ) (front back : List Entry) → AreBefore key front → with_entry key text (front ++ back) ≡ front ++ with_entry key text back
put_behind key text front back all =
    let before : entries_before (at_key key) (front ++ back) ≡ front ++ entries_before (at_key key) back =
    filter-append (is_entry_before (at_key key)) front back ∙ ap (λ first. first ++ entries_before (at_key key) back) (all_before key front all) in
    let from : entries_from (at_key key) (front ++ back) ≡ entries_from (at_key key) back =
    filter-append (λ entry. not (is_entry_before (at_key key) entry)) front back ∙ ap (λ first. first ++ entries_from (at_key key) back) (none_from key front all) in
    ap (λ first. first ++ (key, text) ∷ entries_from (at_key key) (front ++ back)) before
    ∙ ap (λ last. (front ++ entries_before (at_key key) back) ++ (key, text) ∷ last) from
    ∙ append_assoc front (entries_before (at_key key) back) ((key, text) ∷ entries_from (at_key key) back)

-- later entries are joined to the end of a log
pub joined_behind : (front back others : List Entry) → AllByRecursion (λ other. AllByRecursion (λ entry. key_cmp entry.0 other.0 ≡ Less) front) others
    → joined_by_key (front ++ back) others ≡ front ++ joined_by_key back others
joined_behind front back [] later = refl
joined_behind front back (other ∷ others) later =
    ap (with_entry other.0 other.1) (joined_behind front back others later.1) ∙ put_behind other.0 other.1 front (joined_by_key back others) later.0

pub IsInKeyOrder-last : (front back : List Entry) → IsInKeyOrder (front ++ back) → IsInKeyOrder back
unfolding IsStrictlySortedBy
IsInKeyOrder-last [] back ordered = ordered
IsInKeyOrder-last (entry ∷ front) back ordered = IsInKeyOrder-last front back ordered.1

pub first_put : (key : Key) (text : List ℕ) (entries : List Entry) → AllByRecursion (λ entry. key_cmp key entry.0 ≡ Less) entries → with_entry key text entries ≡ (key, text) ∷ entries
first_put key text entries all =
    let late : (entry : Entry) → key_cmp key entry.0 ≡ Less → is_entry_before (at_key key) entry ≡ false = λ entry later. ap is_lt (key_cmp_total.antisymm entry.0 key ∙ ap ordering_reverse later) in
    let before : entries_before (at_key key) entries ≡ [] = filter-none (is_entry_before (at_key key)) entries (All-weaker _ (λ entry. is_entry_before (at_key key) entry ≡ false) late entries all) in
    let from : entries_from (at_key key) entries ≡ entries = filter-all (is_from (at_key key)) entries (All-weaker _ (λ entry. is_from (at_key key) entry ≡ true) (λ entry later. ap not (late entry later)) entries all) in
    λ i. before i ++ (key, text) ∷ from i

-- where a list is cut at the bound, the two are its parts
pub front_is_before : (bound : Bound) (front back : List Entry) → AllByRecursion (λ entry. is_entry_before bound entry ≡ true) front → AllByRecursion (λ entry. is_entry_before bound entry ≡ false) back → front ≡ entries_before bound (front ++ back)
front_is_before bound front back earlier late =
    sym (filter-append (is_entry_before bound) front back ∙ (λ i. filter-all (is_entry_before bound) front earlier i ++ filter-none (is_entry_before bound) back late i) ∙ append-nil front)

abbrev pub AllAreBefore : Bound → List Entry → Type 0
AllAreBefore bound entries = AllByRecursion (λ entry. is_entry_before bound entry ≡ true) entries
