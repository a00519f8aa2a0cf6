-- One more entry.
use Rattle.std.proofs.Common.{◌≡◌, ◌≢◌, ℕ, ◌+◌, Bool, true, false, not, List, [], ◌∷◌, ◌++◌, length, refl, sym, ◌∙◌, ap, subst, arith, append_assoc, length-append}
use Rattle.std.proofs.lemmas.List.{append-nil}
use Rattle.std.proofs.lemmas.List.Elements.{filter-append}
use Rattle.std.proofs.lemmas.List.Filters.{length-filter_both}
use Rattle.std.specs.List.{AllByRecursion, filter}
use Rattle.std.specs.List.Sorted.{IsStrictlySortedBy}
use Rattle.std.specs.declared.cmp.Ordering.{Ordering}
use Rattle.std.specs.declared.cmp.Ordering.TheVariants.{Less, Equal, Greater}
use Rattle.std.specs.Ordering.{is_lt, ordering_reverse}
use Rattle.plain_laws.specs.Lists.{All-append, All-filter, All-weaker, filter-all, filter-none}
use Rattle.plain_laws.specs.Orderings.{less_from_test}
use Rattle.plain_laws.specs.Bools.{false_from_not}
use Rattle.task_order.specs.declared.key.Key.{Key}
use Rattle.task_order.specs.Key.{Bound, at_key, is_before, key_cmp, key_cmp_total, IsExactOrder}
use Rattle.output_log.specs.Entries.{Entry, entry_cmp, IsInKeyOrder, IsNewEntry, is_entry_before, entries_before, entries_from, with_entry}
use Rattle.output_log.proofs.Filters.{filter-cons, filter_stays, filter_none, filter_swap}
use Rattle.output_log.proofs.Parts.{before_sooner, earlier_than_late, late_after_late, before-cons, from-cons, before-late, from-late}
use Rattle.output_log.specs.EntryLaws.{is_from}

-- ---- an entry among those that pass a test

-- an entry that passes is put among those that pass
put_passes : (p : Entry → Bool) (key : Key) (text : List ℕ) (entries : List Entry) → p (key, text) ≡ true → filter p (with_entry key text entries) ≡ with_entry key text (filter p entries)
put_passes p key text entries is =
    filter-append p (entries_before (at_key key) entries) _
    ∙ (λ i. filter_swap (is_entry_before (at_key key)) p entries i ++ (filter-cons p (key, text) _ true is ∙ ap (λ l. (key, text) ∷ l) (filter_swap (is_from (at_key key)) p entries)) i)

put_before : (bound : Bound) (key : Key) (text : List ℕ) (entries : List Entry) → is_before key bound ≡ true → entries_from bound (with_entry key text entries) ≡ entries_from bound entries
put_before bound key text entries before =
    let none : entries_from bound (entries_before (at_key key) entries) ≡ [] =
    filter_none (is_entry_before (at_key key)) (is_from bound) (λ entry earlier. ap not (before_sooner bound key entry before earlier)) entries in
    let rest : entries_from bound (entries_from (at_key key) entries) ≡ entries_from bound entries =
    filter_swap (is_from (at_key key)) (is_from bound) entries
    ∙ filter_stays (is_from bound) (is_from (at_key key)) (λ entry late. ap not (late_after_late (is_entry_before bound entry) (is_entry_before (at_key key) entry) (before_sooner bound key entry before) (false_from_not _ late))) entries in
    filter-append (is_from bound) (entries_before (at_key key) entries) _
    ∙ (λ i. none i ++ (filter-cons (is_from bound) (key, text) _ false (ap not before) ∙ rest) i)

put_from : (bound : Bound) (key : Key) (text : List ℕ) (entries : List Entry) → is_before key bound ≡ false → entries_before bound (with_entry key text entries) ≡ entries_before bound entries
put_from bound key text entries late =
    let all : entries_before bound (entries_before (at_key key) entries) ≡ entries_before bound entries =
    filter_swap (is_entry_before (at_key key)) (is_entry_before bound) entries
    ∙ filter_stays (is_entry_before bound) (is_entry_before (at_key key)) (λ entry before. earlier_than_late bound key entry late before) entries in
    let none : entries_before bound (entries_from (at_key key) entries) ≡ [] =
    filter_none (is_from (at_key key)) (is_entry_before bound) (λ entry not_earlier. late_after_late (is_entry_before (at_key key) entry) (is_entry_before bound entry) (earlier_than_late bound key entry late) (false_from_not _ not_earlier)) entries in
    filter-append (is_entry_before bound) (entries_before (at_key key) entries) _
    ∙ (λ i. all i ++ (filter-cons (is_entry_before bound) (key, text) _ false late ∙ none) i)
    ∙ append-nil _

pub puts_meet_one_part : (bound : Bound) (key : Key) (text : List ℕ) (entries : List Entry) →
    (is_before key bound ≡ true → (entries_before bound (with_entry key text entries) ≡ with_entry key text (entries_before bound entries))
    × (entries_from bound (with_entry key text entries) ≡ entries_from bound entries))
    × (is_before key bound ≡ false → (entries_before bound (with_entry key text entries) ≡ entries_before bound entries)
    × (entries_from bound (with_entry key text entries) ≡ with_entry key text (entries_from bound entries)))
puts_meet_one_part bound key text entries = (
  (λ before. (put_passes (is_entry_before bound) key text entries before, put_before bound key text entries before)),
  (λ late. (put_from bound key text entries late, put_passes (is_from bound) key text entries (ap not late))),
)

-- ---- two entries

-- the later one first or last
later_put : (key next : Key) (text next_text : List ℕ) (entries : List Entry) → key_cmp key next ≡ Less → with_entry next next_text (with_entry key text entries)
    ≡ entries_before (at_key key) entries ++ (key, text) ∷ (entries_from (at_key key) (entries_before (at_key next) entries) ++ (next, next_text) ∷ entries_from (at_key next) entries)
later_put key next text next_text entries earlier =
    let before : is_before key (at_key next) ≡ true = ap is_lt earlier in
    let stays : entries_before (at_key key) (entries_before (at_key next) entries) ≡ entries_before (at_key key) entries =
    filter_swap (is_entry_before (at_key next)) (is_entry_before (at_key key)) entries
    ∙ filter_stays (is_entry_before (at_key key)) (is_entry_before (at_key next)) (λ entry sooner. before_sooner (at_key next) key entry before sooner) entries in
    (λ i. put_passes (is_entry_before (at_key next)) key text entries before i ++ (next, next_text) ∷ put_before (at_key next) key text entries before i)
    ∙ (λ i. (stays i ++ (key, text) ∷ entries_from (at_key key) (entries_before (at_key next) entries)) ++ (next, next_text) ∷ entries_from (at_key next) entries)
    ∙ append_assoc (entries_before (at_key key) entries) _ _

earlier_put : (key next : Key) (text next_text : List ℕ) (entries : List Entry) → key_cmp key next ≡ Less → with_entry key text (with_entry next next_text entries)
    ≡ entries_before (at_key key) entries ++ (key, text) ∷ (entries_from (at_key key) (entries_before (at_key next) entries) ++ (next, next_text) ∷ entries_from (at_key next) entries)
earlier_put key next text next_text entries earlier =
    let before : is_before key (at_key next) ≡ true = ap is_lt earlier in
    let late : is_before next (at_key key) ≡ false = ap is_lt (key_cmp_total.antisymm next key ∙ ap ordering_reverse earlier) in
    let swapped : entries_before (at_key next) (entries_from (at_key key) entries) ≡ entries_from (at_key key) (entries_before (at_key next) entries) =
    filter_swap (is_from (at_key key)) (is_entry_before (at_key next)) entries in
    let rest : entries_from (at_key next) (entries_from (at_key key) entries) ≡ entries_from (at_key next) entries =
    filter_swap (is_from (at_key key)) (is_from (at_key next)) entries
    ∙ filter_stays (is_from (at_key next)) (is_from (at_key key)) (λ entry not_before. ap not (late_after_late (is_entry_before (at_key next) entry) (is_entry_before (at_key key) entry) (before_sooner (at_key next) key entry before) (false_from_not _ not_before))) entries in
    (λ i. put_from (at_key key) next next_text entries late i ++ (key, text) ∷ put_passes (is_from (at_key key)) next next_text entries (ap not late) i)
    ∙ (λ i. entries_before (at_key key) entries ++ (key, text) ∷ (swapped i ++ (next, next_text) ∷ rest i))

commute_by_order : (key other : Key) (text other_text : List ℕ) (entries : List Entry) (o : Ordering) → IsExactOrder → key_cmp key other ≡ o → key ≢ other
    → with_entry key text (with_entry other other_text entries) ≡ with_entry other other_text (with_entry key text entries)
commute_by_order key other text other_text entries Less exact is differ = earlier_put key other text other_text entries is ∙ sym (later_put key other text other_text entries is)
commute_by_order key other text other_text entries Equal exact is differ = absurd (differ (exact key other is))
commute_by_order key other text other_text entries Greater exact is differ =
    let sooner : key_cmp other key ≡ Less = key_cmp_total.antisymm other key ∙ ap ordering_reverse is in
    later_put other key other_text text entries sooner ∙ sym (earlier_put other key other_text text entries sooner)

pub puts_commute : IsExactOrder → (key other : Key) (text other_text : List ℕ) (entries : List Entry) → key ≢ other
    → with_entry key text (with_entry other other_text entries) ≡ with_entry other other_text (with_entry key text entries)
puts_commute exact key other text other_text entries differ = commute_by_order key other text other_text entries _ exact refl differ

-- ---- an entry at the end, and at the front

pub last_puts_append : (key : Key) (text : List ℕ) (entries : List Entry) → AllByRecursion (λ entry. key_cmp entry.0 key ≡ Less) entries → with_entry key text entries ≡ entries ++ (key, text) ∷ []
last_puts_append key text entries all =
    let before : entries_before (at_key key) entries ≡ entries = filter-all (is_entry_before (at_key key)) entries (All-weaker _ (λ entry. is_entry_before (at_key key) entry ≡ true) (λ entry earlier. ap is_lt earlier) entries all) in
    let from : entries_from (at_key key) entries ≡ [] = filter-none (is_from (at_key key)) entries (All-weaker _ (λ entry. is_from (at_key key) entry ≡ false) (λ entry earlier. ap (λ o. not (is_lt o)) earlier) entries all) in
    λ i. before i ++ (key, text) ∷ from i

-- an entry goes behind an earlier first one, and in front of another one
pub put-behind : (key : Key) (text : List ℕ) (entry : Entry) (entries : List Entry) → is_entry_before (at_key key) entry ≡ true → with_entry key text (entry ∷ entries) ≡ entry ∷ with_entry key text entries
put-behind key text entry entries is = λ i. before-cons (at_key key) entry entries is i ++ (key, text) ∷ from-cons (at_key key) entry entries is i

pub put-in_front : (key : Key) (text : List ℕ) (entry : Entry) (entries : List Entry) → is_entry_before (at_key key) entry ≡ false → IsInKeyOrder (entry ∷ entries) → with_entry key text (entry ∷ entries) ≡ (key, text) ∷ entry ∷ entries
put-in_front key text entry entries late ordered = λ i. before-late (at_key key) entry entries late ordered i ++ (key, text) ∷ from-late (at_key key) entry entries late ordered i

-- ---- the order stays

pub AllByRecursion-with_entry : (P : Entry → Type 0) (key : Key) (text : List ℕ) (entries : List Entry) → P (key, text) → AllByRecursion P entries → AllByRecursion P (with_entry key text entries)
AllByRecursion-with_entry P key text entries one all = All-append P _ _ (All-filter P _ entries all) (one, All-filter P _ entries all)

later_from_new : (key : Key) (entry : Entry) (o : Ordering) → IsExactOrder → key_cmp entry.0 key ≡ o → is_lt o ≡ false → entry.0 ≢ key → key_cmp key entry.0 ≡ Less
later_from_new key entry Less exact is late new = cc
later_from_new key entry Equal exact is late new = absurd (new (exact entry.0 key is))
later_from_new key entry Greater exact is late new = key_cmp_total.antisymm key entry.0 ∙ ap ordering_reverse is

order_step : (key : Key) (text : List ℕ) (entry : Entry) (entries : List Entry) (test : Bool) → IsExactOrder → is_entry_before (at_key key) entry ≡ test → entry.0 ≢ key → IsInKeyOrder (entry ∷ entries) → IsInKeyOrder (with_entry key text entries)
    → IsInKeyOrder (with_entry key text (entry ∷ entries))
unfolding IsStrictlySortedBy
order_step key text entry entries true exact is new ordered rest =
    subst IsInKeyOrder (sym (put-behind key text entry entries is)) (AllByRecursion-with_entry (λ other. key_cmp entry.0 other.0 ≡ Less) key text entries (less_from_test _ is) ordered.0, rest)
order_step key text entry entries false exact is new ordered rest =
    let first : key_cmp key entry.0 ≡ Less = later_from_new key entry _ exact refl is new in
    subst IsInKeyOrder (sym (put-in_front key text entry entries is ordered))
    ((first, All-weaker (λ other. entry_cmp entry other ≡ Less) (λ other. key_cmp key other.0 ≡ Less) (λ other later. key_cmp_total.trans key entry.0 other.0 first later) entries ordered.0), ordered)

pub puts_keep_order : IsExactOrder → (key : Key) (text : List ℕ) (entries : List Entry) → IsNewEntry key entries → IsInKeyOrder entries → IsInKeyOrder (with_entry key text entries)
unfolding IsStrictlySortedBy
puts_keep_order exact key text [] new ordered = (tt, tt)
puts_keep_order exact key text (entry ∷ entries) new ordered = order_step key text entry entries _ exact refl new.0 ordered (puts_keep_order exact key text entries new.1 ordered.1)

pub puts_take_one_key : (key other : Key) (text : List ℕ) (entries : List Entry) → other ≢ key → IsNewEntry key entries → IsNewEntry key (with_entry other text entries)
puts_take_one_key key other text entries differ new = AllByRecursion-with_entry (λ entry. entry.0 ≢ key) other text entries differ new

pub length-with_entry : (key : Key) (text : List ℕ) (entries : List Entry) → length (with_entry key text entries) ≡ length entries + 1
length-with_entry key text entries =
    omega (arith, length-append (entries_before (at_key key) entries) ((key, text) ∷ entries_from (at_key key) entries), length-filter_both (is_entry_before (at_key key)) (is_from (at_key key)) (λ entry. refl) entries)
