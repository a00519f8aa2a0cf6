-- The join of two logs by key.
use Rattle.std.proofs.Common.{◌≡◌, ◌≢◌, ℕ, ◌+◌, Bool, true, false, not, List, [], ◌∷◌, ◌++◌, length, refl, sym, ◌∙◌, ap, subst, arith, append_assoc}
use Rattle.std.proofs.lemmas.List.{append-nil}
use Rattle.std.proofs.lemmas.List.Sorted.{IsPermutation-refl, IsPermutation-sym, IsPermutation-trans, IsPermutation-cons, IsPermutation-append_left, IsPermutation-to_front}
use Rattle.std.specs.List.{AllByRecursion, filter}
use Rattle.std.specs.List.Sorted.{IsPermutation, IsStrictlySortedBy}
use Rattle.std.specs.declared.cmp.Ordering.TheVariants.{Less}
use Rattle.std.specs.Ordering.{is_lt}
use Rattle.plain_laws.specs.Lists.{All-weaker}
use Rattle.plain_laws.specs.Orderings.{less_from_test}
use Rattle.task_order.specs.declared.key.Key.{Key}
use Rattle.task_order.specs.Key.{Bound, at_key, key_cmp, IsExactOrder}
use Rattle.task_order.specs.KeyLaws.{differ_from_earlier}
use Rattle.output_log.specs.Entries.{Entry, entry_cmp, IsInKeyOrder, IsNewEntry, ShareNoKey, is_entry_before, entries_before, entries_from, with_entry, joined_by_key}
use Rattle.output_log.proofs.Filters.{filter-cons}
use Rattle.output_log.proofs.Parts.{before-cons, from-cons}
use Rattle.output_log.proofs.Puts.{puts_meet_one_part, puts_commute, put-behind, put-in_front, puts_keep_order, puts_take_one_key, length-with_entry}
use Rattle.output_log.specs.EntryLaws.{first_put}

pub order_of_rest : (entry : Entry) (entries : List Entry) → IsInKeyOrder (entry ∷ entries) → IsInKeyOrder entries
unfolding IsStrictlySortedBy
order_of_rest entry entries ordered = ordered.1

later_than_first : (entry : Entry) (entries : List Entry) → IsInKeyOrder (entry ∷ entries) → AllByRecursion (λ other. entry_cmp entry other ≡ Less) entries
unfolding IsStrictlySortedBy
later_than_first entry entries ordered = ordered.0

-- the keys after the first are others
new_among_later : (entry : Entry) (entries : List Entry) → IsInKeyOrder (entry ∷ entries) → IsNewEntry entry.0 entries
new_among_later entry entries ordered =
    All-weaker (λ other. entry_cmp entry other ≡ Less) (λ other. other.0 ≢ entry.0) (λ other later same. differ_from_earlier entry.0 other.0 later (sym same)) entries (later_than_first entry entries ordered)

-- ---- entries that are put into one of the two

pub put_first : IsExactOrder → (key : Key) (text : List ℕ) (entries others : List Entry) → IsNewEntry key others
    → joined_by_key (with_entry key text entries) others ≡ with_entry key text (joined_by_key entries others)
put_first exact key text entries [] new = refl
put_first exact key text entries (other ∷ others) new =
    ap (with_entry other.0 other.1) (put_first exact key text entries others new.1)
    ∙ puts_commute exact other.0 key other.1 text (joined_by_key entries others) new.0

second_step : IsExactOrder → (key : Key) (text : List ℕ) (entries : List Entry) (other : Entry) (others : List Entry) (test : Bool) → is_entry_before (at_key key) other ≡ test → IsInKeyOrder (other ∷ others)
    → joined_by_key entries (with_entry key text others) ≡ with_entry key text (joined_by_key entries others)
    → joined_by_key entries (with_entry key text (other ∷ others)) ≡ with_entry key text (joined_by_key entries (other ∷ others))
second_step exact key text entries other others true is ordered rest =
    ap (joined_by_key entries) (put-behind key text other others is)
    ∙ ap (with_entry other.0 other.1) rest
    ∙ puts_commute exact other.0 key other.1 text (joined_by_key entries others) (differ_from_earlier other.0 key (less_from_test _ is))
second_step exact key text entries other others false is ordered rest = ap (joined_by_key entries) (put-in_front key text other others is ordered)

pub put_second : IsExactOrder → (key : Key) (text : List ℕ) (entries others : List Entry) → IsInKeyOrder others
    → joined_by_key entries (with_entry key text others) ≡ with_entry key text (joined_by_key entries others)
put_second exact key text entries [] ordered = refl
put_second exact key text entries (other ∷ others) ordered =
    second_step exact key text entries other others _ refl ordered (put_second exact key text entries others (order_of_rest other others ordered))

-- ---- with no entry, and with one

pub joins_with_none : (entries : List Entry) → IsInKeyOrder entries → (joined_by_key entries [] ≡ entries) × (joined_by_key [] entries ≡ entries)
joins_with_none [] ordered = (refl, refl)
joins_with_none (entry ∷ entries) ordered = (
  refl,
  ap (with_entry entry.0 entry.1) (joins_with_none entries (order_of_rest entry entries ordered)).1 ∙ first_put entry.0 entry.1 entries (later_than_first entry entries ordered),
)

pub joins_with_one : IsExactOrder → (key : Key) (text : List ℕ) (entries : List Entry) →
    (joined_by_key entries ((key, text) ∷ []) ≡ with_entry key text entries)
    × (IsNewEntry key entries → IsInKeyOrder entries → joined_by_key ((key, text) ∷ []) entries ≡ with_entry key text entries)
joins_with_one exact key text entries = (
  refl,
  (λ new ordered. put_first exact key text [] entries new ∙ ap (with_entry key text) (joins_with_none entries ordered).1),
)

-- ---- keys and order

pub joins_have_the_keys_of_both : (key : Key) (entries others : List Entry) → IsNewEntry key entries → IsNewEntry key others → IsNewEntry key (joined_by_key entries others)
joins_have_the_keys_of_both key entries [] new rest = new
joins_have_the_keys_of_both key entries (other ∷ others) new rest =
    puts_take_one_key key other.0 other.1 (joined_by_key entries others) rest.0 (joins_have_the_keys_of_both key entries others new rest.1)

pub joins_keep_order : IsExactOrder → (entries others : List Entry) → IsInKeyOrder entries → IsInKeyOrder others → ShareNoKey entries others → IsInKeyOrder (joined_by_key entries others)
joins_keep_order exact entries [] ordered rest apart = ordered
joins_keep_order exact entries (other ∷ others) ordered rest apart =
    puts_keep_order exact other.0 other.1 (joined_by_key entries others)
    (joins_have_the_keys_of_both other.0 entries others apart.0 (new_among_later other others rest))
    (joins_keep_order exact entries others ordered (order_of_rest other others rest) apart.1)

-- ---- the order of joining

pub joins_commute : IsExactOrder → (entries others : List Entry) → IsInKeyOrder entries → IsInKeyOrder others → ShareNoKey entries others → joined_by_key entries others ≡ joined_by_key others entries
joins_commute exact entries [] ordered rest apart = sym (joins_with_none entries ordered).1
joins_commute exact entries (other ∷ others) ordered rest apart =
    ap (with_entry other.0 other.1) (joins_commute exact entries others ordered (order_of_rest other others rest) apart.1)
    ∙ sym (put_first exact other.0 other.1 others entries apart.0)
    ∙ ap (λ l. joined_by_key l entries) (first_put other.0 other.1 others (later_than_first other others rest))

pub joins_associate : IsExactOrder → (entries others last : List Entry) → IsInKeyOrder others → IsInKeyOrder last → ShareNoKey others last
    → joined_by_key (joined_by_key entries others) last ≡ joined_by_key entries (joined_by_key others last)
joins_associate exact entries others [] ordered rest apart = refl
joins_associate exact entries others (entry ∷ last) ordered rest apart =
    ap (with_entry entry.0 entry.1) (joins_associate exact entries others last ordered (order_of_rest entry last rest) apart.1)
    ∙ sym (put_second exact entry.0 entry.1 entries (joined_by_key others last) (joins_keep_order exact others last ordered (order_of_rest entry last rest) apart.1))

-- ---- what a join has

-- an element goes from the front to a place between two lists
to_middle : (entry : Entry) (entries front behind : List Entry) → IsPermutation entries (front ++ behind) → IsPermutation (entry ∷ entries) (front ++ entry ∷ behind)
to_middle entry entries front behind moved =
    let front_first : IsPermutation (entry ∷ front) (front ++ entry ∷ []) = IsPermutation-sym _ _ (IsPermutation-to_front front entry) in
    let shifted : IsPermutation ((entry ∷ front) ++ behind) ((front ++ entry ∷ []) ++ behind) = IsPermutation-append_left behind _ _ front_first in
    IsPermutation-trans _ (entry ∷ (front ++ behind)) _ (IsPermutation-cons entry _ _ moved) (subst (λ l. IsPermutation (entry ∷ (front ++ behind)) l) (append_assoc front (entry ∷ []) behind) shifted)

-- no entry is lost or made where a filter splits a list
split_step : (p : Entry → Bool) (entry : Entry) (entries : List Entry) (test : Bool) → p entry ≡ test → IsPermutation entries (filter p entries ++ filter (λ e. not (p e)) entries)
    → IsPermutation (entry ∷ entries) (filter p (entry ∷ entries) ++ filter (λ e. not (p e)) (entry ∷ entries))
split_step p entry entries true is rest =
    subst (λ l. IsPermutation (entry ∷ entries) l)
    (sym (λ i. filter-cons p entry entries true is i ++ filter-cons (λ e. not (p e)) entry entries false (ap not is) i))
    (IsPermutation-cons entry _ _ rest)
split_step p entry entries false is rest =
    subst (λ l. IsPermutation (entry ∷ entries) l)
    (sym (λ i. filter-cons p entry entries false is i ++ filter-cons (λ e. not (p e)) entry entries true (ap not is) i))
    (to_middle entry entries (filter p entries) (filter (λ e. not (p e)) entries) rest)

split_permutes : (p : Entry → Bool) (entries : List Entry) → IsPermutation entries (filter p entries ++ filter (λ e. not (p e)) entries)
split_permutes p [] = IsPermutation-refl _
split_permutes p (entry ∷ entries) = split_step p entry entries _ refl (split_permutes p entries)

pub put_permutes : (key : Key) (text : List ℕ) (entries : List Entry) → IsPermutation ((key, text) ∷ entries) (with_entry key text entries)
put_permutes key text entries = to_middle (key, text) entries _ _ (split_permutes (is_entry_before (at_key key)) entries)

pub joins_have_all : (entries others : List Entry) → IsPermutation (entries ++ others) (joined_by_key entries others)
joins_have_all entries [] = rw append-nil (IsPermutation-refl entries)
joins_have_all entries (other ∷ others) =
    IsPermutation-trans _ (other ∷ joined_by_key entries others) _
    (IsPermutation-trans _ (other ∷ (entries ++ others)) _ (IsPermutation-sym _ _ (to_middle other (entries ++ others) entries others (IsPermutation-refl _))) (IsPermutation-cons other _ _ (joins_have_all entries others)))
    (put_permutes other.0 other.1 (joined_by_key entries others))

pub joins_add_lengths : (entries others : List Entry) → length (joined_by_key entries others) ≡ length entries + length others
joins_add_lengths entries [] = omega arith
joins_add_lengths entries (other ∷ others) = omega (arith, length-with_entry other.0 other.1 (joined_by_key entries others), joins_add_lengths entries others)

-- ---- parts

parts_step : (bound : Bound) (entries : List Entry) (other : Entry) (others : List Entry) (test : Bool) → is_entry_before bound other ≡ test
    → (entries_before bound (joined_by_key entries others) ≡ joined_by_key (entries_before bound entries) (entries_before bound others))
    × (entries_from bound (joined_by_key entries others) ≡ joined_by_key (entries_from bound entries) (entries_from bound others))
    → (entries_before bound (joined_by_key entries (other ∷ others)) ≡ joined_by_key (entries_before bound entries) (entries_before bound (other ∷ others)))
    × (entries_from bound (joined_by_key entries (other ∷ others)) ≡ joined_by_key (entries_from bound entries) (entries_from bound (other ∷ others)))
parts_step bound entries other others true is rest =
    let put = (puts_meet_one_part bound other.0 other.1 (joined_by_key entries others)).0 is in (
      put.0 ∙ ap (with_entry other.0 other.1) rest.0 ∙ sym (ap (joined_by_key (entries_before bound entries)) (before-cons bound other others is)),
      put.1 ∙ rest.1 ∙ sym (ap (joined_by_key (entries_from bound entries)) (from-cons bound other others is)),
    )
parts_step bound entries other others false is rest =
    let put = (puts_meet_one_part bound other.0 other.1 (joined_by_key entries others)).1 is in (
      put.0 ∙ rest.0 ∙ sym (ap (joined_by_key (entries_before bound entries)) (filter-cons (is_entry_before bound) other others false is)),
      put.1 ∙ ap (with_entry other.0 other.1) rest.1 ∙ sym (ap (joined_by_key (entries_from bound entries)) (filter-cons (λ entry. not (is_entry_before bound entry)) other others true (ap not is))),
    )

pub parts_join : (bound : Bound) (entries others : List Entry) →
    (entries_before bound (joined_by_key entries others) ≡ joined_by_key (entries_before bound entries) (entries_before bound others))
    × (entries_from bound (joined_by_key entries others) ≡ joined_by_key (entries_from bound entries) (entries_from bound others))
parts_join bound entries [] = (refl, refl)
parts_join bound entries (other ∷ others) = parts_step bound entries other others _ refl (parts_join bound entries others)

-- ---- later entries

later_step : (other : Entry) (entries others : List Entry) → AllByRecursion (λ entry. key_cmp entry.0 other.0 ≡ Less) entries → AllByRecursion (λ next. entry_cmp other next ≡ Less) others
    → with_entry other.0 other.1 (entries ++ others) ≡ entries ++ other ∷ others
later_step other [] others all later = first_put other.0 other.1 others later
later_step other (entry ∷ entries) others all later =
    put-behind other.0 other.1 entry (entries ++ others) (ap is_lt all.0) ∙ ap (λ l. entry ∷ l) (later_step other entries others all.1 later)

pub later_joins_follow : (entries others : List Entry) → IsInKeyOrder others → AllByRecursion (λ other. AllByRecursion (λ entry. key_cmp entry.0 other.0 ≡ Less) entries) others
    → joined_by_key entries others ≡ entries ++ others
later_joins_follow entries [] ordered all = sym (append-nil entries)
later_joins_follow entries (other ∷ others) ordered all =
    ap (with_entry other.0 other.1) (later_joins_follow entries others (order_of_rest other others ordered) all.1)
    ∙ later_step other entries others all.0 (later_than_first other others ordered)
