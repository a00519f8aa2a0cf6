-- What a log's calls find.
use Rattle.std.specs.Prelude.{◌↔◌, IsTrue}
use Rattle.std.proofs.Common.{rules, ◌≡◌, ℕ, zero, suc, ◌<◌, ◌≤◌, Bool, true, false, not, List, [], ◌∷◌, ◌++◌, length, take, drop, get_or, refl, sym, ◌∙◌, ap, arith}
use Rattle.std.proofs.Math.Seq.{take-append_seam, drop-append_seam}
use Rattle.std.proofs.lemmas.List.Elements.{filter-append}
use Rattle.std.proofs.lemmas.List.Sums.{length-filter, count_by-le-length}
use Rattle.std.specs.List.{AllByRecursion}
use Rattle.std.specs.List.Sorted.{IsPartitionedBy, IsPartitionPoint, IsStrictlySortedBy}
use Rattle.std.specs.declared.cmp.Ordering.TheVariants.{Less}
use Rattle.std.specs.Ordering.{is_lt}
use Rattle.plain_laws.specs.Lists.{All-front, All-weaker, filter-all, filter-none}
use Rattle.task_order.specs.Key.{Bound}
use Rattle.output_log.specs.Entries.{Entry, entry_cmp, IsInKeyOrder, is_entry_before, entries_before, entries_from}
use Rattle.output_log.proofs.Filters.{filter-cons}
use Rattle.output_log.proofs.Parts.{before_sooner, before-cons, none_before, earlier_come_first}

pub take_before : (bound : Bound) (entries : List Entry) (count : ℕ) → IsInKeyOrder entries → count ≡ length (entries_before bound entries) → take count entries ≡ entries_before bound entries
take_before bound entries count ordered is = (λ i. take (is i) (earlier_come_first bound entries ordered i)) ∙ take-append_seam (entries_before bound entries) (entries_from bound entries)

pub drop_before : (bound : Bound) (entries : List Entry) (count : ℕ) → IsInKeyOrder entries → count ≡ length (entries_before bound entries) → drop count entries ≡ entries_from bound entries
drop_before bound entries count ordered is = (λ i. drop (is i) (earlier_come_first bound entries ordered i)) ∙ drop-append_seam (entries_before bound entries) (entries_from bound entries)

-- ---- the search

-- an entry before the bound has only such before it
first_earlier : (bound : Bound) (entry : Entry) (entries : List Entry) → AllByRecursion (λ other. entry_cmp entry other ≡ Less) entries → (j : ℕ) (d : Entry) → j < length entries → is_entry_before bound (get_or entries j d) ≡ true → is_entry_before bound entry ≡ true
first_earlier bound entry [] all j d inside earlier = absurd (omega (arith, inside))
first_earlier bound entry (other ∷ entries) all zero d inside earlier = before_sooner bound other.0 entry earlier (ap is_lt all.0)
first_earlier bound entry (other ∷ entries) all (suc j) d inside earlier = first_earlier bound entry entries all.1 j d (omega (arith, inside)) earlier

pub is_partitioned : (bound : Bound) (entries : List Entry) → IsInKeyOrder entries → IsPartitionedBy (is_entry_before bound) entries
unfolding IsStrictlySortedBy
is_partitioned bound [] ordered i j d upto inside earlier = absurd (omega (arith, inside))
is_partitioned bound (entry ∷ entries) ordered zero zero d upto inside earlier = earlier
is_partitioned bound (entry ∷ entries) ordered zero (suc j) d upto inside earlier = first_earlier bound entry entries ordered.0 j d (omega (arith, inside)) earlier
is_partitioned bound (entry ∷ entries) ordered (suc i) zero d upto inside earlier = absurd (omega (arith, upto))
is_partitioned bound (entry ∷ entries) ordered (suc i) (suc j) d upto inside earlier = is_partitioned bound entries ordered.1 i j d (omega (arith, upto)) (omega (arith, inside)) earlier

-- where the search ends, so many entries are before the bound
pub length-before : (bound : Bound) (entries : List Entry) (place : ℕ) → place ≤ length entries
    → IsPartitionPoint (λ entry. is_entry_before bound entry ≡ true) (λ entry. is_entry_before bound entry ≡ false) entries place → place ≡ length (entries_before bound entries)
length-before bound [] place inside point = omega (arith, inside)
length-before bound (entry ∷ entries) zero inside point =
    sym (ap length (filter-cons (is_entry_before bound) entry entries false (point.1 0 entry (omega arith) (omega arith)))
    ∙ sym (length-before bound entries zero (omega arith) ((λ k d from upto. absurd (omega (arith, upto))), (λ k d from upto. point.1 (suc k) d (omega arith) (omega (arith, upto))))))
length-before bound (entry ∷ entries) (suc place) inside point =
    ap suc (length-before bound entries place (omega (arith, inside)) ((λ k d from upto. point.0 (suc k) d (omega arith) (omega (arith, upto))), (λ k d from upto. point.1 (suc k) d (omega (arith, from)) (omega (arith, upto)))))
    ∙ sym (ap length (filter-cons (is_entry_before bound) entry entries true (point.0 0 entry (omega arith) (omega arith))))

-- ---- an entry at a place

pub count_within_list : (bound : Bound) (entries : List Entry) → length (entries_before bound entries) ≤ length entries
count_within_list bound entries = omega (arith, length-filter (is_entry_before bound) entries, count_by-le-length (is_entry_before bound) entries)

-- up to an entry before the bound all are counted
counts_earlier : (bound : Bound) (entries : List Entry) (i : ℕ) (d : Entry) → IsInKeyOrder entries → i < length entries → is_entry_before bound (get_or entries i d) ≡ true → i < length (entries_before bound entries)
unfolding IsStrictlySortedBy
counts_earlier bound [] i d ordered inside earlier = absurd (omega (arith, inside))
counts_earlier bound (entry ∷ entries) zero d ordered inside earlier = omega (arith, ap length (before-cons bound entry entries earlier))
counts_earlier bound (entry ∷ entries) (suc i) d ordered inside earlier =
    let first = first_earlier bound entry entries ordered.0 i d (omega (arith, inside)) earlier in
    omega (arith, ap length (before-cons bound entry entries first), counts_earlier bound entries i d ordered.1 (omega (arith, inside)) earlier)

one_more : (bound : Bound) (entry : Entry) (entries : List Entry) (test : Bool) → is_entry_before bound entry ≡ test → length (entries_before bound (entry ∷ entries)) ≤ suc (length (entries_before bound entries))
one_more bound entry entries true is = omega (arith, ap length (filter-cons (is_entry_before bound) entry entries true is))
one_more bound entry entries false is = omega (arith, ap length (filter-cons (is_entry_before bound) entry entries false is))

-- from one that isn't before the bound on, none is counted
counts_late : (bound : Bound) (entries : List Entry) (i : ℕ) (d : Entry) → IsInKeyOrder entries → i < length entries → is_entry_before bound (get_or entries i d) ≡ false → length (entries_before bound entries) ≤ i
unfolding IsStrictlySortedBy
counts_late bound [] i d ordered inside late = absurd (omega (arith, inside))
counts_late bound (entry ∷ entries) zero d ordered inside late =
    omega (arith, ap length (filter-cons (is_entry_before bound) entry entries false late), ap length (none_before bound entry entries late ordered.0))
counts_late bound (entry ∷ entries) (suc i) d ordered inside late =
    omega (arith, one_more bound entry entries _ refl, counts_late bound entries i d ordered.1 (omega (arith, inside)) late)

pub counted_if : (bound : Bound) (entries : List Entry) (i : ℕ) (d : Entry) → IsInKeyOrder entries → i < length entries → (test : Bool) → is_entry_before bound (get_or entries i d) ≡ test → IsTrue test ↔ (i < length (entries_before bound entries))
counted_if bound entries i d ordered inside true is = (λ _. counts_earlier bound entries i d ordered inside is, λ _. search rules)
counted_if bound entries i d ordered inside false is = (λ no. absurd (cc), λ below. absurd (omega (arith, below, counts_late bound entries i d ordered inside is)))

pub none_counted : (bound : Bound) (entries : List Entry) (i : ℕ) → length entries ≤ i → IsTrue false ↔ (i < length (entries_before bound entries))
none_counted bound entries i outside = (λ no. absurd (cc), λ below. absurd (omega (arith, outside, below, count_within_list bound entries)))

-- ---- parts of a list

pub IsInKeyOrder-first : (front back : List Entry) → IsInKeyOrder (front ++ back) → IsInKeyOrder front
unfolding IsStrictlySortedBy
IsInKeyOrder-first [] back ordered = tt
IsInKeyOrder-first (entry ∷ front) back ordered = (All-front (λ other. entry_cmp entry other ≡ Less) front back ordered.0, IsInKeyOrder-first front back ordered.1)

pub back_is_from : (bound : Bound) (front back : List Entry) → AllByRecursion (λ entry. is_entry_before bound entry ≡ true) front → AllByRecursion (λ entry. is_entry_before bound entry ≡ false) back → back ≡ entries_from bound (front ++ back)
back_is_from bound front back earlier late =
    let from = λ (entry : Entry). not (is_entry_before bound entry) in
    let none = All-weaker (λ entry. is_entry_before bound entry ≡ true) (λ entry. from entry ≡ false) (λ entry is. ap not is) front earlier in
    let all = All-weaker (λ entry. is_entry_before bound entry ≡ false) (λ entry. from entry ≡ true) (λ entry is. ap not is) back late in
    sym (filter-append from front back ∙ (λ i. filter-none from front none i ++ filter-all from back all i))
