-- The entries before a bound and from it on.
use Rattle.std.proofs.Common.{◌≡◌, Bool, true, false, not, List, [], ◌∷◌, ◌++◌, refl, sym, ◌∙◌, ap}
use Rattle.std.specs.List.{AllByRecursion}
use Rattle.std.specs.List.Sorted.{IsStrictlySortedBy}
use Rattle.std.specs.declared.cmp.Ordering.{Ordering}
use Rattle.std.specs.declared.cmp.Ordering.TheVariants.{Less, Equal, Greater}
use Rattle.std.specs.Ordering.{is_lt, ordering_reverse}
use Rattle.std.proofs.lemmas.Cmp.{alike_right}
use Rattle.std.proofs.lemmas.List.Kept.{IsStrictlySortedBy-filter}
use Rattle.plain_laws.specs.Lists.{All-weaker, filter-all, filter-none}
use Rattle.plain_laws.specs.Orderings.{less_from_test}
use Rattle.task_order.specs.declared.key.Key.{Key}
use Rattle.task_order.specs.Key.{Bound, at_key, end, is_before, key_cmp, key_cmp_total}
use Rattle.output_log.specs.Entries.{Entry, entry_cmp, IsInKeyOrder, is_entry_before, entries_before, entries_from}
use Rattle.output_log.proofs.Filters.{filter-cons}

-- what is earlier than a key before the bound is before it too
pub before_sooner : (bound : Bound) (key : Key) (entry : Entry) → is_before key bound ≡ true → is_entry_before (at_key key) entry ≡ true → is_entry_before bound entry ≡ true
before_sooner (at_key next) key entry before earlier = ap is_lt (key_cmp_total.trans entry.0 key next (less_from_test _ earlier) (less_from_test _ before))
before_sooner end key entry before earlier = refl

earlier_by_order : (key next : Key) (entry : Entry) (o : Ordering) → key_cmp key next ≡ o → is_lt o ≡ false → key_cmp entry.0 next ≡ Less → key_cmp entry.0 key ≡ Less
earlier_by_order key next entry Less is late before = cc
earlier_by_order key next entry Equal is late before = alike_right key_cmp_total key next entry.0 is ∙ before
earlier_by_order key next entry Greater is late before = key_cmp_total.trans entry.0 next key before (key_cmp_total.antisymm next key ∙ ap ordering_reverse is)

-- what is before the bound is earlier than a key that isn't
pub earlier_than_late : (bound : Bound) (key : Key) (entry : Entry) → is_before key bound ≡ false → is_entry_before bound entry ≡ true → is_entry_before (at_key key) entry ≡ true
earlier_than_late (at_key next) key entry late before = ap is_lt (earlier_by_order key next entry _ refl late (less_from_test _ before))
earlier_than_late end key entry late before = cc

-- the same by what fails the tests
pub late_after_late : (test other : Bool) → (other ≡ true → test ≡ true) → test ≡ false → other ≡ false
late_after_late test true implies late = sym (implies refl) ∙ late
late_after_late test false implies late = refl

-- what is later than an entry that isn't before the bound isn't either
pub later_is_late : (bound : Bound) (entry other : Entry) → is_entry_before bound entry ≡ false → entry_cmp entry other ≡ Less → is_entry_before bound other ≡ false
later_is_late bound entry other late later =
    late_after_late (is_entry_before bound entry) (is_entry_before bound other) (λ before. before_sooner bound other.0 entry before (ap is_lt later)) late

pub none_before : (bound : Bound) (entry : Entry) (entries : List Entry) → is_entry_before bound entry ≡ false → AllByRecursion (λ other. entry_cmp entry other ≡ Less) entries → entries_before bound entries ≡ []
none_before bound entry entries late all =
    filter-none (is_entry_before bound) entries (All-weaker (λ other. entry_cmp entry other ≡ Less) (λ other. is_entry_before bound other ≡ false) (λ other later. later_is_late bound entry other late later) entries all)

pub all_from : (bound : Bound) (entry : Entry) (entries : List Entry) → is_entry_before bound entry ≡ false → AllByRecursion (λ other. entry_cmp entry other ≡ Less) entries → entries_from bound entries ≡ entries
all_from bound entry entries late all =
    filter-all (λ other. not (is_entry_before bound other)) entries
    (All-weaker (λ other. entry_cmp entry other ≡ Less) (λ other. not (is_entry_before bound other) ≡ true) (λ other later. ap not (later_is_late bound entry other late later)) entries all)

pub before-cons : (bound : Bound) (entry : Entry) (entries : List Entry) → is_entry_before bound entry ≡ true → entries_before bound (entry ∷ entries) ≡ entry ∷ entries_before bound entries
before-cons bound entry entries is = filter-cons (is_entry_before bound) entry entries true is

pub from-cons : (bound : Bound) (entry : Entry) (entries : List Entry) → is_entry_before bound entry ≡ true → entries_from bound (entry ∷ entries) ≡ entries_from bound entries
from-cons bound entry entries is = filter-cons (λ other. not (is_entry_before bound other)) entry entries false (ap not is)

-- where the first entry isn't before the bound, none is
pub before-late : (bound : Bound) (entry : Entry) (entries : List Entry) → is_entry_before bound entry ≡ false → IsInKeyOrder (entry ∷ entries) → entries_before bound (entry ∷ entries) ≡ []
unfolding IsStrictlySortedBy
before-late bound entry entries late ordered = filter-cons (is_entry_before bound) entry entries false late ∙ none_before bound entry entries late ordered.0

pub from-late : (bound : Bound) (entry : Entry) (entries : List Entry) → is_entry_before bound entry ≡ false → IsInKeyOrder (entry ∷ entries) → entries_from bound (entry ∷ entries) ≡ entry ∷ entries
unfolding IsStrictlySortedBy
from-late bound entry entries late ordered = filter-cons (λ other. not (is_entry_before bound other)) entry entries true (ap not late) ∙ ap (λ l. entry ∷ l) (all_from bound entry entries late ordered.0)

first_step : (bound : Bound) (entry : Entry) (entries : List Entry) (test : Bool) → is_entry_before bound entry ≡ test → IsInKeyOrder (entry ∷ entries) → entries ≡ entries_before bound entries ++ entries_from bound entries
    → entry ∷ entries ≡ entries_before bound (entry ∷ entries) ++ entries_from bound (entry ∷ entries)
first_step bound entry entries true is ordered rest =
    ap (λ l. entry ∷ l) rest ∙ sym (λ i. before-cons bound entry entries is i ++ from-cons bound entry entries is i)
first_step bound entry entries false is ordered rest = sym (λ i. before-late bound entry entries is ordered i ++ from-late bound entry entries is ordered i)

-- in key order, the entries before a bound come first
pub earlier_come_first : (bound : Bound) (entries : List Entry) → IsInKeyOrder entries → entries ≡ entries_before bound entries ++ entries_from bound entries
unfolding IsStrictlySortedBy
earlier_come_first bound [] ordered = refl
earlier_come_first bound (entry ∷ entries) ordered = first_step bound entry entries _ refl ordered (earlier_come_first bound entries ordered.1)

pub parts_keep_order : (bound : Bound) (entries : List Entry) → IsInKeyOrder entries → IsInKeyOrder (entries_before bound entries) × IsInKeyOrder (entries_from bound entries)
parts_keep_order bound entries ordered = (IsStrictlySortedBy-filter entry_cmp _ entries ordered, IsStrictlySortedBy-filter entry_cmp _ entries ordered)

pub all_are_before_end : (entries : List Entry) → entries_before end entries ≡ entries
all_are_before_end [] = refl
all_are_before_end (entry ∷ entries) = ap (λ l. entry ∷ l) (all_are_before_end entries)
