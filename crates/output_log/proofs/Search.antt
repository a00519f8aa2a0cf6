-- Where a bound belongs in a log that is cut into blocks.
use Rattle.std.proofs.Common.{◌≡◌, ℕ, zero, suc, ◌+◌, ◌<◌, ◌≤◌, inl, inr, Bool, true, false, not, List, [], ◌∷◌, ◌++◌, length, take, drop, get_or, refl, sym, ◌∙◌, ap, subst, arith, add-one}
use Rattle.std.proofs.Math.Seq.{take-length}
use Rattle.std.proofs.lemmas.Bool.{false≢true}
use Rattle.std.specs.List.{AllByRecursion, filter}
use Rattle.std.specs.List.Sorted.{IsStrictlySortedBy}
use Rattle.std.specs.declared.cmp.Ordering.TheVariants.{Less}
use Rattle.std.specs.Ordering.{is_lt}
use Rattle.plain_laws.specs.Lists.{filter-all, All-append, All-weaker, All-front, All-behind}
use Rattle.plain_laws.specs.Bools.{false_from_not}
use Rattle.task_order.specs.Key.{Bound}
use Rattle.output_log.specs.Entries.{Entry, entry_cmp, IsInKeyOrder, is_entry_before, entries_before, entries_from}
use Rattle.output_log.specs.Blocks.{entries_in, block_at, entries_to, entries_behind, ends_before, IsFilled, IsInside, IsPlace}
use Rattle.output_log.proofs.Filters.{filter-cons}
use Rattle.output_log.proofs.Parts.{before_sooner, later_is_late}
use Rattle.output_log.proofs.LogEntries.{count_within_list, take_before, drop_before, IsInKeyOrder-first, back_is_from}
use Rattle.output_log.proofs.BlockEntries.{entries_in-take, entries_in-parts, behind_all, filled_at}
use Rattle.output_log.specs.EntryLaws.{AllAreBefore, IsInKeyOrder-last, front_is_before}

abbrev pub AllAreLate : Bound → List Entry → Type 0
AllAreLate bound entries = AllByRecursion (λ entry. is_entry_before bound entry ≡ false) entries

-- ---- the last entry of a block

pub ends_before-last : (bound : Bound) (entries : List Entry) (last : ℕ) (d : Entry) → last + 1 ≡ length entries → is_entry_before bound (get_or entries last d) ≡ ends_before bound entries
ends_before-last bound [] last d is = absurd (omega (arith, is))
ends_before-last bound (entry ∷ []) zero d is = refl
ends_before-last bound (entry ∷ []) (suc last) d is = absurd (omega (arith, is))
ends_before-last bound (entry ∷ next ∷ entries) zero d is = absurd (omega (arith, is))
ends_before-last bound (entry ∷ next ∷ entries) (suc last) d is = ends_before-last bound (next ∷ entries) last d (omega (arith, is))

sooner_than_ended : (bound : Bound) (entry : Entry) (block : List Entry) → AllByRecursion (λ other. entry_cmp entry other ≡ Less) block → ends_before bound block ≡ true → is_entry_before bound entry ≡ true
sooner_than_ended bound entry [] all ends = absurd (false≢true ends)
sooner_than_ended bound entry (other ∷ []) all ends = before_sooner bound other.0 entry ends (ap is_lt all.0)
sooner_than_ended bound entry (other ∷ next ∷ block) all ends = sooner_than_ended bound entry (next ∷ block) all.1 ends

-- all of a block that ends before the bound are before it
all_of_ended : (bound : Bound) (block : List Entry) → IsInKeyOrder block → ends_before bound block ≡ true → AllAreBefore bound block
unfolding IsStrictlySortedBy
all_of_ended bound [] ordered ends = tt
all_of_ended bound (entry ∷ []) ordered ends = (ends, tt)
all_of_ended bound (entry ∷ next ∷ block) ordered ends = (sooner_than_ended bound entry (next ∷ block) ordered.0 ends, all_of_ended bound (next ∷ block) ordered.1 ends)

some_step : (bound : Bound) (entry : Entry) (entries : List Entry) (test : Bool) → is_entry_before bound entry ≡ test → 0 < length (entries_before bound entries) → 0 < length (entries_before bound (entry ∷ entries))
some_step bound entry entries true is some = omega (arith, ap length (filter-cons (is_entry_before bound) entry entries true is))
some_step bound entry entries false is some = omega (arith, ap length (filter-cons (is_entry_before bound) entry entries false is), some)

-- a block that ends before the bound has an entry that is before it
some_of_ended : (bound : Bound) (block : List Entry) → ends_before bound block ≡ true → 0 < length (entries_before bound block)
some_of_ended bound [] ends = absurd (false≢true ends)
some_of_ended bound (entry ∷ []) ends = omega (arith, ap length (filter-cons (is_entry_before bound) entry [] true ends))
some_of_ended bound (entry ∷ next ∷ block) ends = some_step bound entry (next ∷ block) _ refl (some_of_ended bound (next ∷ block) ends)

sooner_than_some_step : (bound : Bound) (entry other : Entry) (block : List Entry) (test : Bool) → is_entry_before bound other ≡ test → entry_cmp entry other ≡ Less → (0 < length (entries_before bound block) → is_entry_before bound entry ≡ true)
    → 0 < length (entries_before bound (other ∷ block)) → is_entry_before bound entry ≡ true
sooner_than_some_step bound entry other block true is sooner rest some = before_sooner bound other.0 entry is (ap is_lt sooner)
sooner_than_some_step bound entry other block false is sooner rest some = rest (omega (arith, ap length (filter-cons (is_entry_before bound) other block false is), some))

sooner_than_some : (bound : Bound) (entry : Entry) (block : List Entry) → AllByRecursion (λ other. entry_cmp entry other ≡ Less) block → 0 < length (entries_before bound block) → is_entry_before bound entry ≡ true
sooner_than_some bound entry [] all some = absurd (omega (arith, some))
sooner_than_some bound entry (other ∷ block) all some = sooner_than_some_step bound entry other block _ refl all.0 (sooner_than_some bound entry block all.1) some

sooner_than_block : (bound : Bound) (entry : Entry) (blocks : List (List Entry)) (at : ℕ) → AllByRecursion (λ other. entry_cmp entry other ≡ Less) (entries_in blocks) → 0 < length (entries_before bound (block_at blocks at))
    → is_entry_before bound entry ≡ true
sooner_than_block bound entry [] at all some = absurd (omega (arith, some))
sooner_than_block bound entry (block ∷ blocks) zero all some = sooner_than_some bound entry block (All-front (λ other. entry_cmp entry other ≡ Less) block (entries_in blocks) all) some
sooner_than_block bound entry (block ∷ blocks) (suc at) all some = sooner_than_block bound entry blocks at (All-behind (λ other. entry_cmp entry other ≡ Less) block (entries_in blocks) all) some

all_ahead : (bound : Bound) (block : List Entry) (blocks : List (List Entry)) (at : ℕ) → IsInKeyOrder (block ++ entries_in blocks) → 0 < length (entries_before bound (block_at blocks at)) → AllAreBefore bound block
unfolding IsStrictlySortedBy
all_ahead bound [] blocks at ordered some = tt
all_ahead bound (entry ∷ block) blocks at ordered some =
    (sooner_than_block bound entry blocks at (All-behind (λ other. entry_cmp entry other ≡ Less) block (entries_in blocks) ordered.0) some, all_ahead bound block blocks at ordered.1 some)

-- where a block has an entry that is before the bound, all blocks ahead of it are before the bound
all_to_some : (bound : Bound) (blocks : List (List Entry)) (at : ℕ) → IsInKeyOrder (entries_in blocks) → 0 < length (entries_before bound (block_at blocks at)) → AllAreBefore bound (entries_in (take at blocks))
all_to_some bound [] at ordered some = absurd (omega (arith, some))
all_to_some bound (block ∷ blocks) zero ordered some = tt
all_to_some bound (block ∷ blocks) (suc at) ordered some =
    All-append (λ entry. is_entry_before bound entry ≡ true) block (entries_in (take at blocks)) (all_ahead bound block blocks at ordered some)
    (all_to_some bound blocks at (IsInKeyOrder-last block (entries_in blocks) ordered) some)

-- where a block ends before the bound, so do those before it
all_to_ended : (bound : Bound) (blocks : List (List Entry)) (at : ℕ) → IsInKeyOrder (entries_in blocks) → ends_before bound (block_at blocks at) ≡ true → AllAreBefore bound (entries_in (take (suc at) blocks))
all_to_ended bound [] at ordered ends = tt
all_to_ended bound (block ∷ blocks) zero ordered ends = All-append (λ entry. is_entry_before bound entry ≡ true) block [] (all_of_ended bound block (IsInKeyOrder-first block (entries_in blocks) ordered) ends) tt
all_to_ended bound (block ∷ blocks) (suc at) ordered ends =
    All-append (λ entry. is_entry_before bound entry ≡ true) block (entries_in (take (suc at) blocks)) (all_ahead bound block blocks at ordered (some_of_ended bound (block_at blocks at) ends))
    (all_to_ended bound blocks at (IsInKeyOrder-last block (entries_in blocks) ordered) ends)

late_behind_block : (bound : Bound) (block others : List Entry) → IsInKeyOrder (block ++ others) → 0 < length block → ends_before bound block ≡ false → AllAreLate bound others
unfolding IsStrictlySortedBy
late_behind_block bound [] others ordered some late = absurd (omega (arith, some))
late_behind_block bound (entry ∷ []) others ordered some late =
    All-weaker (λ other. entry_cmp entry other ≡ Less) (λ other. is_entry_before bound other ≡ false) (λ other later. later_is_late bound entry other late later) others ordered.0
late_behind_block bound (entry ∷ next ∷ block) others ordered some late = late_behind_block bound (next ∷ block) others ordered.1 (omega arith) late

-- where a block doesn't end before the bound, no later entry is before it
late_behind : (bound : Bound) (blocks : List (List Entry)) (at : ℕ) → IsInKeyOrder (entries_in blocks) → 0 < length (block_at blocks at) → ends_before bound (block_at blocks at) ≡ false
    → AllAreLate bound (entries_in (drop (suc at) blocks))
late_behind bound [] at ordered some late = tt
late_behind bound (block ∷ blocks) zero ordered some late = late_behind_block bound block (entries_in blocks) ordered some late
late_behind bound (block ∷ blocks) (suc at) ordered some late = late_behind bound blocks at (IsInKeyOrder-last block (entries_in blocks) ordered) some late

pub ordered_at : (blocks : List (List Entry)) (at : ℕ) → IsInKeyOrder (entries_in blocks) → at < length blocks → IsInKeyOrder (block_at blocks at)
ordered_at [] at ordered inside = absurd (omega (arith, inside))
ordered_at (block ∷ blocks) zero ordered inside = IsInKeyOrder-first block (entries_in blocks) ordered
ordered_at (block ∷ blocks) (suc at) ordered inside = ordered_at blocks at (IsInKeyOrder-last block (entries_in blocks) ordered) (omega (arith, inside))

-- ---- the search

-- the blocks below the lower place end before the bound, and the block at the upper one doesn't
abbrev pub IsBetween : Bound → List (List Entry) → ℕ → ℕ → Type 0
IsBetween bound blocks low high = (low ≤ high) × (high ≤ length blocks) × AllAreBefore bound (entries_in (take low blocks)) × (ends_before bound (block_at blocks high) ≡ false)

pub search_up : (bound : Bound) (blocks : List (List Entry)) (low high at : ℕ) → IsInKeyOrder (entries_in blocks) → IsBetween bound blocks low high → at < high → ends_before bound (block_at blocks at) ≡ true → IsBetween bound blocks (at + 1) high
search_up bound blocks low high at ordered between below ends =
    (omega (arith, below), between.1, rw add-one (all_to_ended bound blocks at ordered ends), between.3)

pub search_down : (bound : Bound) (blocks : List (List Entry)) (low high at : ℕ) → IsBetween bound blocks low high → low ≤ at → at < high → ends_before bound (block_at blocks at) ≡ false → IsBetween bound blocks low at
search_down bound blocks low high at between above below late =
    (above, omega (arith, below, between.1), between.2, late)

-- ---- the place

some_late_step : (bound : Bound) (entry : Entry) (entries : List Entry) (test : Bool) → is_entry_before bound entry ≡ test → length (entries_before bound entries) < length entries → length (entries_before bound (entry ∷ entries)) < suc (length entries)
some_late_step bound entry entries true is some = omega (arith, ap length (filter-cons (is_entry_before bound) entry entries true is), some)
some_late_step bound entry entries false is some = omega (arith, ap length (filter-cons (is_entry_before bound) entry entries false is), some)

-- a block that doesn't end before the bound has an entry that isn't before it
some_late : (bound : Bound) (block : List Entry) → 0 < length block → ends_before bound block ≡ false → length (entries_before bound block) < length block
some_late bound [] some late = absurd (omega (arith, some))
some_late bound (entry ∷ []) some late = omega (arith, ap length (filter-cons (is_entry_before bound) entry [] false late))
some_late bound (entry ∷ next ∷ block) some late = some_late_step bound entry (next ∷ block) _ refl (some_late bound (next ∷ block) (omega arith) late)

passes_step : {X : Type 0} (p : X → Bool) (x : X) (xs : List X) (test : Bool) → p x ≡ test → AllByRecursion (λ x. p x ≡ true) (filter p xs) → AllByRecursion (λ x. p x ≡ true) (filter p (x ∷ xs))
passes_step p x xs true is rest = subst (AllByRecursion (λ x. p x ≡ true)) (sym (filter-cons p x xs true is)) (is, rest)
passes_step p x xs false is rest = subst (AllByRecursion (λ x. p x ≡ true)) (sym (filter-cons p x xs false is)) rest

all_pass : {X : Type 0} (p : X → Bool) (xs : List X) → AllByRecursion (λ x. p x ≡ true) (filter p xs)
all_pass p [] = tt
all_pass p (x ∷ xs) = passes_step p x xs (p x) refl (all_pass p xs)

place_from_parts : (bound : Bound) (blocks : List (List Entry)) (at place : ℕ) → IsInside blocks at place → AllAreBefore bound (entries_to blocks at place) → AllAreLate bound (entries_behind blocks at place) → IsPlace bound blocks at place
place_from_parts bound blocks at place inside before late = record {
  inside = inside;
  before = front_is_before bound (entries_to blocks at place) (entries_behind blocks at place) before late ∙ ap (entries_before bound) (sym (entries_in-parts blocks at place));
  from = back_is_from bound (entries_to blocks at place) (entries_behind blocks at place) before late ∙ ap (entries_from bound) (sym (entries_in-parts blocks at place));
}

-- in the first block that doesn't end before the bound, behind its entries that are before it
pub place_in_block : (bound : Bound) (blocks : List (List Entry)) (at place : ℕ) → IsInKeyOrder (entries_in blocks) → AllByRecursion IsFilled blocks → at < length blocks
    → AllAreBefore bound (entries_in (take at blocks)) → ends_before bound (block_at blocks at) ≡ false → place ≡ length (entries_before bound (block_at blocks at)) → IsPlace bound blocks at place
place_in_block bound blocks at place ordered filled inside before late is =
    let block = block_at blocks at in
    let some = (filled_at blocks at filled inside).0 in
    let up = ordered_at blocks at ordered inside in
    let first : AllAreBefore bound (take place block) = subst (AllAreBefore bound) (sym (take_before bound block place up is)) (all_pass (is_entry_before bound) block) in
    let rest : AllAreLate bound (drop place block) =
    subst (AllAreLate bound) (sym (drop_before bound block place up is))
    (All-weaker (λ entry. not (is_entry_before bound entry) ≡ true) (λ entry. is_entry_before bound entry ≡ false) (λ entry passes. false_from_not _ passes) (entries_from bound block) (all_pass (λ entry. not (is_entry_before bound entry)) block)) in
    place_from_parts bound blocks at place (inl (omega (arith, is, some_late bound block some late)))
    (All-append (λ entry. is_entry_before bound entry ≡ true) (entries_in (take at blocks)) (take place block) before first)
    (All-append (λ entry. is_entry_before bound entry ≡ false) (drop place block) (entries_in (drop (suc at) blocks)) rest (late_behind bound blocks at ordered some late))

-- behind all blocks
pub place_behind : (bound : Bound) (blocks : List (List Entry)) (at : ℕ) → at ≡ length blocks → AllAreBefore bound (entries_in (take at blocks)) → IsPlace bound blocks at 0
place_behind bound blocks at is before =
    place_from_parts bound blocks at 0 (inr (is, refl))
    (All-append (λ entry. is_entry_before bound entry ≡ true) (entries_in (take at blocks)) [] before tt)
    (subst (AllAreLate bound) (sym (behind_all blocks at 0 is)) tt)

-- ---- the place close behind the entry that was put in last

late_end : (bound : Bound) (block : List Entry) (test : Bool) → IsInKeyOrder block → length (entries_before bound block) < length block → ends_before bound block ≡ test → test ≡ false
late_end bound block true ordered below is = absurd (omega (arith, below, ap length (filter-all (is_entry_before bound) block (all_of_ended bound block ordered is))))
late_end bound block false ordered below is = refl

-- in a block with more entries than those that are before the bound, where the blocks ahead are before it
place_below_end : (bound : Bound) (blocks : List (List Entry)) (at place : ℕ) → IsInKeyOrder (entries_in blocks) → AllByRecursion IsFilled blocks → at < length blocks
    → AllAreBefore bound (entries_in (take at blocks)) → place ≡ length (entries_before bound (block_at blocks at)) → place < length (block_at blocks at) → IsPlace bound blocks at place
place_below_end bound blocks at place ordered filled inside before is below =
    let block = block_at blocks at in
    place_in_block bound blocks at place ordered filled inside before (late_end bound block _ (ordered_at blocks at ordered inside) (omega (arith, is, below)) refl) is

-- in the block where an entry is before the bound
pub place_in_recent : (bound : Bound) (blocks : List (List Entry)) (at place : ℕ) → IsInKeyOrder (entries_in blocks) → AllByRecursion IsFilled blocks → at < length blocks
    → 0 < place → place ≡ length (entries_before bound (block_at blocks at)) → place < length (block_at blocks at) → IsPlace bound blocks at place
place_in_recent bound blocks at place ordered filled inside some is below =
    place_below_end bound blocks at place ordered filled inside (all_to_some bound blocks at ordered (omega (arith, some, is))) is below

all_of_whole : (bound : Bound) (block : List Entry) → IsInKeyOrder block → length block ≤ length (entries_before bound block) → AllAreBefore bound block
all_of_whole bound block ordered whole =
    let same : length block ≡ length (entries_before bound block) = omega (arith, whole, count_within_list bound block) in
    subst (AllAreBefore bound) (sym (sym (take-length block) ∙ take_before bound block (length block) ordered same)) (all_pass (is_entry_before bound) block)

-- where all entries of a block are before the bound, and some are there, so are those of the blocks ahead
all_to_whole : (bound : Bound) (blocks : List (List Entry)) (at count : ℕ) → IsInKeyOrder (entries_in blocks) → at < length blocks
    → 0 < count → count ≡ length (entries_before bound (block_at blocks at)) → length (block_at blocks at) ≤ count → AllAreBefore bound (entries_in (take (at + 1) blocks))
all_to_whole bound blocks at count ordered inside some counted whole =
    let block = block_at blocks at in
    let ahead = all_to_some bound blocks at ordered (omega (arith, some, counted)) in
    let all = all_of_whole bound block (ordered_at blocks at ordered inside) (omega (arith, counted, whole)) in
    rw add-one (subst (AllAreBefore bound) (sym (entries_in-take blocks at inside)) (All-append (λ entry. is_entry_before bound entry ≡ true) (entries_in (take at blocks)) block ahead all))

-- in the next block
pub place_in_next : (bound : Bound) (blocks : List (List Entry)) (at count place : ℕ) → IsInKeyOrder (entries_in blocks) → AllByRecursion IsFilled blocks → at + 1 < length blocks
    → 0 < count → count ≡ length (entries_before bound (block_at blocks at)) → length (block_at blocks at) ≤ count
    → place ≡ length (entries_before bound (block_at blocks (at + 1))) → place < length (block_at blocks (at + 1)) → IsPlace bound blocks (at + 1) place
place_in_next bound blocks at count place ordered filled inside some counted whole is below =
    place_below_end bound blocks (at + 1) place ordered filled inside (all_to_whole bound blocks at count ordered (omega (arith, inside)) some counted whole) is below

-- behind the last block
pub place_behind_last : (bound : Bound) (blocks : List (List Entry)) (at count : ℕ) → IsInKeyOrder (entries_in blocks) → at + 1 ≡ length blocks
    → 0 < count → count ≡ length (entries_before bound (block_at blocks at)) → length (block_at blocks at) ≤ count → IsPlace bound blocks (at + 1) 0
place_behind_last bound blocks at count ordered last some counted whole =
    place_behind bound blocks (at + 1) last (all_to_whole bound blocks at count ordered (omega (arith, last)) some counted whole)

-- ---- the place before all entries

-- where the first block has no entry that is before the bound
pub place_at_front : (bound : Bound) (blocks : List (List Entry)) → IsInKeyOrder (entries_in blocks) → AllByRecursion IsFilled blocks → length (entries_before bound (block_at blocks 0)) ≡ 0 → IsPlace bound blocks 0 0
place_at_front bound [] ordered filled none = place_behind bound [] 0 refl tt
place_at_front bound (block ∷ blocks) ordered filled none = place_below_end bound (block ∷ blocks) 0 0 ordered filled (omega arith) tt (sym none) filled.0.0
