-- What is so of keys in their order.
use Rattle.std.specs.declared.cmp.Ordering.TheVariants.{Equal, Greater, Less}
use Rattle.std.specs.Cmp.{tied_itself}
use Rattle.std.proofs.Common.{◌≡◌, ap, sym, ◌≢◌, ◌∙◌, true, inl, arith, inr, ◌≤◌, refl, Bool}
use Rattle.std.specs.Ordering.{ordering_reverse, is_lt, nat_cmp}
use Rattle.std.proofs.lemmas.Bool.{cases_Bool, true≢false}
use Rattle.std.specs.Prelude.{nat_le, false}
use Rattle.std.proofs.lemmas.Bool.Decides.{nat_tests}
use Rattle.plain_laws.specs.Orderings.{less_from_test}
use Rattle.task_order.specs.declared.key.Key.{Key}
use Rattle.task_order.specs.Key.{Bound, at_key, end, is_before, key_cmp, key_cmp_total}

-- a key compares equal to itself
pub key_cmp-same : (a : Key) → key_cmp a a ≡ Equal
key_cmp-same = tied_itself key_cmp_total

-- an earlier key is another key
pub differ_from_earlier : (a b : Key) → key_cmp a b ≡ Less → a ≢ b
differ_from_earlier a b earlier same =
    let equal : key_cmp a b ≡ Equal = ap (key_cmp a) (sym same) ∙ key_cmp-same a in
    let never : Less ≡ Equal = sym earlier ∙ equal in
    cc

pub key_cmp-turned_back : (a b : Key) → key_cmp a b ≡ Less → key_cmp b a ≡ Greater
key_cmp-turned_back a b earlier = key_cmp_total.antisymm b a ∙ ap ordering_reverse earlier

-- a key that is not later has no higher priority
pub earlier_prio : (a b : Key) → is_lt (key_cmp a b) ≡ true → a.prio ≤ b.prio
earlier_prio a b earlier = elim (cases_Bool (nat_le a.prio b.prio)) [
  | inl low ↦ grind (arith, nat_tests, low)
  | inr high ↦
      let later : nat_cmp a.prio b.prio ≡ Greater = grind (arith, nat_tests, high) in
      absurd (cc (rw later at earlier))
]

pub later_prio : (a b : Key) → is_lt (key_cmp a b) ≡ false → b.prio ≤ a.prio
later_prio a b after = grind (arith, nat_tests)

pub not_past_earlier : (a b : Key) → key_cmp a b ≡ Less → is_lt (key_cmp b a) ≡ false
not_past_earlier a b earlier = ap is_lt (key_cmp_total.antisymm b a ∙ ap ordering_reverse earlier)

pub before_earlier : (key later : Key) (bound : Bound) → key_cmp key later ≡ Less → is_before later bound ≡ true → is_before key bound ≡ true
before_earlier key later (at_key bound) earlier is = ap is_lt (key_cmp_total.trans key later bound earlier (less_from_test _ is))
before_earlier key later end earlier is = refl

pub not_before_later : (key later : Key) (bound : Bound) → key_cmp key later ≡ Less → is_before key bound ≡ false → is_before later bound ≡ false
not_before_later key later bound earlier is = by_case (is_before later bound) refl
  where
    by_case : (before : Bool) → is_before later bound ≡ before → before ≡ false
    by_case true before = absurd (true≢false (sym (before_earlier key later bound earlier before) ∙ is))
    by_case false before = refl
