-- Orderings, and the tests of them.
use Rattle.std.proofs.Common.{◌≡◌, true, false, refl, ℕ, arith, ◌<◌}
use Rattle.std.specs.declared.cmp.Ordering.{Ordering}
use Rattle.std.specs.declared.cmp.Ordering.TheVariants.{Less, Equal, Greater}
use Rattle.std.specs.Ordering.{is_eq, is_lt, nat_cmp}
use Rattle.std.specs.Cmp.{tied_itself, nat_cmp_total}
use Rattle.std.proofs.lemmas.Bool.Decides.{nat_tests}

pub less_from_test : (o : Ordering) → is_lt o ≡ true → o ≡ Less
less_from_test Less is = refl
less_from_test Equal is = cc
less_from_test Greater is = cc

pub equal_from_test : (o : Ordering) → is_eq o ≡ true → o ≡ Equal
equal_from_test Less is = cc
equal_from_test Equal is = refl
equal_from_test Greater is = cc

pub not_less : (o : Ordering) → (o ≡ Less → ⊥) → is_lt o ≡ false
not_less Less never = absurd (never refl)
not_less Equal never = refl
not_less Greater never = refl

pub nat_cmp-same : (n : ℕ) → nat_cmp n n ≡ Equal
nat_cmp-same = tied_itself nat_cmp_total

pub nat_cmp-below : (m n : ℕ) → m < n → nat_cmp m n ≡ Less
nat_cmp-below m n below = grind (arith, nat_tests)

pub nat_cmp-above : (m n : ℕ) → n < m → nat_cmp m n ≡ Greater
nat_cmp-above m n above = grind (arith, nat_tests)

pub below_from_cmp : (m n : ℕ) → nat_cmp m n ≡ Less → m < n
below_from_cmp m n is = grind (arith, nat_tests)

pub same_from_cmp : (m n : ℕ) → nat_cmp m n ≡ Equal → m ≡ n
same_from_cmp m n is = grind (arith, nat_tests)

pub above_from_cmp : (m n : ℕ) → nat_cmp m n ≡ Greater → n < m
above_from_cmp m n is = grind (arith, nat_tests)
