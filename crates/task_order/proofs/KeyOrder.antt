-- What follows from the order of keys.
use Rattle.std.specs.Cmp.Lexicographic.{slice_cmp}
use Rattle.std.specs.declared.cmp.Ordering.{Ordering}
use Rattle.std.specs.declared.cmp.Ordering.TheVariants.{Less, Equal, Greater}
use Rattle.std.specs.Ordering.{nat_cmp, ordering_then, ordering_reverse}
use Rattle.std.proofs.Common.{◌≡◌, ◌≢◌, ℕ, ◌<◌, ◌≤◌, ◌⊎◌, inl, inr, List, [], ◌∷◌, ◌++◌, refl, ◌∙◌, ap, arith}
use Rattle.std.proofs.lemmas.Bool.Decides.{nat_tests}
use Rattle.std.proofs.lemmas.Map.Lookups.{exact_unsigned, exact_bytes, exact_pairs}
use Rattle.plain_laws.specs.Orderings.{nat_cmp-same, nat_cmp-below}
use Rattle.task_order.specs.declared.key.Key.{Key}
use Rattle.task_order.specs.Key.{key_cmp, key_cmp_total, IsExactOrder, ChildrenComeLater, ChildrenComeInTurn}
use Rattle.task_order.specs.Laws.{EarlierIsConnected, EarlierIsTurned}
use Rattle.task_order.specs.KeyLaws.{key_cmp-turned_back}

-- keys that compare equal are the same
pub key_cmp-exact : IsExactOrder
key_cmp-exact a b equal =
    ap (λ (p : ℕ × List ℕ). record { prio = p.0; path = p.1 }) (exact_pairs nat_cmp (slice_cmp nat_cmp) exact_unsigned exact_bytes (a.prio, a.path) (b.prio, b.path) equal)

-- the other way round
pub key_cmp-turned : (a b : Key) → key_cmp a b ≡ Greater → key_cmp b a ≡ Less
key_cmp-turned a b greater = key_cmp_total.antisymm b a ∙ ap ordering_reverse greater

pub earlier_turned : EarlierIsTurned
earlier_turned a b = (key_cmp-turned_back a b, key_cmp-turned b a)

connected_by : (a b : Key) (o : Ordering) → key_cmp a b ≡ o → a ≢ b → (key_cmp a b ≡ Less) ⊎ (key_cmp b a ≡ Less)
connected_by a b Less is differ = inl is
connected_by a b Equal is differ = absurd (differ (key_cmp-exact a b is))
connected_by a b Greater is differ = inr (key_cmp-turned a b is)

pub earlier_connected : EarlierIsConnected
earlier_connected a b = connected_by a b _ refl

-- a path comes before each that goes on from it
slice_cmp-longer : (path : List ℕ) (number : ℕ) → slice_cmp nat_cmp path (path ++ number ∷ []) ≡ Less
slice_cmp-longer [] number = refl
slice_cmp-longer (n ∷ path) number =
    ap (λ o. ordering_then o (slice_cmp nat_cmp path (path ++ number ∷ []))) (nat_cmp-same n) ∙ slice_cmp-longer path number

slice_cmp-last : (path : List ℕ) (first second : ℕ) → first < second → slice_cmp nat_cmp (path ++ first ∷ []) (path ++ second ∷ []) ≡ Less
slice_cmp-last [] first second below = ap (λ o. ordering_then o Equal) (nat_cmp-below first second below)
slice_cmp-last (n ∷ path) first second below =
    ap (λ o. ordering_then o (slice_cmp nat_cmp (path ++ first ∷ []) (path ++ second ∷ []))) (nat_cmp-same n) ∙ slice_cmp-last path first second below

nat_cmp-then : (m n : ℕ) (o : Ordering) → m ≤ n → o ≡ Less → ordering_then (nat_cmp m n) o ≡ Less
nat_cmp-then m n o up_to less = grind (arith, nat_tests)

pub children_come_later : ChildrenComeLater
children_come_later parent number prio up_to = nat_cmp-then parent.prio prio _ up_to (slice_cmp-longer parent.path number)

pub children_come_in_turn : ChildrenComeInTurn
children_come_in_turn parent first second prio below = nat_cmp-then prio prio _ (omega arith) (slice_cmp-last parent.path first second below)
