-- How paths compare that go on from others.
use Rattle.std.proofs.Common.{◌≡◌, ◌≢◌, ℕ, true, false, nat_eq, List, [], ◌∷◌, ◌++◌, length, drop, refl, sym, ap, ◌∙◌, subst, inl, inr, eq-eqb}
use Rattle.std.specs.Cmp.Lexicographic.{slice_cmp}
use Rattle.std.specs.declared.cmp.Ordering.TheVariants.{Less}
use Rattle.std.specs.Ordering.{is_lt, nat_cmp}
use Rattle.std.proofs.lemmas.Bool.{true≢false, and_parts, eqb-true, false_from_ne_true, cases_order}
use Rattle.plain_laws.specs.Orderings.{nat_cmp-same, nat_cmp-above}
use Rattle.task_order.specs.Comparing.{IsBelow, IsBelow-first, IsBelow-behind, slice_cmp-same}
use Rattle.app_laws.specs.Order.{is_prefix}

-- what goes on from a path is the path and what is behind it
pub joined_from_prefix : (path other : List ℕ) → is_prefix path other ≡ true → other ≡ path ++ drop (length path) other
joined_from_prefix [] other prefix = refl
joined_from_prefix (n ∷ path) [] prefix = absurd (true≢false (sym prefix))
joined_from_prefix (n ∷ path) (m ∷ other) prefix =
    let parts = and_parts (nat_eq n m) (is_prefix path other) prefix in
    λ i. sym (eqb-true n m parts.0) i ∷ joined_from_prefix path other parts.1 i

-- a path that is earlier than another, and no prefix of it, comes before it, whatever follows them
pub below_from_earlier : (path other : List ℕ) → is_prefix path other ≡ false → slice_cmp nat_cmp path other ≡ Less → IsBelow path other
below_from_earlier [] other no_prefix less = absurd (true≢false no_prefix)
below_from_earlier (n ∷ path) [] no_prefix less = absurd (true≢false (sym (ap is_lt less)))
below_from_earlier (n ∷ path) (m ∷ other) no_prefix less = elim (cases_order n m) [
  | inl same ↦
      subst (λ k. IsBelow (n ∷ path) (k ∷ other)) same
      (IsBelow-behind (n ∷ []) path other
      (below_from_earlier path other (rw (eq-eqb n m same) at no_prefix) (rw (ap (nat_cmp n) (sym same) ∙ nat_cmp-same n) at less)))
  | inr (inl below) ↦ IsBelow-first n m path other below
  | inr (inr above) ↦ absurd (true≢false (sym (ap is_lt (rw (nat_cmp-above n m above) at less))))
]

pub not_below_itself : (path : List ℕ) → slice_cmp nat_cmp path path ≢ Less
not_below_itself path less = true≢false (sym (ap is_lt (sym (slice_cmp-same path) ∙ less)))

-- what is above a path doesn't go on from it
pub no_prefix_of_above : (path other rest : List ℕ) → IsBelow path other → is_prefix path (other ++ rest) ≡ false
no_prefix_of_above path other rest below = false_from_ne_true (is_prefix path (other ++ rest)) (λ prefix.
    let behind = drop (length path) (other ++ rest) in
    not_below_itself (other ++ rest)
    (ap (λ joined. slice_cmp nat_cmp joined (other ++ rest)) (joined_from_prefix path (other ++ rest) prefix) ∙ below.before behind rest))
