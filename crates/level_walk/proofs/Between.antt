-- The edges that begin at a vertex stand together, behind those of the vertices before it.
use Rattle.std.specs.Prelude.{◌≡◌, ℕ, zero, suc, ◌+◌, ◌-◌, ◌*◌, ◌<◌, ◌≤◌, ◌==◌, nat_le, Bool, true, false, List, [], ◌∷◌, length, filter, take, drop, refl}
use Rattle.std.specs.List.{AllByRecursion}
use Rattle.std.specs.List.Sorted.{IsNonDecreasingBy, IsPartitionPoint}
use Rattle.std.specs.declared.cmp.Ordering.TheVariants.{Less}
use Rattle.std.proofs.Common.{arith, ap, sym, subst, ◌∙◌, inl, inr, get_or}
use Rattle.std.proofs.lemmas.Bool.{cases_lt, cases_eq, cond-true, cond-false, cond_both}
use Rattle.std.proofs.lemmas.Bool.Decides.{nat_tests}
use Rattle.std.proofs.lemmas.List.FromFn.{get_or-map-range_with_len}
use Rattle.plain_laws.specs.Lists.{All-get_or, All-weaker, filter-none, length-filter_le}
use Rattle.mtx_reader.specs.Ascending.{IsAscendingBy}
use Rattle.mtx_reader.specs.Places.{Place, place_cmp, IsWithin}
use Rattle.level_walk.specs.Edges.{edge_ends, edges_to}

-- a place that comes before another is in no later row, and in the same row in an earlier column
earlier_row : (place other : Place) → place_cmp place other ≡ Less → place.0 ≤ other.0
earlier_row place other before = grind (arith, nat_tests)

earlier_column : (place other : Place) → place_cmp place other ≡ Less → place.0 ≡ other.0 → place.1 < other.1
earlier_column place other before same = grind (arith, nat_tests)

-- rows don't fall
pub rows_in_order : (places : List Place) → IsAscendingBy place_cmp places → IsNonDecreasingBy (λ (place : Place). place.0) places
rows_in_order [] up i j d within below = absurd (omega arith)
rows_in_order (place ∷ places) up zero zero d within below = omega arith
rows_in_order (place ∷ places) up zero (suc j) d within below = earlier_row place (get_or places j d) (All-get_or (λ other. place_cmp place other ≡ Less) places j d (omega arith) up.0)
rows_in_order (place ∷ places) up (suc i) zero d within below = absurd (omega arith)
rows_in_order (place ∷ places) up (suc i) (suc j) d within below = rows_in_order places up.1 i j d (omega arith) (omega arith)

-- a point up to which a test holds, and not from there on, is the number of items that pass it
pub point_is : {X : Type 0} (p : X → Bool) (xs : List X) (i : ℕ) → i ≤ length xs → IsPartitionPoint (λ x. p x ≡ true) (λ x. p x ≡ false) xs i → i ≡ length (filter p xs)
point_is p [] zero within at = refl
point_is p [] (suc i) within at = absurd (omega arith)
point_is p (x ∷ xs) zero within at =
    let rest : zero ≡ length (filter p xs) = point_is p xs zero (omega arith) ((λ k d from below. absurd (omega arith)), (λ k d from below. at.1 (suc k) d (omega arith) (omega arith))) in
    rest ∙ sym (ap length (cond-false (p x) (x ∷ filter p xs) (filter p xs) (at.1 zero x (omega arith) (omega arith))))
point_is p (x ∷ xs) (suc i) within at =
    let rest : i ≡ length (filter p xs) = point_is p xs i (omega arith) ((λ k d from below. at.0 (suc k) d (omega arith) (omega arith)), (λ k d from below. at.1 (suc k) d (omega arith) (omega arith))) in
    ap suc rest ∙ sym (ap length (cond-true (p x) (x ∷ filter p xs) (filter p xs) (at.0 zero x (omega arith) (omega arith))))

-- behind an edge at a vertex all others are at that vertex or a later one
from_here : (edge : Place) (edges : List Place) (vertex : ℕ) → vertex < edge.0 → IsAscendingBy place_cmp (edge ∷ edges) → AllByRecursion (λ (other : Place). vertex < other.0) edges
from_here edge edges vertex high up = All-weaker (λ other. place_cmp edge other ≡ Less) (λ other. vertex < other.0) (λ other before. omega (arith, earlier_row edge other before)) edges up.0

beyond : (vertex : ℕ) (edge : Place) → vertex < edge.0 → nat_le edge.0 vertex ≡ false
beyond vertex edge high = grind (arith, nat_tests)

other_vertex : (vertex : ℕ) (edge : Place) → vertex < edge.0 → (edge.0 == vertex) ≡ false
other_vertex vertex edge high = grind (arith, nat_tests)

none_to : (edges : List Place) (vertex : ℕ) → AllByRecursion (λ (edge : Place). vertex < edge.0) edges → edges_to edges vertex ≡ 0
none_to edges vertex high = ap length (filter-none (λ edge. nat_le edge.0 vertex) edges (All-weaker (λ edge. vertex < edge.0) (λ edge. nat_le edge.0 vertex ≡ false) (beyond vertex) edges high))

-- the first edges are those that begin at the lowest vertex
edges_first : (edges : List Place) (vertex : ℕ) → IsAscendingBy place_cmp edges → AllByRecursion (λ (edge : Place). vertex < edge.0) edges
    → take (edges_to edges (suc vertex)) edges ≡ filter (λ (edge : Place). edge.0 == suc vertex) edges
edges_first [] vertex up high = refl
edges_first (edge ∷ edges) vertex up high = elim (cases_eq edge.0 (suc vertex)) [
  | inl is ↦
      let there : nat_le edge.0 (suc vertex) ≡ true = grind (arith, nat_tests) in
      let same : (edge.0 == suc vertex) ≡ true = grind (arith, nat_tests) in
      rw (there, same) (ap (λ others. edge ∷ others) (edges_first edges vertex up.1 high.1))
  | inr differs ↦
      let further : suc vertex < edge.0 = omega (arith, high.0, differs) in
      let all_further : AllByRecursion (λ (other : Place). suc vertex < other.0) (edge ∷ edges) = (further, from_here edge edges (suc vertex) further up) in
      ap (λ n. take n (edge ∷ edges)) (none_to (edge ∷ edges) (suc vertex) all_further)
      ∙ sym (filter-none (λ other. other.0 == suc vertex) (edge ∷ edges) (All-weaker (λ other. suc vertex < other.0) (λ other. (other.0 == suc vertex) ≡ false) (other_vertex (suc vertex)) (edge ∷ edges) all_further))
]

-- the edges that begin at a vertex are those between the ends of the vertex before it and of its own
pub edges_between : (edges : List Place) (vertex before count : ℕ) → IsAscendingBy place_cmp edges → before ≡ edges_to edges vertex → count + before ≡ edges_to edges (suc vertex)
    → take count (drop before edges) ≡ filter (λ (edge : Place). edge.0 == suc vertex) edges
edges_between [] vertex zero zero up begin end = refl
edges_between [] vertex zero (suc count) up begin end = absurd (omega (arith, end))
edges_between [] vertex (suc before) count up begin end = absurd (omega (arith, begin))
edges_between (edge ∷ edges) vertex zero count up begin end = elim (cases_lt vertex edge.0) [
  | inl high ↦
      let all : count ≡ edges_to (edge ∷ edges) (suc vertex) = omega (arith, end) in
      ap (λ n. take n (edge ∷ edges)) all ∙ edges_first (edge ∷ edges) vertex up (high, from_here edge edges vertex high up)
  | inr low ↦
      let here : nat_le edge.0 vertex ≡ true = grind (arith, nat_tests) in
      let some : zero ≡ suc (edges_to edges vertex) = begin ∙ ap length (cond-true (nat_le edge.0 vertex) _ _ here) in
      absurd (omega (arith, some))
]
edges_between (edge ∷ edges) vertex (suc before) count up begin end = elim (cases_lt vertex edge.0) [
  | inl high ↦ absurd (let none : suc before ≡ 0 = begin ∙ none_to (edge ∷ edges) vertex (high, from_here edge edges vertex high up) in omega (arith, none))
  | inr low ↦
      let here : nat_le edge.0 vertex ≡ true = grind (arith, nat_tests) in
      let there : nat_le edge.0 (suc vertex) ≡ true = grind (arith, nat_tests) in
      let other : (edge.0 == suc vertex) ≡ false = grind (arith, nat_tests) in
      let begin-rest : suc before ≡ suc (edges_to edges vertex) = begin ∙ ap length (cond-true (nat_le edge.0 vertex) _ _ here) in
      let end-rest : count + suc before ≡ suc (edges_to edges (suc vertex)) = end ∙ ap length (cond-true (nat_le edge.0 (suc vertex)) _ _ there) in
      edges_between edges vertex before count up.1 (omega (arith, begin-rest)) (omega (arith, end-rest))
      ∙ sym (cond-false (edge.0 == suc vertex) _ _ other)
]

-- the later vertex has the later end
pub edges_to_rises : (edges : List Place) (vertex : ℕ) → edges_to edges vertex ≤ edges_to edges (suc vertex)
edges_to_rises [] vertex = omega arith
edges_to_rises (edge ∷ edges) vertex = elim (cases_lt vertex edge.0) [
  | inl high ↦
      let here : nat_le edge.0 vertex ≡ false = beyond vertex edge high in
      let none : edges_to (edge ∷ edges) vertex ≡ edges_to edges vertex = ap length (cond-false (nat_le edge.0 vertex) _ _ here) in
      let more : edges_to edges (suc vertex) ≤ edges_to (edge ∷ edges) (suc vertex) =
      cond_both (nat_le edge.0 (suc vertex)) (edge ∷ filter (λ (e : Place). nat_le e.0 (suc vertex)) edges) (filter (λ (e : Place). nat_le e.0 (suc vertex)) edges) (λ es. edges_to edges (suc vertex) ≤ length es) (λ kept. omega arith) (λ dropped. omega arith) in
      omega (arith, none, more, edges_to_rises edges vertex)
  | inr low ↦
      let here : nat_le edge.0 vertex ≡ true = grind (arith, nat_tests) in
      let there : nat_le edge.0 (suc vertex) ≡ true = grind (arith, nat_tests) in
      let one : edges_to (edge ∷ edges) vertex ≡ suc (edges_to edges vertex) = ap length (cond-true (nat_le edge.0 vertex) _ _ here) in
      let one-then : edges_to (edge ∷ edges) (suc vertex) ≡ suc (edges_to edges (suc vertex)) = ap length (cond-true (nat_le edge.0 (suc vertex)) _ _ there) in
      omega (arith, one, one-then, edges_to_rises edges vertex)
]

-- what the table of ends has
pub end_at : (edges : List Place) (vertices vertex d : ℕ) (ends : List ℕ) → ends ≡ edge_ends edges vertices → vertex ≤ vertices → get_or ends vertex d ≡ edges_to edges vertex
end_at edges vertices vertex d ends are within =
    ap (λ (es : List ℕ). get_or es vertex d) are ∙ get_or-map-range_with_len (edges_to edges) 0 (vertices + 1) vertex vertex d (omega arith) (omega arith)

-- ---- how many there are

-- the places of 4,096 columns, counted row by row
few_from : (rows columns : ℕ) (place : Place) (places : List Place) → rows ≤ 4096 → columns ≤ 4096 → AllByRecursion (IsWithin rows columns) (place ∷ places) → IsAscendingBy place_cmp (place ∷ places)
    → length (place ∷ places) + (place.0 * 4097 + place.1) ≤ 16_785_409
few_from rows columns place [] few-rows few-columns within up = omega (arith, within.0.row.1, within.0.column.1)
few_from rows columns place (other ∷ places) few-rows few-columns within up = elim (cases_eq place.0 other.0) [
  | inl same ↦ omega (arith, same, earlier_column place other up.0.0 same, few_from rows columns other places few-rows few-columns within.1 up.1)
  | inr differs ↦ omega (arith, differs, earlier_row place other up.0.0, within.0.column.1, within.1.0.column.0, few_from rows columns other places few-rows few-columns within.1 up.1)
]

-- a graph has few edges
pub few_places : (rows columns : ℕ) (places : List Place) → rows ≤ 4096 → columns ≤ 4096 → AllByRecursion (IsWithin rows columns) places → IsAscendingBy place_cmp places → length places ≤ 16_785_409
few_places rows columns [] few-rows few-columns within up = omega arith
few_places rows columns (place ∷ places) few-rows few-columns within up = omega (arith, few_from rows columns place places few-rows few-columns within up)

-- ---- the part of one vertex

module _ (edges : List Place) (vertices vertex first last : ℕ) (ends : List ℕ) (are : ends ≡ edge_ends edges vertices) (from-one : 1 ≤ vertex) (within : vertex ≤ vertices)
    (first-is : first ≡ get_or ends (vertex - 1) first) (last-is : last ≡ get_or ends vertex last) where
  back : suc (vertex - 1) ≡ vertex
  back = omega (arith, from-one)

  first_end : first ≡ edges_to edges (vertex - 1)
  first_end = first-is ∙ end_at edges vertices (vertex - 1) first ends are (omega (arith, within))

  last_end : last ≡ edges_to edges vertex
  last_end = last-is ∙ end_at edges vertices vertex last ends are within

  pub part_in_order : first ≤ last
  part_in_order =
      let rises : edges_to edges (vertex - 1) ≤ edges_to edges vertex = subst (λ (v : ℕ). edges_to edges (vertex - 1) ≤ edges_to edges v) back (edges_to_rises edges (vertex - 1)) in
      omega (arith, first_end, last_end, rises)

  pub part_within : last ≤ length edges
  part_within = omega (arith, last_end, length-filter_le (λ (edge : Place). nat_le edge.0 vertex) edges)

  pub part_is : IsAscendingBy place_cmp edges → take (last - first) (drop first edges) ≡ filter (λ (edge : Place). edge.0 == vertex) edges
  part_is up =
      let last-back : last ≡ edges_to edges (suc (vertex - 1)) = last_end ∙ ap (edges_to edges) (sym back) in
      edges_between edges (vertex - 1) first (last - first) up first_end (omega (arith, part_in_order, last-back))
      ∙ ap (λ (v : ℕ). filter (λ (edge : Place). edge.0 == v) edges) back
