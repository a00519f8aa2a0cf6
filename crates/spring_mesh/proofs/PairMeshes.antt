-- Pairs of nodes make a sound mesh.
use Rattle.std.proofs.Common.{◌≡◌, ◌∙◌, ℕ, ◌+◌, ◌*◌, ◌<◌, ◌≤◌, List, [], ◌∷◌, ◌++◌, length, map, replicate, arith, ap, sym, refl, subst, zero-add}
use Rattle.std.specs.List.{All, flat_map, range_with_len}
use Rattle.std.proofs.lemmas.Int.{ints}
use Rattle.std.proofs.lemmas.List.{length-replicate, replicate-append-replicate}
use Rattle.std.proofs.lemmas.List.Concat.{flat_map-append}
use Rattle.std.proofs.lemmas.List.Elements.{All-nil, All-cons, All-map, All-replicate, All-weaker, All-head, All-tail}
use Rattle.std.proofs.lemmas.List.FromFn.{length-map-range_with_len, length-range_with_len, map-range_with_len_more}
use Rattle.plain_laws.specs.Ranges.{range-below, range_more}
use Rattle.spring_mesh.specs.declared.file.MeshFile.{MeshFile}
use Rattle.spring_mesh.specs.declared.file.MeshNode.{MeshNode}
use Rattle.spring_mesh.specs.Files.{IsMass, IsMesh, IsNode, IsSpring}
use Rattle.spring_mesh.specs.Pairs.{generated_input, most_pairs, pair_mass, pair_nodes, pair_spring, resting_at, with_pair}

-- one pair more
nodes-more : (n : ℕ) → flat_map pair_nodes (range_with_len 0 n) ++ pair_nodes n ≡ flat_map pair_nodes (range_with_len 0 (n + 1))
nodes-more n = sym (ap (flat_map pair_nodes) (range_more n) ∙ flat_map-append pair_nodes (range_with_len 0 n) (n ∷ []))

masses-more : (n : ℕ) → replicate (2 * n) pair_mass ++ pair_mass ∷ pair_mass ∷ [] ≡ replicate (2 * (n + 1)) pair_mass
masses-more n =
    let two : 2 * n + 2 ≡ 2 * (n + 1) = omega arith in
    replicate-append-replicate (2 * n) 2 pair_mass ∙ ap (λ (count : ℕ). replicate count pair_mass) two

springs-more : (n : ℕ) → map pair_spring (range_with_len 0 n) ++ pair_spring n ∷ [] ≡ map pair_spring (range_with_len 0 (n + 1))
springs-more n = sym (map-range_with_len_more pair_spring 0 n n (zero-add n))

pub pair_added : (n : ℕ) (before after : MeshFile) → before ≡ generated_input n → after ≡ with_pair before n → after ≡ generated_input (n + 1)
pair_added n before after so_far more = more ∙ ap (λ (file : MeshFile). with_pair file n) so_far ∙ grown
  where
    grown : with_pair (generated_input n) n ≡ generated_input (n + 1)
    grown = let nodes = nodes-more n in let masses = masses-more n in let springs = springs-more n in cc

length-nodes : (pairs : List ℕ) → length (flat_map pair_nodes pairs) ≡ 2 * length pairs
length-nodes [] = refl
length-nodes (pair ∷ pairs) = omega (arith, length-nodes pairs)

nodes-each : (P : MeshNode → Type 0) (n : ℕ) (pairs : List ℕ) → ((x y : ℕ) → x ≤ 30 → y ≤ 50 * n → P (resting_at x y)) → All (λ pair. pair < n) pairs → All P (flat_map pair_nodes pairs)
nodes-each P n [] each below = All-nil P
nodes-each P n (pair ∷ pairs) each below =
    let here : pair < n = All-head (λ i. i < n) pair pairs below in
    let others = flat_map pair_nodes pairs in
    let second = resting_at 30 (50 * pair) in
    All-cons P (resting_at 0 (50 * pair)) (second ∷ others) (each 0 (50 * pair) (omega arith) (omega (arith, here)))
    (All-cons P second others (each 30 (50 * pair) (omega arith) (omega (arith, here)))
    (nodes-each P n pairs each (All-tail (λ i. i < n) pair pairs below)))

resting-sound : (x y : ℕ) → x ≤ 30 → y ≤ 50 * most_pairs → IsNode (resting_at x y)
resting-sound x y left low = record { x = omega (arith, left); y = omega (arith, low); vx = omega arith; vy = omega arith; time = omega arith }

spring-sound : (nodes pair : ℕ) → 2 * pair + 1 < nodes → IsSpring nodes (pair_spring pair)
spring-sound nodes pair below = record {
  a = omega (arith, below);
  b = below;
  two = λ same. absurd (omega (arith, same));
  not_negative = omega (arith, ints);
  stiffness = omega (arith, ints);
  rx = omega arith;
  ry = omega arith;
  some = omega arith;
  period = omega arith;
}

generated-sound : (n : ℕ) → n ≤ most_pairs → IsMesh (generated_input n)
generated-sound n few =
    let pairs = range_with_len 0 n in
    let nodes = flat_map pair_nodes pairs in
    let count : length nodes ≡ 2 * n = length-nodes pairs ∙ ap (λ (pairs : ℕ). 2 * pairs) (length-range_with_len 0 n) in
    record {
      node_count = omega (arith, count, few);
      spring_count = omega (arith, length-map-range_with_len pair_spring 0 n, few);
      mass_count = length-replicate (2 * n) pair_mass ∙ sym count;
      nodes = nodes-each IsNode n pairs (λ x y left low. resting-sound x y left (omega (arith, low, few))) (range-below n);
      start = nodes-each (λ node. node.time ≡ 0) n pairs (λ x y left low. refl) (range-below n);
      masses = All-replicate IsMass (2 * n) pair_mass (record { some = omega (arith, ints); most = omega (arith, ints) });
      springs = All-map (IsSpring (length nodes)) pair_spring pairs
          (All-weaker (λ i. i < n) (λ i. IsSpring (length nodes) (pair_spring i)) (λ i below. spring-sound (length nodes) i (omega (arith, below, count))) pairs (range-below n));
      end = omega arith;
    }

pub pairs-sound : (n : ℕ) (file : MeshFile) → n ≤ most_pairs → file ≡ generated_input n → IsMesh file
pairs-sound n file few made = subst IsMesh (sym made) (generated-sound n few)
