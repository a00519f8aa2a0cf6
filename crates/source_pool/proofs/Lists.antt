-- Two lists place by place, members of lists, and lists in key order.
use Rattle.std.proofs.Common.{◌≡◌, ◌<◌, ℕ, inl, inr, List, [], ◌∷◌, ◌++◌, drop, length, length-append, map, take, Some, refl, sym, ◌∙◌, ap, subst, arith, IsPermutation}
use Rattle.std.specs.Prelude.{Contains, slice_index_or, slice_set}
use Rattle.std.specs.List.{All, AllZip, swap}
use Rattle.std.specs.declared.cmp.Ordering.TheVariants.{Less}
use Rattle.std.proofs.lemmas.List.{get_or-map, length-map, map-set}
use Rattle.std.proofs.lemmas.List.Elements.{All-append, All-cons, All-drop, All-head, All-nil, All-take}
use Rattle.std.proofs.lemmas.List.Sorted.{IsPermutation-keeps, IsPermutation-map, IsPermutation-refl, IsPermutation-swap, IsPermutation-trans}
use Rattle.plain_laws.specs.Members.{none, here, there, cases, all_at}
use Rattle.task_order.specs.declared.task.Task.{Task}
use Rattle.task_order.specs.Key.{key_cmp}
use Rattle.task_order.specs.Laws.{EarlierIsIrreflexive, EarlierIsTransitive}
use Rattle.task_order.specs.TaskList.{IsAscending}

-- ---- two lists, place by place

pub AllZip-append : {X Y : Type 0} (R : X → Y → Type 0) (xs others : List X) (ys more : List Y) → AllZip R xs ys → AllZip R others more → AllZip R (xs ++ others) (ys ++ more)
AllZip-append R [] others [] more each rest = rest
AllZip-append R [] others (y ∷ ys) more each rest = absurd each
AllZip-append R (x ∷ xs) others [] more each rest = absurd each
AllZip-append R (x ∷ xs) others (y ∷ ys) more each rest = (each.0, AllZip-append R xs others ys more each.1 rest)

-- some order of the first list, beside the other one place by place
pub record Beside {X Y : Type 0} (R : X → Y → Type 0) (xs : List X) (ys : List Y) : Type 0 where
  pub turn : List X
  pub same : IsPermutation xs turn
  pub each : AllZip R turn ys

module _ {X Y : Type 0} (R : X → Y → Type 0) where
  abbrev Pair : Type 0
  Pair = (x : X) × (y : Y) × R x y

  abbrev firsts : List Pair → List X
  firsts ps = map (λ (p : Pair). p.0) ps

  abbrev seconds : List Pair → List Y
  seconds ps = map (λ (p : Pair). p.1) ps

  in_pairs : (xs : List X) (ys : List Y) → AllZip R xs ys → (ps : List Pair) × (firsts ps ≡ xs) × (seconds ps ≡ ys)
  in_pairs [] [] each = ([], refl, refl)
  in_pairs [] (y ∷ ys) each = absurd each
  in_pairs (x ∷ xs) [] each = absurd each
  in_pairs (x ∷ xs) (y ∷ ys) each =
      let rest : (ps : List Pair) × (firsts ps ≡ xs) × (seconds ps ≡ ys) = in_pairs xs ys each.1 in
      ((x, y, each.0) ∷ rest.0, (λ i. x ∷ rest.1 i), (λ i. y ∷ rest.2 i))

  from_pairs : (ps : List Pair) → AllZip R (firsts ps) (seconds ps)
  from_pairs [] = tt
  from_pairs (p ∷ ps) = (p.2, from_pairs ps)

  seconds-swap : (ps : List Pair) (i j : ℕ) → i < length ps → j < length ps → seconds (swap ps i j) ≡ swap (seconds ps) i j
  seconds-swap [] i j p q = refl
  seconds-swap (a ∷ ps) i j p q =
      let second = λ (p : Pair). p.1 in
      let l = a ∷ ps in
      map-set second (slice_set l i (slice_index_or l j a)) j (slice_index_or l i a)
      ∙ (λ t. slice_set ((map-set second l i (slice_index_or l j a) ∙ ap (slice_set (seconds l) i) (sym (get_or-map second l j a (second a) q))) t) j (sym (get_or-map second l i a (second a) p) t))

  follow : (ps : List Pair) (ys : List Y) → IsPermutation (seconds ps) ys → (qs : List Pair) × IsPermutation ps qs × (seconds qs ≡ ys)
  follow ps ys = IsPermutation-keeps (seconds ps) (λ l. (qs : List Pair) × IsPermutation ps qs × (seconds qs ≡ l)) (ps, IsPermutation-refl ps, refl) (λ l i j p q so_far.
      let qs = so_far.0 in
      let long = ap length so_far.2 in
      let many = length-map qs (λ (p : Pair). p.1) in
      let p' : i < length qs = omega (arith, p, long, many) in
      let q' : j < length qs = omega (arith, q, long, many) in
      (swap qs i j, IsPermutation-trans ps qs (swap qs i j) so_far.1 (IsPermutation-swap qs (swap qs i j) i j p' q' refl), seconds-swap qs i j p' q' ∙ ap (λ (l : List Y). swap l i j) so_far.2)) ys

  -- where one list is put in another order, the list beside it may be put so too
  pub beside_in_order : (xs : List X) (ys zs : List Y) → AllZip R xs ys → IsPermutation ys zs → Beside R xs zs
  beside_in_order xs ys zs each same =
      let pairs = in_pairs xs ys each in
      let moved = follow pairs.0 zs (subst (λ (l : List Y). IsPermutation l zs) (sym pairs.2) same) in
      record {
        turn = firsts moved.0;
        same = subst (λ (l : List X). IsPermutation l (firsts moved.0)) pairs.1 (IsPermutation-map (λ (p : Pair). p.0) pairs.0 moved.0 moved.1);
        each = subst (AllZip R (firsts moved.0)) moved.2 (from_pairs moved.0);
      }

-- ---- lists in key order

module _ (irreflexive : EarlierIsIrreflexive) (transitive : EarlierIsTransitive) where
  not_both : (task other : Task) → key_cmp task.key other.key ≡ Less → key_cmp other.key task.key ≡ Less → ⊥
  not_both task other first second = irreflexive task.key task.key (transitive task.key other.key task.key first second) refl

  first_is : (task : Task) (tasks : List Task) (other : Task) (others : List Task) → IsAscending (task ∷ tasks) → IsAscending (other ∷ others)
      → Contains (other ∷ others) task → Contains (task ∷ tasks) other → task ≡ other
  first_is task tasks other others up above has back = elim (cases other task others has) [
    | inl same ↦ sym same
    | inr later ↦ elim (cases task other tasks back) [
      | inl same ↦ same
      | inr after ↦ absurd (not_both task other (all_at (λ (t : Task). key_cmp task.key t.key ≡ Less) tasks other up.0 after) (all_at (λ (t : Task). key_cmp other.key t.key ≡ Less) others task above.0 later))
    ]
  ]

  rest_has : (task : Task) (tasks : List Task) (other : Task) (others : List Task) → IsAscending (task ∷ tasks) → task ≡ other
      → ((t : Task) → Contains (task ∷ tasks) t → Contains (other ∷ others) t) → (t : Task) → Contains tasks t → Contains others t
  rest_has task tasks other others up same each t has = elim (cases other t others (each t (there task t tasks has))) [
    | inl is ↦ absurd (irreflexive task.key task.key (ap (λ (o : Task). key_cmp task.key o.key) (same ∙ is) ∙ all_at (λ (o : Task). key_cmp task.key o.key ≡ Less) tasks t up.0 has) refl)
    | inr later ↦ later
  ]

  -- two lists in key order that have the same tasks are one
  pub same_tasks : (tasks others : List Task) → IsAscending tasks → IsAscending others → ((t : Task) → Contains tasks t → Contains others t) → ((t : Task) → Contains others t → Contains tasks t) → tasks ≡ others
  same_tasks [] [] up above each back = refl
  same_tasks [] (other ∷ others) up above each back = absurd (none other (back other (here other others)))
  same_tasks (task ∷ tasks) [] up above each back = absurd (none task (each task (here task tasks)))
  same_tasks (task ∷ tasks) (other ∷ others) up above each back =
      let same = first_is task tasks other others up above (each task (here task tasks)) (back other (here other others)) in
      let rest = same_tasks tasks others up.1 above.1 (rest_has task tasks other others up same each) (rest_has other others task tasks above (sym same) back) in
      (λ i. same i ∷ rest i)

-- ---- what holds of each item

-- the items as they are given back to the vector that lent them
pub all_given_back : {X : Type 0} (P : X → Type 0) (count : ℕ) (olds nows : List X) → All P nows → All P olds → All P (take count (nows ++ drop (length nows) olds))
all_given_back P count olds nows now old = All-take P count (nows ++ drop (length nows) olds) (All-append P nows (drop (length nows) olds) now (All-drop P (length nows) olds old))

only_one : {X : Type 0} (xs front : List X) (x : X) → xs ≡ front ++ x ∷ [] → length xs ≡ 1 → xs ≡ x ∷ []
only_one xs [] x whole one = whole
only_one xs (y ∷ ys) x whole one = absurd (omega (arith, one, ap length whole, length-append ys (x ∷ [])))

-- of the only item
pub of_only : {X : Type 0} (P : X → Type 0) (xs front : List X) (x : X) → xs ≡ front ++ x ∷ [] → length xs ≡ 1 → All P xs → P x
of_only P xs front x whole one all = All-head P x [] (subst (All P) (only_one xs front x whole one) all)

-- from the only item
pub at_only : {X : Type 0} (P : X → Type 0) (xs front : List X) (x : X) → xs ≡ front ++ x ∷ [] → length xs ≡ 1 → P x → All P xs
at_only P xs front x whole one is = subst (All P) (sym (only_one xs front x whole one)) (All-cons P x [] is (All-nil P))
