-- Jobs that are dealt out in turn: what each hand has of them so far, and that none is lost.
use Rattle.std.proofs.Common.{◌≡◌, ◌≢◌, ◌⊎◌, inl, inr, ℕ, zero, suc, ◌+◌, ◌%◌, if◌then◌else◌, List, [], ◌∷◌, ◌++◌, Some, length, refl, sym, ◌∙◌, ap, subst, arith, IsPermutation}
use Rattle.std.specs.Prelude.{slice_get, slice_set}
use Rattle.std.specs.List.{All, flat_map}
use Rattle.std.proofs.lemmas.Bool.{eq-eqb}
use Rattle.std.proofs.lemmas.Bool.Decides.{eqb_tells}
use Rattle.std.proofs.lemmas.List.{append-nil, append_assoc, length-set}
use Rattle.std.proofs.lemmas.Option.{get_or_from_slice_get, same_Some, slice_get_within}
use Rattle.std.proofs.lemmas.List.Sorted.{IsPermutation-append_left, IsPermutation-append_right, IsPermutation-refl, IsPermutation-to_front, IsPermutation-trans}
use Rattle.run_laws.specs.Jobs.{Done, Job}
use Rattle.source_pool.specs.declared.hands.Hand.{Hand}
use Rattle.source_pool.specs.Performing.{AreDealt, AreEmptyHands, dealt_jobs, share}

-- ---- what stands where in a list

set_at : {X : Type 0} (xs : List X) (i : ℕ) (y : X) (k : ℕ) (z : X) → slice_get (slice_set xs i y) k ≡ Some z → ((k ≡ i) × (y ≡ z)) ⊎ ((k ≢ i) × (slice_get xs k ≡ Some z))
set_at [] i y k z is = absurd (cc)
set_at (x ∷ xs) zero y zero z is = inl (refl, same_Some y z is)
set_at (x ∷ xs) zero y (suc k) z is = inr ((λ same. omega (arith, same)), is)
set_at (x ∷ xs) (suc i) y zero z is = inr ((λ same. omega (arith, same)), is)
set_at (x ∷ xs) (suc i) y (suc k) z is = elim (set_at xs i y k z is) [
  | inl here ↦ inl (ap suc here.0, here.1)
  | inr other ↦ inr ((λ same. other.0 (omega (arith, same))), other.1)
]

-- where one list of several grows by one item, all of them have that item more
grown : {X Y : Type 0} (f : X → List Y) (xs : List X) (place : ℕ) (x next : X) (y : Y) → slice_get xs place ≡ Some x → f next ≡ f x ++ y ∷ []
    → IsPermutation (flat_map f xs ++ y ∷ []) (flat_map f (slice_set xs place next))
grown f [] place x next y at is = absurd (cc)
grown {X} {Y} f (z ∷ xs) zero x next y at is =
    let same : f next ≡ f z ++ y ∷ [] = is ∙ ap (λ (w : X). f w ++ y ∷ []) (sym (same_Some z x at)) in
    let left : (f z ++ flat_map f xs) ++ y ∷ [] ≡ f z ++ (flat_map f xs ++ y ∷ []) = append_assoc (f z) (flat_map f xs) (y ∷ []) in
    let right : f next ++ flat_map f xs ≡ f z ++ (y ∷ flat_map f xs) = ap (λ (l : List Y). l ++ flat_map f xs) same ∙ append_assoc (f z) (y ∷ []) (flat_map f xs) in
    subst (λ (l : List Y). IsPermutation l (f next ++ flat_map f xs)) (sym left) (subst (IsPermutation (f z ++ (flat_map f xs ++ y ∷ []))) (sym right)
    (IsPermutation-append_right (f z) (flat_map f xs ++ y ∷ []) (y ∷ flat_map f xs) (IsPermutation-to_front (flat_map f xs) y)))
grown {X} {Y} f (z ∷ xs) (suc place) x next y at is =
    subst (λ (l : List Y). IsPermutation l (f z ++ flat_map f (slice_set xs place next))) (sym (append_assoc (f z) (flat_map f xs) (y ∷ [])))
    (IsPermutation-append_right (f z) (flat_map f xs ++ y ∷ []) (flat_map f (slice_set xs place next)) (grown f xs place x next y at is))

-- ---- a worker's share

mine : {X : Type 0} (workers number : ℕ) (x : X) (xs : List X) → share workers (number % workers) number (x ∷ xs) ≡ x ∷ share workers (number % workers) (number + 1) xs
mine {X} workers number x xs =
    ap (λ test. if test then x ∷ share workers (number % workers) (number + 1) xs else share workers (number % workers) (number + 1) xs) (eq-eqb (number % workers) (number % workers) refl)

others : {X : Type 0} (workers worker number : ℕ) (x : X) (xs : List X) → worker ≢ number % workers → share workers worker number (x ∷ xs) ≡ share workers worker (number + 1) xs
others workers worker number x xs differ = elim (eqb_tells (number % workers) worker) [
  | inl same ↦ absurd (differ (sym same.1))
  | inr other ↦ ap (λ test. if test then x ∷ share workers worker (number + 1) xs else share workers worker (number + 1) xs) other.0
]

module _ {V : Type 0} where
  -- ---- hands without jobs

  no_jobs : (hands : List (Hand (Job V) (Done V))) → All (λ (hand : Hand (Job V) (Done V)). hand.jobs.items ≡ []) hands → dealt_jobs hands ≡ []
  no_jobs [] each = refl
  no_jobs (hand ∷ hands) each = ap (λ (l : List (Job V)). l ++ dealt_jobs hands) (each 0 hand (omega arith)) ∙ no_jobs hands (λ k other inside. each (suc k) other (omega (arith, inside)))

  -- ---- no job is lost

  -- one more job is put behind those of a hand
  pub one_in_hand : (jobs : List (Job V)) (place : ℕ) (job : Job V) (rest : List (Job V)) (hands : List (Hand (Job V) (Done V))) (hand next : Hand (Job V) (Done V)) → IsPermutation jobs (dealt_jobs hands ++ (job ∷ rest))
      → slice_get hands place ≡ Some hand → next.jobs.items ≡ hand.jobs.items ++ job ∷ [] → IsPermutation jobs (dealt_jobs (slice_set hands place next) ++ rest)
  one_in_hand jobs place job rest hands hand next all at more =
      let before : List (Job V) = dealt_jobs hands in
      let dealt : IsPermutation ((before ++ job ∷ []) ++ rest) (dealt_jobs (slice_set hands place next) ++ rest) =
      IsPermutation-append_left rest (before ++ job ∷ []) (dealt_jobs (slice_set hands place next)) (grown (λ (h : Hand (Job V) (Done V)). h.jobs.items) hands place hand next job at more) in
      IsPermutation-trans jobs (before ++ (job ∷ rest)) (dealt_jobs (slice_set hands place next) ++ rest) all
      (subst (λ (l : List (Job V)). IsPermutation l (dealt_jobs (slice_set hands place next) ++ rest)) (append_assoc before (job ∷ []) rest) dealt)

  pub all_in_hands : (jobs rest : List (Job V)) (hands : List (Hand (Job V) (Done V))) → IsPermutation jobs (dealt_jobs hands ++ rest) → rest ≡ [] → IsPermutation jobs (dealt_jobs hands)
  all_in_hands jobs rest hands all empty = subst (IsPermutation jobs) (ap (λ (l : List (Job V)). dealt_jobs hands ++ l) empty ∙ append-nil (dealt_jobs hands)) all

  -- ---- hands with some of the jobs

  -- the jobs before a number are dealt out, and the rest is left
  pub record AreDealtBefore (workers : ℕ) (jobs : List (Job V)) (number : ℕ) (rest : List (Job V)) (hands : List (Hand (Job V) (Done V))) : Type 0 where
    pub count : length hands ≡ workers
    pub shares : (k : ℕ) (hand : Hand (Job V) (Done V)) → slice_get hands k ≡ Some hand → hand.jobs.items ++ share workers k number rest ≡ share workers k 0 jobs
    pub all : IsPermutation jobs (dealt_jobs hands ++ rest)

  pub none_dealt : (workers : ℕ) (jobs rest : List (Job V)) (hands : List (Hand (Job V) (Done V))) → AreEmptyHands workers hands → rest ≡ jobs → AreDealtBefore workers jobs 0 rest hands
  none_dealt workers jobs rest hands empty whole =
      let empty_at : (k : ℕ) (hand : Hand (Job V) (Done V)) → slice_get hands k ≡ Some hand → hand.jobs.items ≡ [] = λ k hand at.
      subst (λ (h : Hand (Job V) (Done V)). h.jobs.items ≡ []) (get_or_from_slice_get hands k hand hand at) (empty.empty k hand (slice_get_within hands k hand at)) in
      record {
        count = empty.count;
        shares = λ k hand at. ap (λ (l : List (Job V)). l ++ share workers k 0 rest) (empty_at k hand at) ∙ ap (share workers k 0) whole;
        all = subst (IsPermutation jobs) (sym whole ∙ ap (λ (l : List (Job V)). l ++ rest) (sym (no_jobs hands empty.empty))) (IsPermutation-refl jobs);
      }

  pub all_dealt : (workers : ℕ) (jobs : List (Job V)) (number : ℕ) (rest : List (Job V)) (hands : List (Hand (Job V) (Done V))) → AreDealtBefore workers jobs number rest hands → rest ≡ [] → AreDealt workers jobs hands
  all_dealt workers jobs number rest hands so_far empty = record {
    count = so_far.count;
    shares = λ k hand at.
        sym (append-nil hand.jobs.items) ∙ ap (λ (l : List (Job V)). hand.jobs.items ++ share workers k number l) (sym empty) ∙ so_far.shares k hand at;
    all = all_in_hands jobs rest hands so_far.all empty;
  }

  -- the next job goes to the worker whose turn it is
  pub one_dealt : (workers : ℕ) (jobs : List (Job V)) (number : ℕ) (job : Job V) (rest : List (Job V)) (hands : List (Hand (Job V) (Done V))) (hand next : Hand (Job V) (Done V)) (now : List (Hand (Job V) (Done V)))
      → AreDealtBefore workers jobs number (job ∷ rest) hands → slice_get hands (number % workers) ≡ Some hand → next.jobs.items ≡ hand.jobs.items ++ job ∷ []
      → now ≡ slice_set hands (number % workers) next → AreDealtBefore workers jobs (number + 1) rest now
  one_dealt workers jobs number job rest hands hand next now so_far at more is =
      let place : ℕ = number % workers in
      subst (AreDealtBefore workers jobs (number + 1) rest) (sym is) (record {
        count = length-set hands place next ∙ so_far.count;
        shares = λ k other found. elim (set_at hands place next k other found) [
          | inl here ↦
              ap (λ (h : Hand (Job V) (Done V)). h.jobs.items ++ share workers k (number + 1) rest) (sym here.1) ∙ ap (λ (l : List (Job V)). l ++ share workers k (number + 1) rest) more
              ∙ append_assoc hand.jobs.items (job ∷ []) (share workers k (number + 1) rest)
              ∙ ap (λ worker. hand.jobs.items ++ (job ∷ share workers worker (number + 1) rest)) here.0
              ∙ ap (λ (l : List (Job V)). hand.jobs.items ++ l) (sym (mine workers number job rest))
              ∙ so_far.shares place hand at ∙ ap (λ worker. share workers worker 0 jobs) (sym here.0)
          | inr there ↦ ap (λ (l : List (Job V)). other.jobs.items ++ l) (sym (others workers k number job rest there.0)) ∙ so_far.shares k other there.1
        ];
        all = one_in_hand jobs place job rest hands hand next so_far.all at more;
      })
