-- What is so of each item of a list, by recursion, and of lists as they change.
use Rattle.std.proofs.Common.{◌≡◌, ◌<◌, ◌≤◌, ◌&&◌, ◌||◌, ℕ, zero, suc, Bool, true, false, cond, List, [], ◌∷◌, ◌++◌, length, map, get_or, Option, Some, None, refl, sym, ap, ◌∙◌, arith, take, drop, set, ◌≢◌, append-nil, subst}
use Rattle.std.specs.List.{AllByRecursion, filter, list_any}
use Rattle.std.specs.List.Sorted.{IsPermutation}
use Rattle.std.specs.Prelude.{IsSome, slice_get, slice_set}
use Rattle.std.proofs.lemmas.Bool.{cond_both, true≢false}
use Rattle.std.proofs.lemmas.List.Elements.{All-from_recursion, filter_agree, recursion_from_All}
use Rattle.std.proofs.lemmas.List.Sorted.{All-permutation}
use Rattle.std.proofs.lemmas.Option.{get_or_from_slice_get, slice_get_within}

-- ---- what is so of each

pub All-weaker : {X : Type 0} (P Q : X → Type 0) → ((x : X) → P x → Q x) → (xs : List X) → AllByRecursion P xs → AllByRecursion Q xs
All-weaker P Q weaker [] all = tt
All-weaker P Q weaker (x ∷ xs) all = (weaker x all.0, All-weaker P Q weaker xs all.1)

pub All-joined : {X : Type 0} (P Q R : X → Type 0) → ((x : X) → P x → Q x → R x) → (xs : List X) → AllByRecursion P xs → AllByRecursion Q xs → AllByRecursion R xs
All-joined P Q R join [] p q = tt
All-joined P Q R join (x ∷ xs) p q = (join x p.0 q.0, All-joined P Q R join xs p.1 q.1)

pub All-append : {X : Type 0} (P : X → Type 0) (xs ys : List X) → AllByRecursion P xs → AllByRecursion P ys → AllByRecursion P (xs ++ ys)
All-append P [] ys all more = more
All-append P (x ∷ xs) ys all more = (all.0, All-append P xs ys all.1 more)

pub All-front : {X : Type 0} (P : X → Type 0) (xs ys : List X) → AllByRecursion P (xs ++ ys) → AllByRecursion P xs
All-front P [] ys all = tt
All-front P (x ∷ xs) ys all = (all.0, All-front P xs ys all.1)

pub All-behind : {X : Type 0} (P : X → Type 0) (xs ys : List X) → AllByRecursion P (xs ++ ys) → AllByRecursion P ys
All-behind P [] ys all = all
All-behind P (x ∷ xs) ys all = All-behind P xs ys all.1

pub All-parts : {X : Type 0} (P : X → Type 0) (xs ys : List X) → AllByRecursion P (xs ++ ys) → AllByRecursion P xs × AllByRecursion P ys
All-parts P xs ys all = (All-front P xs ys all, All-behind P xs ys all)

pub All-middle : {X : Type 0} (P : X → Type 0) (before : List X) (x : X) (after : List X) → AllByRecursion P (before ++ x ∷ after) → P x
All-middle P [] x after all = all.0
All-middle P (y ∷ before) x after all = All-middle P before x after all.1

pub All-push : {X : Type 0} (P : X → Type 0) (xs : List X) (x : X) → AllByRecursion P xs → P x → AllByRecursion P (xs ++ x ∷ [])
All-push P [] x all p = (p, tt)
All-push P (y ∷ xs) x all p = (all.0, All-push P xs x all.1 p)

pub All-pushed : {X : Type 0} (P : X → Type 0) (xs : List X) (x : X) → AllByRecursion P (xs ++ x ∷ []) → AllByRecursion P xs × P x
All-pushed P xs x all = (All-front P xs (x ∷ []) all, All-middle P xs x [] all)

pub All-get_or : {X : Type 0} (P : X → Type 0) (xs : List X) (i : ℕ) (d : X) → i < length xs → AllByRecursion P xs → P (get_or xs i d)
All-get_or P [] i d below all = absurd (omega arith)
All-get_or P (x ∷ xs) zero d below all = all.0
All-get_or P (x ∷ xs) (suc i) d below all = All-get_or P xs i d (omega arith) all.1

pub All-map : {X Y : Type 0} (P : Y → Type 0) (f : X → Y) (xs : List X) → AllByRecursion (λ x. P (f x)) xs → AllByRecursion P (map f xs)
All-map P f [] all = tt
All-map P f (x ∷ xs) all = (all.0, All-map P f xs all.1)

pub All-filter : {X : Type 0} (P : X → Type 0) (p : X → Bool) (xs : List X) → AllByRecursion P xs → AllByRecursion P (filter p xs)
All-filter P p [] all = tt
All-filter P p (x ∷ xs) all = elim (p x) as (λ test. AllByRecursion P (cond test (x ∷ filter p xs) (filter p xs))) [
  | true ↦ (all.0, All-filter P p xs all.1)
  | false ↦ All-filter P p xs all.1
]

pub All-shuffled : {X : Type 0} (P : X → Type 0) (xs ys : List X) → IsPermutation xs ys → AllByRecursion P xs → AllByRecursion P ys
All-shuffled P xs ys same all = recursion_from_All P ys (All-permutation P xs ys same (All-from_recursion P xs all))

-- what is so of each pair is so either way
pub All-swapped : {X Y : Type 0} (R : X → Y → Type 0) (xs : List X) (ys : List Y) → AllByRecursion (λ y. AllByRecursion (λ x. R x y) xs) ys → AllByRecursion (λ x. AllByRecursion (R x) ys) xs
All-swapped R xs [] all = none xs
  where
    none : (xs : List _) → AllByRecursion (λ x. AllByRecursion (R x) []) xs
    none [] = tt
    none (x ∷ xs) = (tt, none xs)
All-swapped R xs (y ∷ ys) all =
    All-joined (λ x. R x y) (λ x. AllByRecursion (R x) ys) (λ x. AllByRecursion (R x) (y ∷ ys)) (λ x first rest. (first, rest)) xs all.0 (All-swapped R xs ys all.1)

-- ---- filters and tests

pub filter-all : {X : Type 0} (p : X → Bool) (xs : List X) → AllByRecursion (λ x. p x ≡ true) xs → filter p xs ≡ xs
filter-all p [] all = refl
filter-all p (x ∷ xs) all = ap (λ test. cond test (x ∷ filter p xs) (filter p xs)) all.0 ∙ ap (λ rest. x ∷ rest) (filter-all p xs all.1)

pub filter-none : {X : Type 0} (p : X → Bool) (xs : List X) → AllByRecursion (λ x. p x ≡ false) xs → filter p xs ≡ []
filter-none p [] all = refl
filter-none p (x ∷ xs) all = ap (λ test. cond test (x ∷ filter p xs) (filter p xs)) all.0 ∙ filter-none p xs all.1

pub length-filter_le : {X : Type 0} (p : X → Bool) (xs : List X) → length (filter p xs) ≤ length xs
length-filter_le p [] = omega arith
length-filter_le p (x ∷ xs) = cond_both (p x) (x ∷ filter p xs) (filter p xs) (λ ys. length ys ≤ length (x ∷ xs)) (λ kept. omega (arith, length-filter_le p xs)) (λ dropped. omega (arith, length-filter_le p xs))

pub none_from_all : {X : Type 0} (p : X → Bool) (xs : List X) → AllByRecursion (λ x. p x ≡ false) xs → list_any p xs ≡ false
none_from_all p [] all = refl
none_from_all p (x ∷ xs) all = ap (λ test. test || list_any p xs) all.0 ∙ none_from_all p xs all.1

-- ---- lists that end

pub empty_from_length : {X : Type 0} (xs : List X) → length xs ≡ 0 → xs ≡ []
empty_from_length [] none = refl
empty_from_length (x ∷ xs) none = absurd (omega arith)

-- where nothing was taken from it, nothing is left
pub nothing_left : {X : Type 0} (taken : Option X) (xs : List X) → (0 < length xs → IsSome taken) → ((x : X) → taken ≡ Some x → ⊥) → xs ≡ []
nothing_left taken [] some never = refl
nothing_left None (x ∷ xs) some never = absurd (true≢false (sym (some (omega arith))))
nothing_left (Some y) (x ∷ xs) some never = absurd (never y refl)

-- ---- items at places

pub get-set_same : {X : Type 0} (xs : List X) (place : ℕ) (x : X) → place < length xs → slice_get (slice_set xs place x) place ≡ Some x
get-set_same [] place x below = absurd (omega arith)
get-set_same (y ∷ xs) zero x below = refl
get-set_same (y ∷ xs) (suc place) x below = get-set_same xs place x (omega arith)

pub get-set_other : {X : Type 0} (xs : List X) (place other : ℕ) (x : X) → other ≢ place → slice_get (slice_set xs place x) other ≡ slice_get xs other
get-set_other [] place other x differs = refl
get-set_other (y ∷ xs) zero zero x differs = absurd (differs refl)
get-set_other (y ∷ xs) zero (suc other) x differs = refl
get-set_other (y ∷ xs) (suc place) zero x differs = refl
get-set_other (y ∷ xs) (suc place) (suc other) x differs = get-set_other xs place other x (λ same. differs (ap suc same))

-- the list from a place on begins with what is there
pub drop-found : {X : Type 0} (xs : List X) (place : ℕ) (x : X) → slice_get xs place ≡ Some x → drop place xs ≡ x ∷ drop (suc place) xs
drop-found [] place x at = absurd cc
drop-found (y ∷ xs) zero x at = let same : y ≡ x = cc in ap (λ z. z ∷ xs) same
drop-found (y ∷ xs) (suc place) x at = drop-found xs place x at

pub All-take : {X : Type 0} (P : X → Type 0) (n : ℕ) (xs : List X) → AllByRecursion P xs → AllByRecursion P (take n xs)
All-take P zero [] all = tt
All-take P (suc n) [] all = tt
All-take P zero (x ∷ xs) all = tt
All-take P (suc n) (x ∷ xs) all = (all.0, All-take P n xs all.1)

pub All-drop : {X : Type 0} (P : X → Type 0) (n : ℕ) (xs : List X) → AllByRecursion P xs → AllByRecursion P (drop n xs)
All-drop P zero [] all = tt
All-drop P (suc n) [] all = tt
All-drop P zero (x ∷ xs) all = all
All-drop P (suc n) (x ∷ xs) all = All-drop P n xs all.1

pub All-set : {X : Type 0} (P : X → Type 0) (xs : List X) (n : ℕ) (y : X) → P y → AllByRecursion P xs → AllByRecursion P (set xs n y)
All-set P [] n y one all = all
All-set P (x ∷ xs) zero y one all = (one, all.1)
All-set P (x ∷ xs) (suc n) y one all = (all.0, All-set P xs n y one all.1)

pub filter_both : {X : Type 0} (p q : X → Bool) (xs : List X) → filter p (filter q xs) ≡ filter (λ x. q x && p x) xs
filter_both p q [] = refl
filter_both p q (x ∷ xs) =
    elim (q x) as (λ b. filter p (cond b (x ∷ filter q xs) (filter q xs)) ≡ cond (b && p x) (x ∷ filter (λ y. q y && p y) xs) (filter (λ y. q y && p y) xs)) [
      | true ↦ ap (λ l. cond (p x) (x ∷ l) l) (filter_both p q xs)
      | false ↦ filter_both p q xs
    ]

pub filter_again : {X : Type 0} (p : X → Bool) (xs : List X) → filter p (filter p xs) ≡ filter p xs
filter_again p xs = filter_both p p xs ∙ filter_agree (λ x. p x && p x) p (λ x. twice (p x)) xs
  where
    twice : (b : Bool) → (b && b) ≡ b
    twice true = refl
    twice false = refl

-- where none is left, all were taken
pub all_taken : {X : Type 0} (taken left whole : List X) → left ≡ [] → taken ++ left ≡ whole → taken ≡ whole
all_taken taken left whole none parts = sym (append-nil taken) ∙ ap (λ xs. taken ++ xs) (sym none) ∙ parts

pub All-found : {X : Type 0} (P : X → Type 0) (xs : List X) (place : ℕ) (x : X) → AllByRecursion P xs → slice_get xs place ≡ Some x → P x
All-found P xs place x all at = subst P (get_or_from_slice_get xs place x x at) (All-get_or P xs place x (slice_get_within xs place x at) all)

pub some_in : {X : Type 0} (xs : List X) → xs ≢ [] → 0 < length xs
some_in [] some = absurd (some refl)
some_in (x ∷ xs) some = omega arith
