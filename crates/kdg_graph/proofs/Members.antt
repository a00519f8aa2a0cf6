-- Members of lists, of their filters and of their images.
use Rattle.std.proofs.Common.{◌≡◌, ◌⊎◌, inl, inr, ◌||◌, Bool, true, false, cond, List, [], ◌∷◌, map, Some, None, refl, sym, ◌∙◌, ap, subst}
use Rattle.std.specs.List.{filter, find, list_any}
use Rattle.std.specs.Prelude.{Contains}
use Rattle.plain_laws.specs.Members.{none, here, there, cases}

-- ---- images

pub filter-map : {X Y : Type 0} (f : X → Y) (q : Y → Bool) (xs : List X) → filter q (map f xs) ≡ map f (filter (λ x. q (f x)) xs)
filter-map f q [] = refl
filter-map f q (x ∷ xs) =
    elim (q (f x)) as (λ b. cond b (f x ∷ filter q (map f xs)) (filter q (map f xs)) ≡ map f (cond b (x ∷ filter (λ y. q (f y)) xs) (filter (λ y. q (f y)) xs))) [
      | true ↦ ap (λ l. f x ∷ l) (filter-map f q xs)
      | false ↦ filter-map f q xs
    ]

pub any-map : {X Y : Type 0} (f : X → Y) (p : Y → Bool) (xs : List X) → list_any p (map f xs) ≡ list_any (λ x. p (f x)) xs
any-map f p [] = refl
any-map f p (x ∷ xs) = ap (λ b. p (f x) || b) (any-map f p xs)

-- ---- tests

pub any_same : {X : Type 0} (p q : X → Bool) (xs : List X) → ((x : X) → Contains xs x → p x ≡ q x) → list_any p xs ≡ list_any q xs
any_same p q [] same = refl
any_same p q (x ∷ xs) same = λ i. same x (here x xs) i || any_same p q xs (λ y has. same y (there x y xs has)) i

-- ---- what a test finds

pub from_find : {X : Type 0} (p : X → Bool) (xs : List X) (x : X) → find p xs ≡ Some x → Contains xs x × (p x ≡ true)
from_find p [] x found = absurd (let wrong : None ≡ Some x = found in cc)
from_find {X} p (y ∷ xs) x found =
    let by_case : (test : Bool) → p y ≡ test → cond test (Some y) (find p xs) ≡ Some x → Contains (y ∷ xs) x × (p x ≡ true) = elim [
      | true ↦ λ is is_x. let same : y ≡ x = cc in (subst (λ (z : X). Contains (y ∷ xs) z) same (here y xs), ap p (sym same) ∙ is)
      | false ↦ λ _ later. let rest : Contains xs x × (p x ≡ true) = from_find p xs x later in (there y x xs rest.0, rest.1)
    ] in
    by_case (p y) refl found

pub none_found : {X : Type 0} (p : X → Bool) (xs : List X) (x : X) → find p xs ≡ None → Contains xs x → p x ≡ false
none_found p [] x none_is has = absurd (none x has)
none_found {X} p (y ∷ xs) x none_is has =
    let by_case : (test : Bool) → p y ≡ test → cond test (Some y) (find p xs) ≡ None → (y ≡ x) ⊎ Contains xs x → p x ≡ false = elim [
      | true ↦ λ _ wrong _. absurd (let w : Some y ≡ None = wrong in cc)
      | false ↦ λ fails rest c. elim c [ inl same ↦ ap p (sym same) ∙ fails | inr later ↦ none_found p xs x rest later ]
    ] in
    by_case (p y) refl none_is (cases y x xs has)

pub find_none : {X : Type 0} (p : X → Bool) (xs : List X) → ((x : X) → Contains xs x → p x ≡ false) → find p xs ≡ None
find_none p [] each = refl
find_none p (x ∷ xs) each = ap (λ test. cond test (Some x) (find p xs)) (each x (here x xs)) ∙ find_none p xs (λ y has. each y (there x y xs has))
