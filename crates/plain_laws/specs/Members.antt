-- Members of lists, of their filters and of their images.
use Rattle.std.proofs.Common.{◌≡◌, ◌⊎◌, inl, inr, zero, suc, ◌||◌, Bool, true, false, cond, List, [], ◌∷◌, map, refl, sym, ◌∙◌, ap, subst, arith, ℕ, slice_get, Some}
use Rattle.std.specs.Prelude.{Contains}
use Rattle.std.specs.List.{AllByRecursion, filter, list_any}
use Rattle.std.proofs.lemmas.Bool.{false≢true, or_cases, true≢false}
use Rattle.std.proofs.lemmas.Option.{slice_get_within, get_or_from_slice_get}

pub none : {X : Type 0} (x : X) → Contains [] x → ⊥
none x (k, inside, is) = omega (arith, inside)

pub here : {X : Type 0} (x : X) (xs : List X) → Contains (x ∷ xs) x
here x xs = (0, omega arith, refl)

pub there : {X : Type 0} (y x : X) (xs : List X) → Contains xs x → Contains (y ∷ xs) x
there y x xs (k, inside, is) = (suc k, omega (arith, inside), is)

pub cases : {X : Type 0} (y x : X) (xs : List X) → Contains (y ∷ xs) x → (y ≡ x) ⊎ Contains xs x
cases y x xs (zero, inside, is) = inl is
cases y x xs (suc k, inside, is) = inr (k, omega (arith, inside), is)

-- ---- what is so of each

pub all_at : {X : Type 0} (P : X → Type 0) (xs : List X) (x : X) → AllByRecursion P xs → Contains xs x → P x
all_at P [] x all has = absurd (none x has)
all_at P (y ∷ xs) x all has = elim (cases y x xs has) [ inl same ↦ subst P same all.0 | inr later ↦ all_at P xs x all.1 later ]

pub all_from : {X : Type 0} (P : X → Type 0) (xs : List X) → ((x : X) → Contains xs x → P x) → AllByRecursion P xs
all_from P [] each = tt
all_from P (x ∷ xs) each = (each x (here x xs), all_from P xs (λ y has. each y (there x y xs has)))

-- ---- filters

pub in_filter : {X : Type 0} (p : X → Bool) (xs : List X) (x : X) → Contains xs x → p x ≡ true → Contains (filter p xs) x
in_filter p [] x has is = absurd (none x has)
in_filter {X} p (y ∷ xs) x has is =
    let by_case : (test : Bool) → p y ≡ test → (y ≡ x) ⊎ Contains xs x → Contains (cond test (y ∷ filter p xs) (filter p xs)) x = elim [
      | true ↦ λ _ c. elim c [ inl same ↦ subst (λ (z : X). Contains (y ∷ filter p xs) z) same (here y (filter p xs)) | inr later ↦ there y x (filter p xs) (in_filter p xs x later is) ]
      | false ↦ λ fails c. elim c [ inl same ↦ absurd (true≢false (sym is ∙ ap p (sym same) ∙ fails)) | inr later ↦ in_filter p xs x later is ]
    ] in
    by_case (p y) refl (cases y x xs has)

pub from_filter : {X : Type 0} (p : X → Bool) (xs : List X) (x : X) → Contains (filter p xs) x → Contains xs x × (p x ≡ true)
from_filter p [] x has = absurd (none x has)
from_filter {X} p (y ∷ xs) x has =
    let by_case : (test : Bool) → p y ≡ test → Contains (cond test (y ∷ filter p xs) (filter p xs)) x → Contains (y ∷ xs) x × (p x ≡ true) = elim [
      | true ↦ λ is h. elim (cases y x (filter p xs) h) [
        | inl same ↦ (subst (λ (z : X). Contains (y ∷ xs) z) same (here y xs), ap p (sym same) ∙ is)
        | inr later ↦ let rest : Contains xs x × (p x ≡ true) = from_filter p xs x later in (there y x xs rest.0, rest.1)
      ]
      | false ↦ λ _ h. let rest : Contains xs x × (p x ≡ true) = from_filter p xs x h in (there y x xs rest.0, rest.1)
    ] in
    by_case (p y) refl has

-- a filter that all pass
pub filter_of_all : {X : Type 0} (p : X → Bool) (xs : List X) → ((x : X) → Contains xs x → p x ≡ true) → filter p xs ≡ xs
filter_of_all p [] each = refl
filter_of_all p (x ∷ xs) each = ap (λ b. cond b (x ∷ filter p xs) (filter p xs)) (each x (here x xs)) ∙ ap (λ l. x ∷ l) (filter_of_all p xs (λ y has. each y (there x y xs has)))

-- ---- images

pub in_map : {X Y : Type 0} (f : X → Y) (xs : List X) (x : X) → Contains xs x → Contains (map f xs) (f x)
in_map f [] x has = absurd (none x has)
in_map {X} {Y} f (y ∷ xs) x has =
    elim (cases y x xs has) [ inl same ↦ subst (λ (z : Y). Contains (f y ∷ map f xs) z) (ap f same) (here (f y) (map f xs)) | inr later ↦ there (f y) (f x) (map f xs) (in_map f xs x later) ]

pub from_map : {X Y : Type 0} (f : X → Y) (xs : List X) (y : Y) → Contains (map f xs) y → (x : X) × Contains xs x × (f x ≡ y)
from_map f [] y has = absurd (none y has)
from_map {X} {Y} f (x ∷ xs) y has = elim (cases (f x) y (map f xs) has) [
  | inl same ↦ (x, here x xs, same)
  | inr later ↦ let rest : (z : X) × Contains xs z × (f z ≡ y) = from_map f xs y later in (rest.0, there x rest.0 xs rest.1, rest.2)
]

-- ---- tests

pub none_passes : {X : Type 0} (p : X → Bool) (xs : List X) (x : X) → list_any p xs ≡ false → Contains xs x → p x ≡ false
none_passes p [] x is has = absurd (none x has)
none_passes {X} p (y ∷ xs) x is has =
    let by_case : (test : Bool) → p y ≡ test → (test || list_any p xs) ≡ false → (y ≡ x) ⊎ Contains xs x → p x ≡ false = elim [
      | true ↦ λ _ wrong _. absurd (true≢false wrong)
      | false ↦ λ fails rest c. elim c [ inl same ↦ ap p (sym same) ∙ fails | inr later ↦ none_passes p xs x rest later ]
    ] in
    by_case (p y) refl is (cases y x xs has)

pub none_any : {X : Type 0} (p : X → Bool) (xs : List X) → ((x : X) → Contains xs x → p x ≡ false) → list_any p xs ≡ false
none_any p [] each = refl
none_any p (x ∷ xs) each = ap (λ test. test || list_any p xs) (each x (here x xs)) ∙ none_any p xs (λ y has. each y (there x y xs has))

pub some_passes : {X : Type 0} (p : X → Bool) (xs : List X) → list_any p xs ≡ true → (x : X) × Contains xs x × (p x ≡ true)
some_passes p [] is = absurd (false≢true is)
some_passes {X} p (y ∷ xs) is = elim (or_cases (p y) (list_any p xs) is) [
  | inl first ↦ (y, here y xs, first)
  | inr later ↦ let rest : (x : X) × Contains xs x × (p x ≡ true) = some_passes p xs later in (rest.0, there y rest.0 xs rest.1, rest.2)
]

pub found_is_there : {X : Type 0} (xs : List X) (i : ℕ) (x : X) → slice_get xs i ≡ Some x → Contains xs x
found_is_there xs i x found = (i, slice_get_within xs i x found, get_or_from_slice_get xs i x x found)
