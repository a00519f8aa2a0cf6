-- The numbers of a gate's fan-ins.
use Rattle.std.proofs.Common.{arith, refl, ap, ◌∙◌, ◌≡◌, ◌<◌, ◌+◌, ◌&&◌, ◌||◌, true, false, [], ◌∷◌, ◌++◌, ℕ, suc, List, Bool, Option, Some, None, length, map, drop, cond, Bor, MatchOption, append_assoc}
use Rattle.std.proofs.lemmas.List.{drop-drop}
use Rattle.std.specs.List.{list_all}
use Rattle.std.specs.Option.{option_map}
use Rattle.std.specs.Str.{bytes_eq}
use Rattle.bench_reader.specs.Decks.{is_among, place_of}
use Rattle.bench_reader.specs.LineForms.{names_among}
use Rattle.bench_reader.specs.Outlines.{some_if, number_of, numbers_of}

-- what a call for the next token leaves
abbrev Leaves : List (List ℕ) → Option (Bor (List ℕ)) → List (List ℕ) → Type 0
Leaves old token new = MatchOption token ((old ≡ []) × (new ≡ [])) (λ t. old ≡ t.now ∷ new)

drop-one : (old new : List (List ℕ)) (token : Option (Bor (List ℕ))) → Leaves old token new → new ≡ drop 1 old
drop-one old new None left = rw (left.0, left.1) refl
drop-one old new (Some t) left = rw left refl

pub drop-next : (whole old new : List (List ℕ)) (n : ℕ) (token : Option (Bor (List ℕ))) → old ≡ drop n whole → Leaves old token new → new ≡ drop (n + 1) whole
drop-next whole old new n token so_far left = drop-one old new token left ∙ ap (drop 1) so_far ∙ drop-drop 1 n whole

pub place_of-within : (all : List (List ℕ)) (name : List ℕ) → is_among all name ≡ true → place_of all name < length all
place_of-within [] name among = cc
place_of-within (first ∷ all) name among = by_test (bytes_eq name first) (is_among all name) (place_of-within all name) among
  where
    by_test : (b rest : Bool) → (rest ≡ true → place_of all name < length all) → (b || rest) ≡ true → cond b 0 (suc (place_of all name)) < suc (length all)
    by_test true rest later h = omega arith
    by_test false rest later h = let below = later h in omega arith

-- a name that has a number
pub number_of-found : (all : List (List ℕ)) (name : List ℕ) (n : ℕ) → number_of all name ≡ Some n → (is_among all name ≡ true) × (place_of all name ≡ n) × (n < length all)
number_of-found all name n number = by_test (is_among all name) (place_of-within all name) number
  where
    by_test : (b : Bool) → (b ≡ true → place_of all name < length all) → some_if b (place_of all name) ≡ Some n → (b ≡ true) × (place_of all name ≡ n) × (n < length all)
    by_test true within h =
        let place : place_of all name ≡ n = cc in
        let below = within refl in
        (refl, place, omega arith)
    by_test false within h = cc

names_among-next : (name : List ℕ) (left new : List (List ℕ)) (mark : Option (Bor (List ℕ))) → Leaves left mark new → names_among (name ∷ left) ≡ name ∷ names_among new
names_among-next name left new None gone = rw (gone.0, gone.1) refl
names_among-next name left new (Some t) gone = rw gone refl

-- the numbers of names go on with the number of the first of those to come, behind which a mark may stand
pub numbers_of-next : (all : List (List ℕ)) (numbers : List ℕ) (old left new : List (List ℕ)) (name : List ℕ) (n : ℕ) (mark : Option (Bor (List ℕ)))
    → old ≡ name ∷ left → Leaves left mark new → number_of all name ≡ Some n
    → option_map (λ more. (numbers ++ n ∷ []) ++ more) (numbers_of all (names_among new)) ≡ option_map (λ more. numbers ++ more) (numbers_of all (names_among old))
numbers_of-next all numbers old left new name n mark cut gone number =
    let found = number_of-found all name n number in
    let names : names_among old ≡ name ∷ names_among new = ap names_among cut ∙ names_among-next name left new mark gone in
    rw (names, found.0, found.1) (by_test (list_all (is_among all) (names_among new)) (map (place_of all) (names_among new)))
  where
    by_test : (b : Bool) (rest : List ℕ) → option_map (λ more. (numbers ++ n ∷ []) ++ more) (some_if b rest) ≡ option_map (λ more. numbers ++ more) (some_if (true && b) (n ∷ rest))
    by_test true rest = ap Some (append_assoc numbers (n ∷ []) rest)
    by_test false rest = refl
