-- A list that is cut into tiers.
use Rattle.std.specs.Prelude.{◌≡◌, ℕ, zero, suc, ◌+◌, ◌*◌, ◌≤◌, ◌^◌, List, [], ◌∷◌, ◌++◌, length, refl}
use Rattle.std.specs.List.{AllByRecursion}
use Rattle.std.specs.Coded.{Coded, code_by, coded×, coded_ℕ, coded_list}

-- how many items a full tier has
abbrev pub full_length : ℕ
full_length = 128

-- how many tiers there may be between the first and the last, with the spare ones
abbrev pub most_tiers : ℕ
most_tiers = 2 ^ 54

-- the tiers, those between the first and the last full, and how many spare ones there are
pub record TiersState (T : Type 0) : Type 0 where
  pub front : List T
  pub middle : List (List T)
  pub back : List T
  pub spare : ℕ

-- the state is stored as the tuple of its fields
abbrev pub tiers_code : {T : Type 0} → Coded T → Coded (TiersState T)
tiers_code {T} code =
    code_by
    ((List T × List (List T)) × (List T × ℕ))
    (coded× (coded× (coded_list code) (coded_list (coded_list code))) (coded× (coded_list code) coded_ℕ))
    (λ s. ((s.front, s.middle), (s.back, s.spare)))
    (λ p. record { front = p.0.0; middle = p.0.1; back = p.1.0; spare = p.1.1 })
    (λ _. refl)

module _ {T : Type 0} where
  -- the items of tiers
  abbrev pub items_in : List (List T) → List T
  items_in [] = []
  items_in (tier ∷ tiers) = tier ++ items_in tiers

  -- all items
  abbrev pub all_items : TiersState T → List T
  all_items state = state.front ++ (items_in state.middle ++ state.back)

  -- for how many items there is place, wherever they come in
  abbrev pub room_for : TiersState T → ℕ
  room_for state = full_length * (length state.middle + state.spare + 1)

  -- the items of tiers, with one more before the tier at a place
  abbrev pub items_with : List (List T) → ℕ → T → List T
  items_with [] at item = item ∷ []
  items_with (tier ∷ tiers) zero item = item ∷ (tier ++ items_in tiers)
  items_with (tier ∷ tiers) (suc at) item = tier ++ items_with tiers at item

  abbrev pub IsFull : List T → Type 0
  IsFull tier = length tier ≡ full_length

  abbrev pub IsEmpty : List T → Type 0
  IsEmpty tier = tier ≡ []

  -- the tiers between the first and the last, spare ones, and for how many tiers each list has memory
  pub record AreTiers (middle spare : List (List T)) (middle_room spare_room : ℕ) : Type 0 where
    pub full : AllByRecursion IsFull middle
    pub empty : AllByRecursion IsEmpty spare
    pub middle_fits : length middle + length spare ≤ middle_room
    pub spare_fits : length middle + length spare ≤ spare_room
    pub count : length middle + length spare ≤ most_tiers
