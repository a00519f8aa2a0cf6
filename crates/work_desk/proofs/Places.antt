-- Where a seat is among the views of a desk, and how the desk then stands.
use Rattle.std.proofs.Common.{◌≡◌, ℕ, zero, suc, List, [], ◌∷◌, Option, Some, None, refl, sym, ap, subst}
use mathlib.Core.Option.{some, some-injective, some-ne-none}
use lib.ListN.{get_elem?}
use Rattle.work_desk.specs.declared.view.View.{View}
use Rattle.work_desk.specs.declared.view.Part.{Part}
use Rattle.work_desk.specs.declared.view.Part.TheVariants.{Shut, Open, Giver, Worker}
use Rattle.work_desk.specs.Desk.{Stand, unopened, opened, idle, laid, taken, finished, seen, state_of}

module _ {T : Type 0} where
  -- what is in the first slot of a list of slots
  abbrev pub first_held : List (ℕ × Option T) → Option T
  first_held [] = None
  first_held (x ∷ xs) = x.1

  -- the worker's seat is the second one
  abbrev pub place_of : Part T → ℕ
  place_of Shut = 0
  place_of Open = 0
  place_of (Giver given) = 0
  place_of (Worker has) = 1

  -- the giver's part or the worker's, with these in hand
  abbrev pub in_hand : Option T → Option T → Part T → Part T
  in_hand given has Shut = Giver given
  in_hand given has Open = Giver given
  in_hand given has (Giver other) = Giver given
  in_hand given has (Worker other) = Worker has

  -- the part at the same place, where the desk stands so
  abbrev pub part_of : Stand T → Part T → Part T
  part_of unopened part = Shut
  part_of opened part = Open
  part_of (idle word) part = in_hand None None part
  part_of (laid x) part = in_hand (Some x) None part
  part_of (taken x) part = in_hand (Some x) (Some x) part
  part_of (finished x y) part = in_hand (Some x) None part

module _ {T K : Type 0} (key : K) where
  abbrev pub IsThere : Stand T → ℕ → K → Part T → Type 0
  IsThere stand id own part = (id ≡ place_of part) × (key ≡ own) × (part ≡ part_of stand part)

  two : (given has : Option T) (id : ℕ) (own : K) (part : Part T) → get_elem? (seen key (Giver given) ∷ seen key (Worker has) ∷ []) id ≡ some (seen own part)
      → (id ≡ place_of part) × (key ≡ own) × (part ≡ in_hand given has part)
  two given has zero own part at =
      let same : seen key (Giver given) ≡ seen own part = some-injective (seen key (Giver given)) (seen own part) at in
      subst (λ (q : Part T). (0 ≡ place_of q) × (key ≡ own) × (q ≡ in_hand given has q)) (ap (λ (v : View T K). v.part) same) (refl, ap (λ (v : View T K). v.key) same, refl)
  two given has (suc zero) own part at =
      let same : seen key (Worker has) ≡ seen own part = some-injective (seen key (Worker has)) (seen own part) at in
      subst (λ (q : Part T). (1 ≡ place_of q) × (key ≡ own) × (q ≡ in_hand given has q)) (ap (λ (v : View T K). v.part) same) (refl, ap (λ (v : View T K). v.key) same, refl)
  two given has (suc (suc id)) own part at = absurd (some-ne-none (seen own part) (sym at))

  pub is_there : (stand : Stand T) (id : ℕ) (own : K) (part : Part T) → get_elem? (state_of key stand).views id ≡ some (seen own part) → IsThere stand id own part
  is_there unopened zero own part at =
      let same : seen key Shut ≡ seen own part = some-injective (seen key Shut) (seen own part) at in
      subst (λ (q : Part T). (0 ≡ place_of q) × (key ≡ own) × (q ≡ Shut)) (ap (λ (v : View T K). v.part) same) (refl, ap (λ (v : View T K). v.key) same, refl)
  is_there unopened (suc id) own part at = absurd (some-ne-none (seen own part) (sym at))
  is_there opened zero own part at =
      let same : seen key Open ≡ seen own part = some-injective (seen key Open) (seen own part) at in
      subst (λ (q : Part T). (0 ≡ place_of q) × (key ≡ own) × (q ≡ Open)) (ap (λ (v : View T K). v.part) same) (refl, ap (λ (v : View T K). v.key) same, refl)
  is_there opened (suc id) own part at = absurd (some-ne-none (seen own part) (sym at))
  is_there (idle word) id own part at = two None None id own part at
  is_there (laid x) id own part at = two (Some x) None id own part at
  is_there (taken x) id own part at = two (Some x) (Some x) id own part at
  is_there (finished x y) id own part at = two (Some x) None id own part at
