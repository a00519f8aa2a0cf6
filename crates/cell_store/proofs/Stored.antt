-- A cell that is written among those that are stored.
use Rattle.std.proofs.Common.{◌≡◌, ℕ, zero, suc, ◌<◌, List, [], ◌∷◌, length, get_or, set, take, refl, sym, ap, ◌∙◌, arith}
use Rattle.std.proofs.lemmas.List.{length-take-le, get_or_default}
use Rattle.rw_sets.specs.Accesses.{Accesses}
use Rattle.rw_sets.specs.Places.{IsAt}
use Rattle.cell_store.specs.declared.cell.Cell.{Cell}
use Rattle.cell_store.specs.declared.cell.Cell.TheVariants.{Out}
use Rattle.cell_store.specs.declared.few_cells.FewCells.{FewCells}
use Rattle.cell_store.specs.declared.cell_list.CellList.{CellList}
use Rattle.cell_store.specs.declared.cell_list.CellList.TheVariants.{InPlace, InMemory}
use Rattle.cell_store.specs.Cells.{held_at, put_at, IsPart}
use Rattle.cell_store.specs.Storage.{cells_in, with_cell, cells_of, with_cell_at}
use Rattle.cell_store.proofs.Locations.{held_in_place, put_in_place}

take_set : {X : Type 0} (n i : ℕ) (xs : List X) (x : X) → i < n → take n (set xs i x) ≡ set (take n xs) i x
take_set zero i xs x lt = absurd (omega arith)
take_set (suc n) i [] x lt = refl
take_set (suc n) zero (y ∷ xs) x lt = refl
take_set (suc n) (suc i) (y ∷ xs) x lt = ap (λ rest. y ∷ rest) (take_set n i xs x (omega arith))

module _ {V : Type 0} where
  written_in_place : (few : FewCells V) (i : ℕ) (cell : Cell V) → i < few.len → cells_in (with_cell few i cell) ≡ set (cells_in few) i cell
  written_in_place few zero cell lt = take_set few.len 0 (few.first ∷ few.second ∷ few.third ∷ few.fourth ∷ []) cell lt
  written_in_place few (suc zero) cell lt = take_set few.len 1 (few.first ∷ few.second ∷ few.third ∷ few.fourth ∷ []) cell lt
  written_in_place few (suc (suc zero)) cell lt = take_set few.len 2 (few.first ∷ few.second ∷ few.third ∷ few.fourth ∷ []) cell lt
  written_in_place few (suc (suc (suc zero))) cell lt = take_set few.len 3 (few.first ∷ few.second ∷ few.third ∷ few.fourth ∷ []) cell lt
  written_in_place few (suc (suc (suc (suc i)))) cell lt = absurd (omega (arith, few.few))

  pub cells_of-with_cell_at : (list : CellList V) (i : ℕ) (cell : Cell V) → i < length (cells_of list) → cells_of (with_cell_at list i cell) ≡ set (cells_of list) i cell
  cells_of-with_cell_at (InPlace few) i cell lt = written_in_place few i cell (omega (arith, length-take-le few.len (few.first ∷ few.second ∷ few.third ∷ few.fourth ∷ []) (omega (arith, few.few))))
  cells_of-with_cell_at (InMemory cells) i cell lt = refl

  -- the cell that goes with a location of a set, read and written at its place
  module _ (ps : Accesses) (list : CellList V) (loc i : ℕ) (whole : IsPart (record { set = ps; cells = cells_of list })) (at : IsAt ps loc i) where
    within : i < length (cells_of list)
    within = omega (arith, at.in_range, whole.one_each)

    pub held_is_read : (cell : Cell V) → cell ≡ get_or (cells_of list) i cell → held_at ps (cells_of list) loc ≡ cell
    held_is_read cell read = held_in_place ps (cells_of list) loc i whole.ascending whole.one_each at ∙ sym (read ∙ get_or_default (cells_of list) i cell Out within)

    pub held_is_written : (cell : Cell V) → cells_of (with_cell_at list i cell) ≡ put_at ps (cells_of list) loc cell
    held_is_written cell = cells_of-with_cell_at list i cell within ∙ sym (put_in_place ps (cells_of list) loc i cell whole.ascending whole.one_each at)
