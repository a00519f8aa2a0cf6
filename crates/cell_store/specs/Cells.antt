-- Cells by location, the part of them that a set names, and what giving and taking a part leaves.
use Rattle.std.specs.Prelude.{◌≡◌, ℕ, suc, ◌<◌, List, [], ◌∷◌, length, map, IsSome, IsTrue, IsFalse, ◌==◌, if◌then◌else◌, slice_index_or}
use Rattle.rw_sets.specs.declared.access.Access.{Access}
use Rattle.rw_sets.specs.Accesses.{Accesses, IsAscending, access_at, is_write, writes}
use Rattle.cell_store.specs.declared.cell.Cell.{Cell}
use Rattle.cell_store.specs.declared.cell.Cell.TheVariants.{Home, Out}
use Rattle.cell_store.specs.Home.{IsHome}
use Rattle.cell_store.specs.Part.{Part}

module _ {V : Type 0} where
  -- the cell at a location, where a location beyond the end counts as out
  abbrev pub cell_at : List (Cell V) → ℕ → Cell V
  cell_at cells loc = slice_index_or cells loc Out

  -- every location of the set is home
  abbrev pub AreHome : List (Cell V) → Accesses → Type 0
  AreHome cells set = (loc : ℕ) → IsSome (access_at set loc) → IsHome (cell_at cells loc)

  -- every location that the set writes is home
  abbrev pub AreWrittenHome : List (Cell V) → Accesses → Type 0
  AreWrittenHome cells set = (loc : ℕ) → IsTrue (writes set loc) → IsHome (cell_at cells loc)

  -- every location that the set writes is one of the cells, and is out
  abbrev pub AreWrittenOut : List (Cell V) → Accesses → Type 0
  AreWrittenOut cells set = (loc : ℕ) → IsTrue (writes set loc) → (loc < length cells) × (cell_at cells loc ≡ Out)

  -- the cell that goes with a location, among cells in the order of a set
  abbrev pub held_at : Accesses → List (Cell V) → ℕ → Cell V
  held_at [] cells loc = Out
  held_at (p ∷ ps) [] loc = Out
  held_at (p ∷ ps) (cell ∷ cells) loc = if p.0 == loc then cell else held_at ps cells loc

  -- the cell of a part at a location
  abbrev pub cell_in : Part V → ℕ → Cell V
  cell_in part loc = held_at part.set part.cells loc

  -- the part of the cells that a set names
  abbrev pub part_of : List (Cell V) → Accesses → Part V
  part_of cells set = record { set = set; cells = map (λ p. cell_at cells p.0) set }

  -- the cell that a pair of a set reads, and an empty one where it writes
  abbrev pub read_copy : List (Cell V) → ℕ × Access → Cell V
  read_copy cells p = if is_write p.1 then Out else cell_at cells p.0

  -- a change of each cell by its location, where the first cell has this location
  abbrev pub each_from : (ℕ → Cell V → Cell V) → ℕ → List (Cell V) → List (Cell V)
  each_from f loc [] = []
  each_from f loc (cell ∷ cells) = f loc cell ∷ each_from f (suc loc) cells

  -- the cells without those that a set writes
  abbrev pub cells_taken : List (Cell V) → Accesses → List (Cell V)
  cells_taken cells set = each_from (λ loc cell. if writes set loc then Out else cell) 0 cells

  -- the cells with those that a part writes
  abbrev pub cells_given : List (Cell V) → Part V → List (Cell V)
  cells_given cells part = each_from (λ loc cell. if writes part.set loc then cell_in part loc else cell) 0 cells

  -- the cells in the order of a set, with this one at each location that it writes
  abbrev pub with_written : (ℕ → Cell V) → Accesses → List (Cell V) → List (Cell V)
  with_written at [] cells = []
  with_written at (p ∷ ps) [] = []
  with_written at (p ∷ ps) (cell ∷ cells) = (if is_write p.1 then at p.0 else cell) ∷ with_written at ps cells

  -- what a part keeps where the cells that it writes have gone home
  abbrev pub shell_of : Part V → Part V
  shell_of part = record part { cells = with_written (λ _. Out) part.set part.cells }

  -- the part with the cells that it writes as they are home
  abbrev pub bundle_of : List (Cell V) → Part V → Part V
  bundle_of cells part = record part { cells = with_written (cell_at cells) part.set part.cells }

  -- the cells in the order of a set, with another at one location
  abbrev pub put_at : Accesses → List (Cell V) → ℕ → Cell V → List (Cell V)
  put_at [] cells loc new = cells
  put_at (p ∷ ps) [] loc new = []
  put_at (p ∷ ps) (cell ∷ cells) loc new = if p.0 == loc then new ∷ cells else cell ∷ put_at ps cells loc new

  -- the part with another value at one location
  abbrev pub with_value : Part V → ℕ → V → Part V
  with_value part loc value = record part { cells = put_at part.set part.cells loc (Home value) }

  -- an ascending set, and one cell for each of its locations
  pub record IsPart (part : Part V) : Type 0 where
    pub ascending : IsAscending part.set
    pub one_each : length part.cells ≡ length part.set

  -- a part whose cells all have their value
  pub record IsBundle (part : Part V) : Type 0 where
    pub is_part : IsPart part
    pub full : (loc : ℕ) → IsSome (access_at part.set loc) → IsHome (cell_in part loc)

  -- a part that has the values of the cells that it only reads
  pub record IsShell (part : Part V) : Type 0 where
    pub is_part : IsPart part
    pub kept : (loc : ℕ) → IsSome (access_at part.set loc) → IsFalse (writes part.set loc) → IsHome (cell_in part loc)
    pub emptied : (loc : ℕ) → IsTrue (writes part.set loc) → cell_in part loc ≡ Out
