-- What holds of cells and their parts, by location, when they are given and taken, and of cells that are home.
use Rattle.std.specs.Prelude.{◌≡◌, ◌≢◌, ◌↔◌, ℕ, ◌<◌, ◌≤◌, List, length, IsSome, IsTrue, if◌then◌else◌, slice_get, slice_set, slice_index_or, unwrap_or, option_map}
use Rattle.rw_sets.specs.Accesses.{Accesses, IsAscending, access_at, writes, AreIndependent, IsInRange, IsWithin}
use Rattle.cell_store.specs.declared.cell.Cell.{Cell}
use Rattle.cell_store.specs.declared.cell.Cell.TheVariants.{Home, Out}
use Rattle.cell_store.specs.Part.{Part}
use Rattle.cell_store.specs.Cells.{cell_at, cell_in, part_of, cells_taken, cells_given, shell_of, bundle_of, with_value, AreHome, AreWrittenHome, AreWrittenOut, IsPart, IsBundle, IsShell}
use Rattle.cell_store.specs.Values.{homes, values_of, AreAllHome, AgreesWith, ChangesOnlyWritten}

-- cells, and parts, are known by what they have at their locations
abbrev pub LookupsDetermineCells : Type 0 → Type 0
LookupsDetermineCells V = (cells others : List (Cell V)) → length cells ≡ length others → ((loc : ℕ) → loc < length cells → cell_at cells loc ≡ cell_at others loc) → cells ≡ others

abbrev pub LookupsDetermineParts : Type 0 → Type 0
LookupsDetermineParts V = (part other : Part V) → IsPart part → IsPart other → part.set ≡ other.set → ((loc : ℕ) → IsSome (access_at part.set loc) → cell_in part loc ≡ cell_in other loc) → part ≡ other

-- taking a set empties the cells that it writes, and no other
pub record TakenByLocation (V : Type 0) : Type 0 where
  pub as_many : (cells : List (Cell V)) (set : Accesses) → length (cells_taken cells set) ≡ length cells
  pub each : (cells : List (Cell V)) (set : Accesses) (loc : ℕ) → cell_at (cells_taken cells set) loc ≡ (if writes set loc then Out else cell_at cells loc)
  pub leaves_out : (cells : List (Cell V)) (set : Accesses) → AreHome cells set → AreWrittenOut (cells_taken cells set) set

-- giving a part puts its cells at the locations that it writes, and changes no other
pub record GivenByLocation (V : Type 0) : Type 0 where
  pub as_many : (cells : List (Cell V)) (part : Part V) → length (cells_given cells part) ≡ length cells
  pub each : (cells : List (Cell V)) (part : Part V) (loc : ℕ) → loc < length cells → cell_at (cells_given cells part) loc ≡ (if writes part.set loc then cell_in part loc else cell_at cells loc)
  pub beyond : (cells : List (Cell V)) (part : Part V) (loc : ℕ) → length cells ≤ loc → cell_at (cells_given cells part) loc ≡ Out
  pub leaves_home : (cells : List (Cell V)) (bundle : Part V) → IsBundle bundle → AreWrittenOut cells bundle.set → AreWrittenHome (cells_given cells bundle) bundle.set

-- the part that a set names has the cells of its locations, and has all their values where they are home
pub record PartsByLocation (V : Type 0) : Type 0 where
  pub each : (cells : List (Cell V)) (set : Accesses) (loc : ℕ) → IsSome (access_at set loc) → cell_in (part_of cells set) loc ≡ cell_at cells loc
  pub is_part : (cells : List (Cell V)) (set : Accesses) → IsAscending set → IsPart (part_of cells set)
  pub is_bundle : (cells : List (Cell V)) (set : Accesses) → IsAscending set → AreHome cells set → IsBundle (part_of cells set)
  pub in_range : (cells : List (Cell V)) (set : Accesses) → AreHome cells set → IsInRange set (length cells)

-- a write to a bundle changes the value at one location
pub record WritesByLocation (V : Type 0) : Type 0 where
  pub here : (part : Part V) (loc : ℕ) (value : V) → IsBundle part → IsSome (access_at part.set loc) → cell_in (with_value part loc value) loc ≡ Home value
  pub elsewhere : (part : Part V) (loc other : ℕ) (value : V) → loc ≢ other → cell_in (with_value part loc value) other ≡ cell_in part other
  pub is_bundle : (part : Part V) (loc : ℕ) (value : V) → IsBundle part → IsSome (access_at part.set loc) → IsBundle (with_value part loc value)

-- a shell lacks what its set writes, and has it again as it is home
pub record ShellsByLocation (V : Type 0) : Type 0 where
  pub each : (part : Part V) (loc : ℕ) → IsPart part → cell_in (shell_of part) loc ≡ (if writes part.set loc then Out else cell_in part loc)
  pub each_again : (cells : List (Cell V)) (part : Part V) (loc : ℕ) → IsPart part → cell_in (bundle_of cells part) loc ≡ (if writes part.set loc then cell_at cells loc else cell_in part loc)
  pub is_shell : (bundle : Part V) → IsBundle bundle → IsShell (shell_of bundle)
  pub is_bundle : (cells : List (Cell V)) (shell : Part V) → IsShell shell → AreWrittenHome cells shell.set → IsBundle (bundle_of cells shell)

-- a part that is given back as it was taken leaves the cells as they were
abbrev pub GivesBackWhatWasTaken : Type 0 → Type 0
GivesBackWhatWasTaken V = (cells : List (Cell V)) (set : Accesses) → AreHome cells set → cells_given (cells_taken cells set) (part_of cells set) ≡ cells

-- what is taken again after it was given leaves the cells as they were
abbrev pub TakesBackWhatWasGiven : Type 0 → Type 0
TakesBackWhatWasGiven V = (cells : List (Cell V)) (part : Part V) → AreWrittenOut cells part.set → cells_taken (cells_given cells part) part.set ≡ cells

-- what was taken doesn't count where as much is given, and what was given doesn't where as much is taken
abbrev pub GivingForgetsTaking : Type 0 → Type 0
GivingForgetsTaking V = (cells : List (Cell V)) (set : Accesses) (part : Part V) → IsWithin set part.set → cells_given (cells_taken cells set) part ≡ cells_given cells part

abbrev pub TakingForgetsGiving : Type 0 → Type 0
TakingForgetsGiving V = (cells : List (Cell V)) (part : Part V) (set : Accesses) → IsWithin part.set set → cells_taken (cells_given cells part) set ≡ cells_taken cells set

-- and what is regained right after a bundle was given is that bundle
abbrev pub RegainsWhatWasGiven : Type 0 → Type 0
RegainsWhatWasGiven V = (cells : List (Cell V)) (bundle : Part V) → IsBundle bundle → AreWrittenOut cells bundle.set → bundle_of (cells_given cells bundle) (shell_of bundle) ≡ bundle

-- a write of a cell where it is, and of the part that has it
pub record WritesAtHome (V : Type 0) : Type 0 where
  pub given : (cells : List (Cell V)) (part : Part V) (loc : ℕ) (value : V) → IsPart part → IsTrue (writes part.set loc) → slice_set (cells_given cells part) loc (Home value) ≡ cells_given cells (with_value part loc value)
  pub taken_and_given : (cells : List (Cell V)) (set : Accesses) (loc : ℕ) (value : V) → IsAscending set → AreHome cells set → IsTrue (writes set loc) → slice_set cells loc (Home value) ≡ cells_given (cells_taken cells set) (with_value (part_of cells set) loc value)
  pub part : (cells : List (Cell V)) (set : Accesses) (loc : ℕ) (value : V) → IsAscending set → loc < length cells → part_of (slice_set cells loc (Home value)) set ≡ with_value (part_of cells set) loc value
  pub taken : (cells : List (Cell V)) (set : Accesses) (loc : ℕ) (value : V) → IsTrue (writes set loc) → cells_taken (slice_set cells loc (Home value)) set ≡ cells_taken cells set
  pub home : (cells : List (Cell V)) (set : Accesses) (loc : ℕ) (value : V) → AreHome cells set → AreHome (slice_set cells loc (Home value)) set

-- takes and gives of independent sets can change places
pub record IndependentOrder (V : Type 0) : Type 0 where
  pub takes : (cells : List (Cell V)) (a b : Accesses) → cells_taken (cells_taken cells a) b ≡ cells_taken (cells_taken cells b) a
  pub gives : (cells : List (Cell V)) (part other : Part V) → AreIndependent part.set other.set → cells_given (cells_given cells part) other ≡ cells_given (cells_given cells other) part
  pub take_and_give : (cells : List (Cell V)) (set : Accesses) (part : Part V) → AreIndependent set part.set → cells_given (cells_taken cells set) part ≡ cells_taken (cells_given cells part) set

-- and leave each other's locations as they are
pub record IndependentTake (V : Type 0) : Type 0 where
  pub each : (cells : List (Cell V)) (set taken : Accesses) (loc : ℕ) → AreIndependent set taken → IsSome (access_at set loc) → cell_at (cells_taken cells taken) loc ≡ cell_at cells loc
  pub part : (cells : List (Cell V)) (set taken : Accesses) → AreIndependent set taken → part_of (cells_taken cells taken) set ≡ part_of cells set
  pub home : (cells : List (Cell V)) (set taken : Accesses) → AreIndependent set taken → AreHome (cells_taken cells taken) set ↔ AreHome cells set
  pub written_home : (cells : List (Cell V)) (set taken : Accesses) → AreIndependent set taken → AreWrittenHome (cells_taken cells taken) set ↔ AreWrittenHome cells set
  pub written_out : (cells : List (Cell V)) (set taken : Accesses) → AreIndependent set taken → AreWrittenOut (cells_taken cells taken) set ↔ AreWrittenOut cells set

pub record IndependentGive (V : Type 0) : Type 0 where
  pub each : (cells : List (Cell V)) (set : Accesses) (given : Part V) (loc : ℕ) → AreIndependent set given.set → IsSome (access_at set loc) → cell_at (cells_given cells given) loc ≡ cell_at cells loc
  pub part : (cells : List (Cell V)) (set : Accesses) (given : Part V) → AreIndependent set given.set → part_of (cells_given cells given) set ≡ part_of cells set
  pub home : (cells : List (Cell V)) (set : Accesses) (given : Part V) → AreIndependent set given.set → AreHome (cells_given cells given) set ↔ AreHome cells set
  pub written_home : (cells : List (Cell V)) (set : Accesses) (given : Part V) → AreIndependent set given.set → AreWrittenHome (cells_given cells given) set ↔ AreWrittenHome cells set
  pub written_out : (cells : List (Cell V)) (set : Accesses) (given : Part V) → AreIndependent set given.set → AreWrittenOut (cells_given cells given) set ↔ AreWrittenOut cells set

-- cells that are all home are their values
pub record HomesByLocation (V : Type 0) : Type 0 where
  pub each : (values : List V) (loc : ℕ) → cell_at (homes values) loc ≡ unwrap_or (option_map Home (slice_get values loc)) Out
  pub in_range : (values : List V) (loc : ℕ) (other : V) → loc < length values → cell_at (homes values) loc ≡ Home (slice_index_or values loc other)
  pub are_home : (values : List V) (set : Accesses) → IsInRange set (length values) → AreHome (homes values) set
  pub is_bundle : (values : List V) (set : Accesses) → IsAscending set → IsInRange set (length values) → IsBundle (part_of (homes values) set)
  pub written : (values : List V) (set : Accesses) (loc : ℕ) (value : V) → IsAscending set → loc < length values → with_value (part_of (homes values) set) loc value ≡ part_of (homes (slice_set values loc value)) set

pub record HomesAreValues (V : Type 0) : Type 0 where
  pub all_home : (values : List V) → AreAllHome (homes values)
  pub values_of_homes : (values : List V) → values_of (homes values) ≡ values
  pub homes_of_values : (cells : List (Cell V)) → AreAllHome cells → homes (values_of cells) ≡ cells

-- cells agree with values while some of them are out
pub record AgreementLasts (V : Type 0) : Type 0 where
  pub of_homes : (values : List V) → AgreesWith (homes values) values
  pub all_home : (cells : List (Cell V)) (values : List V) → AgreesWith cells values → AreAllHome cells → cells ≡ homes values
  pub same_part : (cells : List (Cell V)) (values : List V) (set : Accesses) → AgreesWith cells values → AreHome cells set → part_of cells set ≡ part_of (homes values) set
  pub taken : (cells : List (Cell V)) (old new : List V) (set : Accesses) → AgreesWith cells old → ChangesOnlyWritten set old new → AgreesWith (cells_taken cells set) new
  pub given : (cells : List (Cell V)) (values : List V) (set : Accesses) → AgreesWith cells values → AgreesWith (cells_given cells (part_of (homes values) set)) values

-- new values come home where the set writes, and the others were there
abbrev pub GivesNewValues : Type 0 → Type 0
GivesNewValues V = (old new : List V) (set : Accesses) → ChangesOnlyWritten set old new → cells_given (cells_taken (homes old) set) (part_of (homes new) set) ≡ homes new

-- values that change only where a set writes
pub record ValueChanges (V : Type 0) : Type 0 where
  pub none : (values : List V) (set : Accesses) → ChangesOnlyWritten set values values
  pub one : (values : List V) (set : Accesses) (loc : ℕ) (value : V) → IsTrue (writes set loc) → ChangesOnlyWritten set values (slice_set values loc value)
  pub more : (values middle last : List V) (set : Accesses) → ChangesOnlyWritten set values middle → ChangesOnlyWritten set middle last → ChangesOnlyWritten set values last
  pub wider : (old new : List V) (set other : Accesses) → IsWithin set other → ChangesOnlyWritten set old new → ChangesOnlyWritten other old new
  pub elsewhere : (old new : List V) (set other : Accesses) → AreIndependent other set → ChangesOnlyWritten set old new → part_of (homes new) other ≡ part_of (homes old) other
