-- A log that is cut into blocks.
use Rattle.std.specs.Prelude.{◌≡◌, ℕ, suc, ◌-◌, ◌<◌, ◌≤◌, ◌^◌, ◌⊎◌, Bool, false, List, [], ◌∷◌, ◌++◌, length, take, drop, slice_index_or}
use Rattle.std.specs.List.{AllByRecursion}
use Rattle.task_order.specs.Key.{Bound}
use Rattle.output_log.specs.Entries.{Entry, is_entry_before, entries_before, entries_from}

-- how many entries a full block has
abbrev pub full_length : ℕ
full_length = 64

-- how many blocks there may be
abbrev pub most_blocks : ℕ
most_blocks = 2 ^ 57 - 1

-- the blocks, and for how many more entries there is place
pub record BlocksState : Type 0 where
  pub blocks : List (List Entry)
  pub spare : ℕ

-- the entries of all blocks
abbrev pub entries_in : List (List Entry) → List Entry
entries_in [] = []
entries_in (block ∷ blocks) = block ++ entries_in blocks

-- the block at a place, if there is one
abbrev pub block_at : List (List Entry) → ℕ → List Entry
block_at blocks at = slice_index_or blocks at []

-- the entries before a place: those of the blocks before block `at`, and the first `place` of its own block
abbrev pub entries_to : List (List Entry) → ℕ → ℕ → List Entry
entries_to blocks at place = entries_in (take at blocks) ++ take place (block_at blocks at)

-- the entries from a place on
abbrev pub entries_behind : List (List Entry) → ℕ → ℕ → List Entry
entries_behind blocks at place = drop place (block_at blocks at) ++ entries_in (drop (suc at) blocks)

-- whether a block's last entry is before the bound
abbrev pub ends_before : Bound → List Entry → Bool
ends_before bound [] = false
ends_before bound (entry ∷ []) = is_entry_before bound entry
ends_before bound (entry ∷ next ∷ entries) = ends_before bound (next ∷ entries)

-- a block has an entry, and no more than it may
abbrev pub IsFilled : List Entry → Type 0
IsFilled block = (0 < length block) × (length block ≤ full_length)

abbrev pub IsEmpty : List Entry → Type 0
IsEmpty block = block ≡ []

-- the blocks of a log, and others for more entries
pub record AreBlocks (blocks spare : List (List Entry)) : Type 0 where
  pub filled : AllByRecursion IsFilled blocks
  pub empty : AllByRecursion IsEmpty spare
  pub count : length blocks ≤ most_blocks

-- a place in a block where an entry is, or behind all blocks
abbrev pub IsInside : List (List Entry) → ℕ → ℕ → Type 0
IsInside blocks at place = (place < length (block_at blocks at)) ⊎ ((at ≡ length blocks) × (place ≡ 0))

-- where a bound belongs
pub record IsPlace (bound : Bound) (blocks : List (List Entry)) (at place : ℕ) : Type 0 where
  pub inside : IsInside blocks at place
  pub before : entries_to blocks at place ≡ entries_before bound (entries_in blocks)
  pub from : entries_behind blocks at place ≡ entries_from bound (entries_in blocks)
