-- A pattern that is made from a number, which is that of its blocks of three rows and columns along the diagonal.
use Rattle.std.specs.Prelude.{ℕ, ◌+◌, ◌*◌, List, [], ◌∷◌}
use Rattle.std.specs.List.{flat_map}
use Rattle.mtx_reader.specs.declared.pattern.Pattern.{Pattern}
use Rattle.mtx_reader.specs.Ascending.{numbers_from}
use Rattle.mtx_reader.specs.Places.{Place}

abbrev pub most_blocks : ℕ
most_blocks = 1365

-- the places of a block behind `before` rows and columns
abbrev pub places_behind : ℕ → List Place
places_behind before =
    (before + 1, before + 1) ∷ (before + 1, before + 2) ∷ (before + 2, before + 1) ∷ (before + 2, before + 3) ∷ (before + 3, before + 3) ∷ []

-- the places of a block, counted from 0
abbrev pub block_places : ℕ → List Place
block_places block = places_behind (3 * block)

-- the places of these blocks, in order
abbrev pub blocks_places : List ℕ → List Place
blocks_places blocks = flat_map block_places blocks

-- each block touches no row and no column of another
abbrev pub generated_input : ℕ → Pattern
generated_input n = record { rows = 3 * n; cols = 3 * n; places = blocks_places (numbers_from 0 n) }
