use Rattle.std.specs.Prelude.{◌==◌, ℕ, List, [], ◌∷◌, map, if◌then◌else◌}
use Rattle.std.specs.Str.Lines.{strip_carriage_return}
use Rattle.std.specs.List.{onto_first}

-- what line feeds end, and what follows the last one where a byte does
abbrev pub parts_of : List ℕ → List (List ℕ)
parts_of [] = []
parts_of (byte ∷ bytes) = if byte == 10 then [] ∷ parts_of bytes else onto_first byte (parts_of bytes)

-- the lines of an input: each part, without the one carriage return at its end
abbrev pub lines_of : List ℕ → List (List ℕ)
lines_of bytes = map strip_carriage_return (parts_of bytes)

-- the lines that are left, and the number of the next one
pub record LinesLeft : Type 0 where
  pub number : ℕ
  pub lines : List (List ℕ)
