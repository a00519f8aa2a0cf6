use Rattle.std.specs.Prelude.{◌≡◌, ℕ, ◌≤◌, List, length, take}
use Rattle.std.specs.Io.KnownBytes.{Appends}
use Rattle.std.specs.declared.option.Option.{Option}
use Rattle.outer_edge.specs.Faults.{HasRisen}
use Rattle.outer_edge.specs.declared.sink.Push.{Push}
use Rattle.outer_edge.specs.declared.sink.Push.TheVariants.{Took, Failed}

-- a front of the piece was appended
abbrev pub AppendsFront : Option (List ℕ) → Option (List ℕ) → List ℕ → Type 0
AppendsFront before after piece = (n : ℕ) × (n ≤ length piece) × Appends before after (take n piece)

-- what a write of a piece does to the bytes that were taken, before it and after it
abbrev pub WriteTakes : Option (List ℕ) → Option (List ℕ) → List ℕ → Push → Type 0
WriteTakes before after piece (Took n) = (1 ≤ n) × (n ≤ length piece) × Appends before after (take n piece)
WriteTakes before after piece Failed = AppendsFront before after piece

-- the count of failed writes rises at each of them, and nowhere else
abbrev pub CountsFailedWrite : ℕ → ℕ → Push → Type 0
CountsFailedWrite before after (Took n) = after ≡ before
CountsFailedWrite before after Failed = HasRisen before after
