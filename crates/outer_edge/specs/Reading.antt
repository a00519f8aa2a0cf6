use Rattle.std.specs.Prelude.{◌≡◌, ℕ, ◌≤◌, List, length, take}
use Rattle.std.specs.Io.KnownBytes.{Consumes, IsAtEnd, Keeps}
use Rattle.std.specs.declared.option.Option.{Option}
use Rattle.outer_edge.specs.Faults.{HasRisen}
use Rattle.outer_edge.specs.declared.source.Pull.{Pull}
use Rattle.outer_edge.specs.declared.source.Pull.TheVariants.{Got, End, Failed}

-- what a read does to the bytes that are left, before it and after it, and what it put in the buffer
abbrev pub ReadGives : Option (List ℕ) → Option (List ℕ) → List ℕ → Pull → Type 0
ReadGives before after buffer (Got n) = (1 ≤ n) × (n ≤ length buffer) × Consumes before after (take n buffer)
ReadGives before after buffer End = Keeps before after × IsAtEnd after
ReadGives before after buffer Failed = Keeps before after

-- the count of failed reads rises at each of them, and nowhere else
abbrev pub CountsFailedRead : ℕ → ℕ → Pull → Type 0
CountsFailedRead before after (Got n) = after ≡ before
CountsFailedRead before after End = after ≡ before
CountsFailedRead before after Failed = HasRisen before after
