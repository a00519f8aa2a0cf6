use Rattle.std.specs.Prelude.{ℕ, ◌==◌, if◌then◌else◌, Result, Ok, Err}
use Rattle.outer_edge.specs.declared.source.Pull.{Pull}
use Rattle.outer_edge.specs.declared.source.Pull.TheVariants.{Got, End, Failed}
use Rattle.outer_edge.specs.declared.sink.Push.{Push}
use Rattle.outer_edge.specs.declared.sink.Push.TheVariants as pushes

-- a reader or a writer, and how many of its calls have failed
pub record Counted (X : Type 0) : Type 0 where
  pub inner : X
  pub faults : ℕ

-- what a reader's answer to a read with room for a byte says: no byte is the end, and an error of whatever kind a failed read
abbrev pub pull_by : {E : Type 0} → Result ℕ E → Pull
pull_by (Ok count) = if count == 0 then End else Got count
pull_by (Err error) = Failed

-- what a write of `count` bytes comes to, by the writer's answer to the flush after it: bytes that aren't flushed may be lost
abbrev pub push_by : {U E : Type 0} → ℕ → Result U E → Push
push_by count (Ok done) = pushes.Took count
push_by count (Err error) = pushes.Failed
