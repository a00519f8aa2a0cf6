use Rattle.std.specs.Prelude.{◌≡◌, ◌==◌, ℕ, ◌+◌, ◌-◌, ◌^◌, Bool, List, ◌++◌, length, take, drop, min, nat_lt, if◌then◌else◌}
use Rattle.std.specs.List.{list_any}
use Rattle.outer_edge.specs.declared.source.Pull.{Pull}
use Rattle.outer_edge.specs.declared.source.Pull.TheVariants as pulls
use Rattle.outer_edge.specs.declared.sink.Push.{Push}
use Rattle.outer_edge.specs.declared.sink.Push.TheVariants as pushes

-- a count that rises by one, up to the last value that it can have
abbrev pub next_count : ℕ → ℕ
next_count n = min (n + 1) (2 ^ 64 - 1)

-- whether the next call is among those that fail
abbrev pub next_fails : List ℕ → ℕ → Bool
next_fails fails calls = list_any (λ number. number == next_count calls) fails

-- a source in memory: the bytes left, how many a read gives at most, the numbers of the reads that
-- fail, how many reads there were, and how many of them failed
pub record Reader : Type 0 where
  pub left : List ℕ
  pub step : ℕ
  pub fails : List ℕ
  pub reads : ℕ
  pub faults : ℕ

-- what a read gives of these bytes, by the step and the length of the buffer
abbrev pub pull_from : List ℕ → ℕ → ℕ → Pull
pull_from left step room = if length left == 0 then pulls.End else pulls.Got (min step (min room (length left)))

-- what the next read gives, by the length of its buffer
abbrev pub pull_of : Reader → ℕ → Pull
pull_of reader room = if next_fails reader.fails reader.reads then pulls.Failed else pull_from reader.left reader.step room

-- how many bytes a read gave
abbrev pub given_len : Pull → ℕ
given_len (pulls.Got n) = n
given_len pulls.End = 0
given_len pulls.Failed = 0

-- the count of faults after a read
abbrev pub faults_after_read : ℕ → Pull → ℕ
faults_after_read faults (pulls.Got n) = faults
faults_after_read faults pulls.End = faults
faults_after_read faults pulls.Failed = next_count faults

-- the source after a read
abbrev pub after_read : Reader → Pull → Reader
after_read reader pull = record reader { left = drop (given_len pull) reader.left; reads = next_count reader.reads; faults = faults_after_read reader.faults pull }

-- the buffer after a read
abbrev pub buffer_after : List ℕ → List ℕ → Pull → List ℕ
buffer_after buffer left pull = take (given_len pull) left ++ drop (given_len pull) buffer

-- a source in memory that never fails: the bytes left, and how many a read gives at most
pub record CleanReader : Type 0 where
  pub left : List ℕ
  pub step : ℕ

-- a sink in memory: the bytes held, how many a write takes at most, how many it has room for in all,
-- the numbers of the writes that fail, how many writes there were, and how many of them failed
pub record Writer : Type 0 where
  pub held : List ℕ
  pub step : ℕ
  pub room : ℕ
  pub fails : List ℕ
  pub writes : ℕ
  pub faults : ℕ

-- what a write does by the bytes held, the step, the room, and the length of the piece
abbrev pub push_onto : List ℕ → ℕ → ℕ → ℕ → Push
push_onto held step room len = if length held == room then pushes.Failed else pushes.Took (min step (min len (room - length held)))

-- what the next write does, by the length of its piece
abbrev pub push_of : Writer → ℕ → Push
push_of writer len = if next_fails writer.fails writer.writes then pushes.Failed else push_onto writer.held writer.step writer.room len

-- how many bytes a write took
abbrev pub taken_len : Push → ℕ
taken_len (pushes.Took n) = n
taken_len pushes.Failed = 0

-- the count of faults after a write
abbrev pub faults_after_write : ℕ → Push → ℕ
faults_after_write faults (pushes.Took n) = faults
faults_after_write faults pushes.Failed = next_count faults

-- the sink after a write
abbrev pub after_write : Writer → List ℕ → Push → Writer
after_write writer piece push = record writer { held = writer.held ++ take (taken_len push) piece; writes = next_count writer.writes; faults = faults_after_write writer.faults push }

-- a write of a piece answers so, and leaves the sink so
abbrev pub WriterGives : Writer → List ℕ → Push → Writer → Type 0
WriterGives before piece push after = (push ≡ push_of before (length piece)) × (after ≡ after_write before piece push)

-- a sink in memory that fails only where it is full
pub record CleanWriter : Type 0 where
  pub held : List ℕ
  pub step : ℕ
  pub room : ℕ
  pub full_writes : ℕ

-- its writes failed only where it was full, so none did while it has room
abbrev pub clean_faults : CleanWriter → ℕ
clean_faults writer = if nat_lt (length writer.held) writer.room then 0 else writer.full_writes

-- the sink after a write
abbrev pub after_clean_write : CleanWriter → List ℕ → Push → CleanWriter
after_clean_write writer piece push = record writer { held = writer.held ++ take (taken_len push) piece; full_writes = faults_after_write writer.full_writes push }

-- a write of a piece answers so, and leaves the sink so
abbrev pub CleanWriterGives : CleanWriter → List ℕ → Push → CleanWriter → Type 0
CleanWriterGives before piece push after = (push ≡ push_onto before.held before.step before.room (length piece)) × (after ≡ after_clean_write before piece push)
