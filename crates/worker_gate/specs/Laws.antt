-- What the rule of a hall rests on: an execution that goes on from an origin still does after a move under one of the seats.
use Rattle.std.specs.Prelude.{◌≡◌, List, [], ◌++◌, None, Option, IsPermutation}
use Rattle.std.specs.Option.{option_or}
use Rattle.task_order.specs.declared.key.Key.{Key}
use Rattle.cell_store.specs.Values.{values_of}
use Rattle.app_laws.specs.Applications.{Application}
use Rattle.crew.specs.declared.answers.OverCause.{OverCause}
use Rattle.run_laws.specs.Jobs.{Job}
use Rattle.run_laws.specs.Moves.{Moved}
use Rattle.run_laws.specs.Progress.{Progress}
use Rattle.run_laws.specs.Sound.{IsSound}
use Rattle.worker_gate.specs.Fits.{Continues, Sum, beside, drained_count, nothing_since}

-- the mark that was set since an execution had the first of two
abbrev pub new_mark : Option OverCause → Option OverCause → Option OverCause
new_mark None now = now
new_mark (Option.Some cause) now = None

-- the same jobs and keys, in any order, the same mark and the same number
pub record IsSameSum {V : Type 0} (sum other : Sum V) : Type 0 where
  pub jobs : IsPermutation sum.jobs other.jobs
  pub finished : IsPermutation sum.finished other.finished
  pub over : sum.over ≡ other.over
  pub drained : sum.drained ≡ other.drained

module _ {V : Type 0} (app : Application V) where
  -- any sound execution in which nothing is running, and that has no mark, is an origin
  abbrev pub OriginsContinue : Type 0
  OriginsContinue = (origin : Progress V) → IsSound app origin [] (values_of origin.cells) → origin.over ≡ None → Continues app origin origin (nothing_since origin)

  abbrev pub SameSumsContinue : Type 0
  SameSumsContinue = (origin now : Progress V) (sum other : Sum V) → IsSameSum sum other → Continues app origin now sum → Continues app origin now other

  -- a move from the jobs of one seat to other jobs, whatever the others have
  abbrev pub MovesContinue : Type 0
  MovesContinue = (origin old now : Progress V) (had have : List (Job V)) (finished ended : List Key) (over : Option OverCause) (others : Sum V) →
      Continues app origin old (beside had finished over others) → Moved app old had now have ended →
      Continues app origin now (beside have (finished ++ ended) (option_or over (new_mark old.over now.over)) (record others { drained = drained_count now }))
