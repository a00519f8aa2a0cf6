-- When an engine goes on from the one that a hall began with.
use Rattle.std.specs.Prelude.{◌≡◌, ℕ, ◌-◌, List, [], ◌++◌, length, Option, None, IsPermutation}
use Rattle.std.specs.Option.{option_or}
use Rattle.task_order.specs.declared.key.Key.{Key}
use Rattle.output_log.specs.Entries.{Entry}
use Rattle.cell_store.specs.Values.{values_of}
use Rattle.app_laws.specs.Applications.{Application}
use Rattle.crew.specs.declared.answers.OverCause.{OverCause}
use Rattle.run_laws.specs.Course.{HasCome}
use Rattle.run_laws.specs.CourseLaws.{keys_of}
use Rattle.run_laws.specs.Jobs.{Job}
use Rattle.run_laws.specs.Progress.{Progress}
use Rattle.graph_update.specs.Engine.{EngineState}

-- what all seats together have: the jobs in hand, the keys that ended under them, the mark that one of them set, and how many entries were drained
pub record Sum (V : Type 0) : Type 0 where
  pub jobs : List (Job V)
  pub finished : List Key
  pub over : Option OverCause
  pub drained : ℕ

-- with what others have besides
abbrev pub beside : {V : Type 0} → List (Job V) → List Key → Option OverCause → Sum V → Sum V
beside jobs finished over others = record { jobs = jobs ++ others.jobs; finished = finished ++ others.finished; over = option_or over others.over; drained = others.drained }

-- how many entries have been drained: those of the ended tasks that the log doesn't have
abbrev pub drained_count : {V : Type 0} → Progress V → ℕ
drained_count progress = progress.ended - length progress.log

-- nothing has happened since the origin
abbrev pub nothing_since : {V : Type 0} → Progress V → Sum V
nothing_since origin = record { jobs = []; finished = []; over = None; drained = drained_count origin }

-- Since the origin, in which nothing was running, the execution has come by claims, ends and drains to where it is, with these jobs
-- in hand; just these keys have ended, each once, and the mark and the number of drained entries are these.
pub record Continues {V : Type 0} (app : Application V) (origin now : Progress V) (sum : Sum V) : Type 0 where
  pub drained : List Entry
  pub entries : List Entry
  pub values : List V
  pub come : HasCome app origin (values_of origin.cells) drained entries now sum.jobs values
  pub finished : IsPermutation (keys_of entries) sum.finished
  pub over : now.over ≡ sum.over
  pub count : drained_count now ≡ sum.drained

-- and so has the engine, whose application is the origin's
pub record Fits {A V : Type 0} (meaning : A → Application V) (origin now : EngineState A V) (sum : Sum V) : Type 0 where
  pub app : now.app ≡ origin.app
  pub progress : Continues (meaning origin.app) origin.progress now.progress sum
