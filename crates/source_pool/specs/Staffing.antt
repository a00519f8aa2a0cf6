-- What a thread that plays a run is handed, and what becomes of the run.
use Rattle.std.specs.Prelude.{◌≡◌, ◌<◌, ◌^◌, ℕ, List, length, Option, Result, IfOk, IfErr}
use Rattle.std.specs.List.{All}
use Rattle.cell_store.specs.Values.{values_of}
use Rattle.app_laws.specs.Applications.{Application}
use Rattle.app_laws.specs.declared.serial_run.Finals.{Finals}
use Rattle.crew.specs.declared.answers.OverCause.{OverCause}
use Rattle.run_laws.specs.Progress.{Progress}
use Rattle.text_outlet.specs.declared.outlet.Outlet.{Outlet}
use Rattle.text_outlet.specs.Sending.{TellsMore}
use Rattle.source_pool.specs.Legs.{BeginsAtRest}
use Rattle.source_pool.specs.Runs.{IsRunFault}
use Rattle.source_pool.specs.Streams.{IsCutShort, IsToldEnd}
use Rattle.source_pool.specs.declared.begun.Begun.{Begun}

-- there is one run, in which nothing runs yet, with a limit that fits a word
pub record IsOneAtRest {A V H : Type 0} (meaning : A → Application V) (runs : List (Begun A V H)) : Type 0 where
  pub count : length runs ≡ 1
  pub rest : All (λ begun. BeginsAtRest (meaning begun.engine.app) begun.engine.progress) runs
  pub limited : All (λ begun. begun.engine.progress.limit < 2 ^ 64) runs

-- the run came to its end or was cut short, and its text was told as far
pub record HasRun {V K : Type 0} (app : Application V) (start : Progress V) (known : K → Option (List ℕ)) (faults : K → ℕ) (outlet : Outlet) (sink : K) (next : Outlet) (next_sink : K)
    (result : Result (Finals V × ℕ) OverCause) : Type 0 where
  pub end : IfOk result (λ run. (told : List ℕ) × TellsMore known faults outlet sink next next_sink told × IsToldEnd app start next.has_failed told run.0 run.1)
  pub fit : IfOk result (λ run. app.is_fit_cells (values_of run.0.store))
  pub fault : IfErr result (IsRunFault app start)
  pub cut : IfErr result (λ why. (told : List ℕ) × TellsMore known faults outlet sink next next_sink told × IsCutShort app start next.has_failed told why)
