-- What holds of the texts that are kept, and of rounds that pass the limit, for every application.
use Rattle.std.specs.Prelude.{◌≡◌, ◌<◌, ℕ, ◌+◌, List, [], ◌∷◌, ◌++◌, length, IsPermutation}
use Rattle.task_order.specs.TaskList.{IsAscending}
use Rattle.cell_store.specs.Values.{values_of}
use Rattle.kdg_graph.specs.declared.node_id.NodeId.{NodeId}
use Rattle.output_log.specs.Entries.{Entry, with_texts}
use Rattle.app_laws.specs.Applications.{Application, PathsAreIgnored}
use Rattle.commuting.specs.Rounds.{clear_tasks}
use Rattle.commuting.specs.States.{State}
use Rattle.run_laws.specs.Acting.{IsTooMany}
use Rattle.run_laws.specs.Course.{HasCome}
use Rattle.run_laws.specs.Events.{IsOverLimit, clear_nodes, drainable}
use Rattle.run_laws.specs.Jobs.{Done, Job}
use Rattle.run_laws.specs.Progress.{Progress}
use Rattle.run_laws.specs.Renaming.{IsRenamed}
use Rattle.run_laws.specs.Sound.{IsSound}
use Rattle.source_pool.specs.Course.{IsActing, IsAtRest, IsDrawing, IsEnding, IsJobDone, LeadsByRounds, job_tasks}
use Rattle.source_pool.specs.Kept.{KeepsAfter, KeepsBehind, acted_in, sequential_entries, sequential_text}
use Rattle.source_pool.specs.Legs.{BeginsAtRest}
use Rattle.source_pool.specs.Runs.{state_at_rest}

module _ {V : Type 0} (app : Application V) where
  -- between two rounds, where nothing more is to be drained, the text that was drained is what is kept
  abbrev pub DrainedTextsAreKept : Type 0
  DrainedTextsAreKept = (start now : Progress V) (state : State V) (text : List ℕ) (rounds : ℕ) →
      BeginsAtRest app start → IsAtRest app start (values_of start.cells) state text now → LeadsByRounds app rounds (state_at_rest start) state →
      now.ended ≡ start.ended + acted_in app rounds (state_at_rest start) → drainable app now.nodes now.log ≡ [] → KeepsAfter app start rounds state text

  -- what is kept after any round within the limit is a front of the sequential run's text
  abbrev pub KeptTextsAreFronts : Type 0
  KeptTextsAreFronts = (start : Progress V) (rounds : ℕ) (state : State V) (text : List ℕ) → BeginsAtRest app start → KeepsAfter app start rounds state text →
      (rest : List ℕ) × (sequential_text app start ≡ text ++ rest)

  -- a round has as many acts as tasks are clear when it begins
  abbrev pub ActsAreTheRound : Type 0
  ActsAreTheRound = (start now : Progress V) (cells : List V) (state : State V) (text : List ℕ) →
      IsAtRest app start cells state text now → length (clear_nodes app now.nodes) ≡ length (clear_tasks app state)

  -- and as many ends
  abbrev pub EndsAreTheRound : Type 0
  EndsAreTheRound = (start now : Progress V) (cells : List V) (state : State V) (text : List ℕ) (jobs turn : List (Job V)) →
      IsDrawing app start cells state text now jobs → clear_nodes app now.nodes ≡ [] → IsPermutation jobs turn → IsAscending (job_tasks turn) →
      length turn ≡ length (clear_tasks app state)

  -- where a task passes the limit, the whole round does
  abbrev pub ActsPassWithTheRound : Type 0
  ActsPassWithTheRound = (start now next : Progress V) (cells : List V) (target : State V) (text : List ℕ) (id : NodeId) (ids : List NodeId) (created limit : ℕ) →
      IsActing app start cells target text now (id ∷ ids) → IsTooMany app now id next created limit → start.limit < now.ended + (length (id ∷ ids) + length target.pending)

  abbrev pub EndsPassWithTheRound : Type 0
  EndsPassWithTheRound = (start now : Progress V) (cells : List V) (target : State V) (text : List ℕ) (job : Job V) (jobs : List (Job V)) (done : Done V) →
      IsEnding app start cells target text now (job ∷ jobs) → IsJobDone app job done → IsOverLimit app now done → start.limit < now.ended + (length (job ∷ jobs) + length target.pending)

  -- where paths are ignored, the pending tasks may become first tasks while no text is logged that isn't drained: what is kept from there
  -- is kept from the start too
  abbrev pub RenamingsKeepTexts : Type 0
  RenamingsKeepTexts = (start now next : Progress V) (state last : State V) (text kept : List ℕ) (rounds more : ℕ) → PathsAreIgnored app →
      BeginsAtRest app start → IsAtRest app start (values_of start.cells) state text now → LeadsByRounds app rounds (state_at_rest start) state →
      now.ended ≡ start.ended + acted_in app rounds (state_at_rest start) → with_texts now.log ≡ [] → IsRenamed app now next →
      KeepsAfter app next more last kept → KeepsBehind app start text rounds next more last kept

  -- whatever was drained since a sound start in which nothing was running, in whatever order tasks have ended, comes first in the
  -- sequential run's entries
  abbrev pub DrainedEntriesAreFirst : Type 0
  DrainedEntriesAreFirst = (start now : Progress V) (drained entries : List Entry) (jobs : List (Job V)) (values : List V) → IsSound app start [] (values_of start.cells) →
      HasCome app start (values_of start.cells) drained entries now jobs values → (rest : List Entry) × (sequential_entries app start ≡ drained ++ rest)
