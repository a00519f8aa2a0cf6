-- A run in several legs, at the beginning of each of which the pending tasks are first tasks.
use Rattle.std.specs.Prelude.{◌≡◌, ℕ, ◌+◌, List, [], ◌++◌, None}
use Rattle.cell_store.specs.Values.{values_of}
use Rattle.output_log.specs.Entries.{with_texts}
use Rattle.app_laws.specs.declared.serial_run.Finals.{Finals}
use Rattle.app_laws.specs.Applications.{Application, PathsAreIgnored}
use Rattle.commuting.specs.States.{State}
use Rattle.run_laws.specs.Progress.{Progress}
use Rattle.run_laws.specs.Renaming.{IsRenamed}
use Rattle.source_pool.specs.Course.{IsAtRest, LeadsByRounds}
use Rattle.source_pool.specs.Kept.{KeepsAfter, KeepsBehind, acted_in}
use Rattle.source_pool.specs.Runs.{IsRoundsEnd, rest_of_run, state_at_rest}

-- the end `whole` is that of `finals`, with this text in front of its own
pub record IsEndBehind {V : Type 0} (text : List ℕ) (finals whole : Finals V) : Type 0 where
  pub store : whole.store ≡ finals.store
  pub text_is : whole.text ≡ text ++ finals.text
  pub count : whole.count ≡ finals.count

module _ {V : Type 0} (app : Application V) where
  -- between two rounds: nothing is running, and this is the start of what is left of the run
  abbrev pub BeginsAtRest : Progress V → Type 0
  BeginsAtRest start = IsAtRest app start (values_of start.cells) (state_at_rest start) [] start

  -- what is left of the run from the start is the run from here, behind `text` and `rounds` rounds
  pub record GoesOnFrom (start : Progress V) (text : List ℕ) (rounds : ℕ) (now : Progress V) : Type 0 where
    pub ends : (finals whole : Finals V) (more : ℕ) → IsRoundsEnd app now finals more → IsEndBehind text finals whole → IsRoundsEnd app start whole (rounds + more)
    pub too_long : rest_of_run app now ≡ None → rest_of_run app start ≡ None
    pub limit : now.limit ≡ start.limit
    pub keeps : (more : ℕ) (state : State V) (kept : List ℕ) → KeepsAfter app now more state kept → KeepsBehind app start text rounds now more state kept

  abbrev pub LegsBegin : Type 0
  LegsBegin = (start : Progress V) → GoesOnFrom start [] 0 start

  abbrev pub LegsGoOn : Type 0
  LegsGoOn = (start middle now : Progress V) (text more : List ℕ) (rounds others : ℕ) →
      GoesOnFrom start text rounds middle → GoesOnFrom middle more others now → GoesOnFrom start (text ++ more) (rounds + others) now

  -- after some rounds, where paths are ignored and no text is logged that isn't drained, the pending tasks may become first tasks
  abbrev pub RenamingsGoOn : Type 0
  RenamingsGoOn = (start now next : Progress V) (state : State V) (text : List ℕ) (rounds : ℕ) → PathsAreIgnored app →
      BeginsAtRest start → IsAtRest app start (values_of start.cells) state text now → LeadsByRounds app rounds (state_at_rest start) state →
      now.ended ≡ start.ended + acted_in app rounds (state_at_rest start) →
      with_texts now.log ≡ [] → IsRenamed app now next → GoesOnFrom start text rounds next
