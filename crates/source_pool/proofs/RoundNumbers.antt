-- Rounds add up, and where nothing is left they have come to the end of the sequential run.
use Rattle.std.proofs.Common.{◌≡◌, ◌≢◌, ℕ, zero, suc, ◌+◌, ◌-◌, List, [], ◌++◌, Option, Some, None, refl, sym, ap, subst, ◌∙◌, arith}
use Rattle.std.specs.Prelude.{IsSomeAnd}
use Rattle.task_order.specs.Key.{end}
use Rattle.cell_store.specs.Values.{values_of}
use Rattle.output_log.specs.Entries.{Entry, joined_texts}
use Rattle.app_laws.specs.Applications.{Application}
use Rattle.app_laws.specs.Execution.{Execution}
use Rattle.commuting.specs.Rounds.{TakesRounds, after_round}
use Rattle.commuting.specs.States.{State, run_from}
use Rattle.run_laws.specs.CourseLaws.{IsSequentialEnd as HasEnded}
use Rattle.run_laws.specs.Progress.{Progress, whole_state}
use Rattle.source_pool.specs.Basis.{Basis}
use Rattle.source_pool.specs.Course.{IsAtRest, LeadsByRounds}
use Rattle.source_pool.specs.Laws.{IsSequentialEnd, RestWithoutNodesIsTheEnd, RoundsAdd, RoundsAreTaken, WholeIsHome}

module _ {V : Type 0} (app : Application V) where
  pub rounds_add : RoundsAdd app
  rounds_add zero state now leads some = (subst (λ (s : State V). s.pending ≢ []) leads some, ap (after_round app) leads)
  rounds_add (suc rounds) state now leads some = (leads.0, rounds_add rounds (after_round app state) now leads.1 some)

  -- what takes so many rounds takes those on the way there and these
  pub rounds_take_more : (rounds more : ℕ) (state now : State V) → LeadsByRounds app rounds state now → TakesRounds app more now → TakesRounds app (rounds + more) state
  rounds_take_more zero more state now leads takes =
      let all : more ≡ 0 + more = omega arith in
      subst (λ n. TakesRounds app n state) all (subst (TakesRounds app more) leads takes)
  rounds_take_more (suc rounds) more state now leads takes =
      let all : suc (rounds + more) ≡ suc rounds + more = omega arith in
      subst (λ n. TakesRounds app n state) all (leads.0, rounds_take_more rounds more (after_round app state) now leads.1 takes)

  pub rounds_are_taken : RoundsAreTaken app
  rounds_are_taken rounds state now leads empty =
      let all : rounds + 0 ≡ rounds = omega arith in
      subst (λ n. TakesRounds app n state) all (rounds_take_more rounds 0 state now leads empty)

module _ {V : Type 0} {app : Application V} (basis : Basis app) where
  pub whole_is_home : WholeIsHome app
  whole_is_home now values sound =
      let home = (basis.at_rest now values sound).cells in
      (home, sym (basis.values.values_of_homes values) ∙ ap values_of (sym home))

  -- the text of all entries
  texts_in_all : (drained log : List Entry) (text : List ℕ) → text ≡ joined_texts drained → text ++ joined_texts log ≡ joined_texts (drained ++ log)
  texts_in_all drained log text is = ap (λ first. first ++ joined_texts log) is ∙ sym (basis.texts_follow drained log)

  -- the end of a run that is there
  sequential_end : (start : Progress V) (cells : List V) (now : Progress V) (state : State V) (text : List ℕ) (rest : IsAtRest app start cells state text now) (run : Option (Execution V))
      → run_from app.act (start.limit - start.ended) end (whole_state start cells) ≡ run → IsSomeAnd run (HasEnded app start cells rest.course.drained now) → IsSequentialEnd app start cells text now
  sequential_end start cells now state text rest None is ended = absurd ended
  sequential_end start cells now state text rest (Some last) is ended = record {
    last = last;
    is_end = is;
    home = ended.home;
    texts = texts_in_all rest.course.drained now.log text rest.course.text_is ∙ ap joined_texts ended.log;
    ended = ended.ended;
  }

  pub rest_without_nodes_is_the_end : RestWithoutNodesIsTheEnd app
  rest_without_nodes_is_the_end start now cells state text rest empty =
      let course = rest.course in
      let over = basis.last start cells course.drained course.entries now [] rest.values course.come empty in
      sequential_end start cells now state text rest (run_from app.act (start.limit - start.ended) end (whole_state start cells)) refl (over.runs (start.limit - start.ended) over.within)
