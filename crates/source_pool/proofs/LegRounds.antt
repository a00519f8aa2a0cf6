-- Legs of a run: one more round, the end of the last one, and what the next one begins with.
use Rattle.std.proofs.Common.{◌≡◌, ◌≢◌, ◌+◌, ◌++◌, ℕ, suc, List, [], refl, sym, ap, subst, ◌∙◌, add-one, append_assoc}
use Rattle.cell_store.specs.Values.{values_of}
use Rattle.kdg_graph.specs.Nodes.{tasks_of}
use Rattle.output_log.specs.Entries.{joined_texts}
use Rattle.app_laws.specs.declared.serial_run.Finals.{Finals}
use Rattle.app_laws.specs.Applications.{Application}
use Rattle.commuting.specs.Rounds.{after_round}
use Rattle.crew.specs.declared.answers.OverCause.{OverCause}
use Rattle.crew.specs.declared.answers.OverCause.TheVariants as cause
use Rattle.run_laws.specs.Progress.{Progress}
use Rattle.run_laws.specs.Renaming.{IsRenamed}
use Rattle.run_laws.specs.Sound.{IsSound}
use Rattle.source_pool.specs.Course.{IsAtRest, LeadsByRounds}
use Rattle.source_pool.specs.Laws.{RestWithoutNodesIsTheEnd, RoundsAdd, RoundsAreTaken, StartsAreAtRest, WholeIsHome}
use Rattle.source_pool.specs.Legs.{BeginsAtRest, GoesOnFrom}
use Rattle.source_pool.specs.Runs.{IsRoundsEnd, IsRunFault, state_at_rest}
use Rattle.source_pool.proofs.EngineAtRest.{some_pending, state_is}

module _ {V : Type 0} {app : Application V} where
  -- one more round
  pub leads_on : WholeIsHome app → RoundsAdd app → (start old now : Progress V) (cells : List V) (before text : List ℕ) (rounds : ℕ) →
      IsAtRest app start cells (state_at_rest old) before old → old.nodes ≢ [] → IsAtRest app start cells (after_round app (state_at_rest old)) text now →
      LeadsByRounds app rounds (state_at_rest start) (state_at_rest old) → LeadsByRounds app (rounds + 1) (state_at_rest start) (state_at_rest now)
  leads_on home add start old now cells before text rounds rest some next leads =
      let on = add rounds (state_at_rest start) (state_at_rest old) leads (some_pending app start old cells (state_at_rest old) before rest some) in
      subst (λ (n : ℕ). LeadsByRounds app n (state_at_rest start) (state_at_rest now)) (sym (add-one rounds))
      (subst (LeadsByRounds app (suc rounds) (state_at_rest start)) (state_is home start now cells (after_round app (state_at_rest old)) text next) on)

  -- where the pending tasks become first tasks, the next leg begins
  pub next_begins : WholeIsHome app → StartsAreAtRest app → (start now next : Progress V) (cells : List V) (text : List ℕ) →
      IsAtRest app start cells (state_at_rest now) text now → IsRenamed app now next → ((values : List V) → IsSound app now [] values → IsSound app next [] values) →
      BeginsAtRest app next
  next_begins home starts start now next cells text rest renamed keeps =
      let sound = keeps rest.values rest.course.come.sound in
      starts next (values_of next.cells) (subst (IsSound app next []) (home next rest.values sound).1 sound) (ap (λ (p : Progress V). p.over) renamed.after ∙ rest.course.over)

  -- where no task is pending, the last leg has come to the end
  pub legs_end : RestWithoutNodesIsTheEnd app → RoundsAreTaken app → (start middle now : Progress V) (text more : List ℕ) (rounds others : ℕ) → GoesOnFrom app start text rounds middle →
      IsAtRest app middle (values_of middle.cells) (state_at_rest now) more now → LeadsByRounds app others (state_at_rest middle) (state_at_rest now) → now.nodes ≡ [] →
      (finals : Finals V) → finals.store ≡ now.cells → finals.text ≡ (text ++ more) ++ joined_texts now.log → finals.count ≡ now.ended → IsRoundsEnd app start finals (rounds + others)
  legs_end ends taken start middle now text more rounds others goes_on rest leads empty finals store texts count =
      let come = ends middle now (values_of middle.cells) (state_at_rest now) more rest empty in
      let own : Finals V = record { store = finals.store; text = more ++ joined_texts now.log; count = finals.count } in
      goes_on.ends own finals others
      (record {
        last = come.last;
        is_end = come.is_end;
        store = store ∙ come.home;
        text = come.texts;
        count = count ∙ come.ended;
        rounds_are = taken others (state_at_rest middle) (state_at_rest now) leads (ap tasks_of empty);
      })
      (record { store = refl; text_is = texts ∙ append_assoc text more (joined_texts now.log); count = refl })

  -- what ends a leg too early ends the run so
  pub leg_fails : (start now : Progress V) (text : List ℕ) (rounds : ℕ) → GoesOnFrom app start text rounds now → (why : OverCause) → IsRunFault app now why → IsRunFault app start why
  leg_fails start now text rounds goes_on (cause.Budget created limit) over = record {
    too_long = goes_on.too_long over.too_long;
    limit_is = over.limit_is ∙ goes_on.limit;
    above = over.above;
  }
  leg_fails start now text rounds goes_on cause.NoRoom over = tt
