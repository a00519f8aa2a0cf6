use Rattle.std.proofs.Common.{◌≡◌, ◌+◌, ◌++◌, ℕ, List, [], refl, sym, ap, ◌∙◌, subst, arith}
use Rattle.cell_store.specs.Values.{values_of}
use Rattle.app_laws.specs.declared.serial_run.Finals.{Finals}
use Rattle.app_laws.specs.Serial.{IsRun}
use Rattle.commuting.specs.Rounds.{TakesRounds}
use Rattle.commuting.specs.States.{execution_from}
use Rattle.list_rounds.specs.Rounds.{RoundsState, start_state}
use Rattle.list_rounds.proofs.Course.{nothing_left_is_the_end}
use Rattle.list_rounds.proofs.rounds.ListRounds.end.Goals as goal

pub returns-clause-run : goal.returns-clause-run
returns-clause-run g c =
    let inside = c.self.inside in
    let come = c.self.invariant in
    let none = subst (λ (r : RoundsState g.row.A.Denot g.row.A-Val.Denot). r.state.pending ≡ []) (sym c.self.view_is) c.requires in
    let finals : Finals g.row.A-Val.Denot = record { store = inside.parts.store; text = c.push_all.new.self; count = inside.parts.ended } in
    subst (λ (r : RoundsState g.row.A.Denot g.row.A-Val.Denot). IsRun (g.A.App.meaning r.app).act r.limit (execution_from r.start) finals) c.self.view_is
    (nothing_left_is_the_end (c.basis.ensures inside.app.now) come.course inside.limit finals come.within none refl
    (c.in_ok-push_all.ensures.ok ∙ ap (λ (more : List ℕ). inside.parts.text ++ more) (c.bytes.ensures ∙ c.in_ok-rest.ensures.text)) refl)

pub returns-clause-rounds : goal.returns-clause-rounds
returns-clause-rounds g c =
    let inside = c.self.inside in
    let come = c.self.invariant in
    let none = subst (λ (r : RoundsState g.row.A.Denot g.row.A-Val.Denot). r.state.pending ≡ []) (sym c.self.view_is) c.requires in
    let all : inside.rounds + 0 ≡ inside.rounds = omega arith in
    subst (λ (r : RoundsState g.row.A.Denot g.row.A-Val.Denot). TakesRounds (g.A.App.meaning r.app) r.rounds r.start) c.self.view_is
    (subst (λ n. TakesRounds (g.A.App.meaning inside.app.now) n (start_state inside.first_cells.value.items inside.first.value)) all (come.goes_on 0 none))

pub returns-clause-fit : goal.returns-clause-fit
returns-clause-fit g c =
    subst (λ (r : RoundsState g.row.A.Denot g.row.A-Val.Denot). (g.A.App.meaning r.app).is_fit_cells (values_of c.self.inside.parts.store)) c.self.view_is c.self.invariant.course.stands.ready.cells
