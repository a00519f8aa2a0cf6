use mir.Syntax.{of_param}
use Rattle.std.proofs.Common.{◌≡◌, ◌+◌, ◌∙◌, length, sym, ap, subst, arith}
use Rattle.std.proofs.lemmas.List.{length-map}
use Rattle.std.proofs.lemmas.Result.{err_from_is_err_and}
use Rattle.plain_laws.specs.Lists.{some_in}
use Rattle.cell_store.specs.Values.{values_of}
use Rattle.commuting.specs.Rounds.{after_round, clear_tasks}
use Rattle.kdg_graph.specs.Node.{Node}
use Rattle.kdg_graph.specs.Nodes.{ids_of}
use Rattle.run_laws.specs.Events.{clear_nodes}
use Rattle.graph_update.specs.Engine.{EngineState}
use Rattle.source_pool.specs.Course.{IsActing, RestsAt}
use Rattle.source_pool.specs.Round.{IsEndFault, next_point}
use Rattle.source_pool.proofs.acting.act_round.Goals as goal

pub act_in_turn-requires : goal.act_in_turn-requires
act_in_turn-requires g c κs within =
    let app = g.A.App.meaning c.args.engine.now.app in
    let now = c.args.engine.now.progress in
    let acting = c.acting_laws.ensures.begins c.args.engine.now.app g.from.start now (values_of g.from.start.cells) g.from.state g.from.text c.requires.1.1.1.1.1.1.rest in
    let same : c.deref.result.now ≡ ids_of (clear_nodes app now.nodes) = c.deref.ensures.value ∙ c.in_ok-find_clear.ensures.ids in
    let sent = c.requires.1.1.1.1.0 in
    let horizon = c.requires.1.1.1.1.1.0 in (
      within.0,
      (
        within.1.0,
        (
          within.1.1.0,
          (
            within.1.1.1,
            (
              record { owned = sent.owned; leaving = λ k. sent.leaving (λ _. k (of_param 2)) },
              (
                record { owned = horizon.owned; leaving = λ k. horizon.leaving (λ _. k (of_param 3)) },
                subst (λ (state : EngineState g.row.A.Denot g.row.A-Val.Denot). IsActing (g.A.App.meaning state.app) g.from.start (values_of g.from.start.cells) (after_round (g.A.App.meaning state.app) g.from.state) g.from.text state.progress c.deref.result.now) (sym c.find_clear.ensures.same)
                    (subst (IsActing app g.from.start (values_of g.from.start.cells) (after_round app g.from.state) g.from.text now) (sym same) acting),
              ),
            ),
          ),
        ),
      ),
    )

pub returns-clause-played : goal.returns-clause-played
returns-clause-played g c =
    let app = g.A.App.meaning c.args.engine.now.app in
    let now = c.args.engine.now.progress in
    let cells = values_of g.from.start.cells in
    let same : c.deref.result.now ≡ ids_of (clear_nodes app now.nodes) = c.deref.ensures.value ∙ c.in_ok-find_clear.ensures.ids in
    let rest = c.requires.1.1.1.1.1.1.rest in
    let some = some_in (ids_of (clear_nodes app now.nodes)) (c.acting_laws.ensures.some c.args.engine.now.app g.from.start now cells g.from.state g.from.text rest c.requires.1.1.1.1.1.1.some) in
    let many = c.kept_laws.ensures.acts c.args.engine.now.app g.from.start now cells g.from.state g.from.text rest in
    let ended = ap (λ (state : EngineState g.row.A.Denot g.row.A-Val.Denot). state.progress.ended) c.find_clear.ensures.same in
    record {
      rest = subst (λ (state : EngineState g.row.A.Denot g.row.A-Val.Denot). RestsAt (g.A.App.meaning state.app) (next_point (g.A.App.meaning state.app) g.from g.from.text) c.act_in_turn.new.engine.progress)
          c.find_clear.ensures.same c.in_ok-cells.ensures.rest;
      some = omega (arith, c.in_ok-cells.ensures.ended, ended, ap length same, some);
      counted = omega (arith, c.in_ok-cells.ensures.ended, ended, ap length same, length-map (clear_nodes app now.nodes) (λ (node : Node). node.id), many);
    }

pub returns-in_err-cells-clause-fault : goal.returns-in_err-cells-clause-fault
returns-in_err-cells-clause-fault g c =
    let app = g.A.App.meaning c.args.engine.now.app in
    let now = c.args.engine.now.progress in
    let ids = c.deref.result.now in
    let why = c.in_err-cells.field-0.0 in
    let same : ids ≡ ids_of (clear_nodes app now.nodes) = c.deref.ensures.value ∙ c.in_ok-find_clear.ensures.ids in
    let many = c.kept_laws.ensures.acts c.args.engine.now.app g.from.start now (values_of g.from.start.cells) g.from.state g.from.text c.requires.1.1.1.1.1.1.rest in
    let all : now.ended + length ids ≡ now.ended + length (clear_tasks app g.from.state) = omega (arith, ap length same, length-map (clear_nodes app now.nodes) (λ (node : Node). node.id), many) in
    let fault = subst (λ (state : EngineState g.row.A.Denot g.row.A-Val.Denot). IsEndFault (g.A.App.meaning state.app) (next_point (g.A.App.meaning state.app) g.from g.from.text) (state.progress.ended + length ids) why)
    c.find_clear.ensures.same c.in_err-cells.ensures.fault in
    let e = err_from_is_err_and c.from_residual-in_err-cells.result c.from_residual-in_err-cells.ensures.1 in
    rw (e.1, e.2) (subst (λ ended. IsEndFault app (next_point app g.from g.from.text) ended why) all fault)
