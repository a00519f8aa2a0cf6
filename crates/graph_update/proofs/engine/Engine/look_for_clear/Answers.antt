use Rattle.std.proofs.Common.{◌≡◌, ◌≢◌, ◌∙◌, [], sym, subst}
use Rattle.std.specs.Prelude.{IfOk, IfSome}
use Rattle.graph_update.specs.Answers.{IsUpcoming}
use Rattle.graph_update.specs.Engine.{EngineState}
use Rattle.run_laws.specs.Events.{IsOfClear, clear_nodes}
use Rattle.graph_update.proofs.ClearClaims.{some_nodes}
use Rattle.graph_update.proofs.ReadyIds.{first_clear, none_clear}
use Rattle.graph_update.proofs.Sources.{kept_covered}
use Rattle.graph_update.proofs.engine.Engine.look_for_clear.Goals as goal
use Rattle.graph_update.proofs.engine.Engine.look_for_clear.Goals.{in-Some, in-None}

pub look-requires-clause-graph : goal.look-requires-clause-graph
look-requires-clause-graph g c κs within = c.self.invariant.0.sound.keys_and_counts.graph

pub look-requires-clause-covered : goal.look-requires-clause-covered
look-requires-clause-covered g c κs within = kept_covered (g.A.App.meaning c.self.inside.app.now) _ c.self.invariant.0

pub returns-clause-next : goal.returns-clause-next
returns-clause-next g c =
    let now = c.args.self.now in
    let app = g.A.App.meaning c.self.inside.app.now in
    let nodes = c.self.inside.agenda.graph in
    let same = c.self.view_is ∙ c.settle.ensures in
    let ready = c.in_ok-look.ensures.ready in
    elim c.match-first.branch [
      | in-Some w ↦
          let inside = subst (λ found. IfSome found (IsOfClear app nodes)) w.in-Some.is (first_clear app nodes c.look.new.self c.first.result ready c.first.ensures) in
          let clear = subst (λ (state : EngineState g.row.A.Denot g.row.A-Val.Denot). IsOfClear (g.A.App.meaning state.app) state.progress.nodes w.in-Some.node) same inside in
          subst (λ answer. IfOk answer (IsUpcoming (g.A.App.meaning now.app) now.progress)) (sym w.result-is) (c.requires.not_over, clear)
      | in-None w ↦
          let some = subst (λ (state : EngineState g.row.A.Denot g.row.A-Val.Denot). state.progress.nodes ≢ []) same (some_nodes nodes c.is_empty.result c.is_empty.ensures c.if-is_empty.false) in
          let inside = none_clear app nodes c.look.new.self ready c.in_ok-look.ensures.enough (sym w.in-None.is ∙ c.first.ensures) in
          let none = subst (λ (state : EngineState g.row.A.Denot g.row.A-Val.Denot). clear_nodes (g.A.App.meaning state.app) state.progress.nodes ≡ []) same inside in
          subst (λ answer. IfOk answer (IsUpcoming (g.A.App.meaning now.app) now.progress)) (sym w.result-is) (c.requires.not_over, some, none)
    ]
