use Rattle.std.proofs.Common.{◌≡◌, List, [], IfOk, ap, subst, ◌∙◌}
use Rattle.std.proofs.lemmas.Result.{err_from_is_err_and}
use Rattle.cell_store.specs.Values.{homes}
use Rattle.graph_update.specs.Engine.{EngineState}
use Rattle.run_laws.specs.Sound.{IsSound}
use Rattle.graph_update.proofs.Ending.{ends_whole}
use Rattle.graph_update.proofs.engine.Engine.end.Goals as goal

pub returns-clause-whole : goal.returns-clause-whole
returns-clause-whole g c =
    subst (λ (state : EngineState g.row.A.Denot g.row.A-Val.Denot). (own : List g.row.A-Val.Denot) × IsSound (g.A.App.meaning state.app) state.progress [] own × (c.self.inside.store ≡ homes own)) c.self.view_is
    (ends_whole (c.basis.ensures c.self.inside.app.now) _ c.self.invariant.0.jobs c.self.invariant.0.values (ap (λ (state : EngineState g.row.A.Denot g.row.A-Val.Denot). state.progress.nodes) c.self.view_is ∙ c.requires) c.self.invariant.0.sound)

pub returns-in_err-text-clause-whole : goal.returns-in_err-text-clause-whole
returns-in_err-text-clause-whole g c =
    let left = ends_whole (c.basis.ensures c.self.inside.app.now) _ c.self.invariant.0.jobs c.self.invariant.0.values (ap (λ (state : EngineState g.row.A.Denot g.row.A-Val.Denot). state.progress.nodes) c.self.view_is ∙ c.requires) c.self.invariant.0.sound in
    let none = err_from_is_err_and c.from_residual.result c.from_residual.ensures.1 in
    subst (λ (state : EngineState g.row.A.Denot g.row.A-Val.Denot). (own : List g.row.A-Val.Denot) × IsSound (g.A.App.meaning state.app) state.progress [] own × IfOk c.from_residual.result (λ finals. finals.store ≡ homes own)) c.self.view_is
    (left.0, left.1, rw none.1 tt)
