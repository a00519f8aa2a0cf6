use Rattle.std.proofs.Common.{[], length, sym, ap, subst, ◌∙◌, arith}
use Rattle.kdg_graph.specs.Nodes.{tasks_of}
use Rattle.graph_update.specs.Engine.{EngineState}
use Rattle.run_laws.specs.Rest.{NoneRuns}
use Rattle.graph_update.proofs.ReadyIds.{some_are_ready}
use Rattle.graph_update.proofs.Renamed.{engine_renamed, engine_stays_sound, is_renamed, own_few, own_fit, own_home, own_many, own_names, own_sound, stays_fixed, stays_kept}
use Rattle.graph_update.proofs.engine.Engine.renamed.Goals as goal

pub put_first-requires-clause-home : goal.put_first-requires-clause-home
put_first-requires-clause-home g c κs within =
    let idle = subst (λ (engine : EngineState _ _). NoneRuns engine.progress.nodes) (sym c.self.view_is) c.requires.idle in
    own_home (c.basis.ensures c.self.inside.app.now) _ c.self.invariant.0 idle

pub put_first-requires-clause-fit_cells : goal.put_first-requires-clause-fit_cells
put_first-requires-clause-fit_cells g c κs within =
    let idle = subst (λ (engine : EngineState _ _). NoneRuns engine.progress.nodes) (sym c.self.view_is) c.requires.idle in
    (own_sound (c.basis.ensures c.self.inside.app.now) _ c.self.invariant.0 idle).ready.cells

pub put_first-requires-clause-fit_first : goal.put_first-requires-clause-fit_first
put_first-requires-clause-fit_first g c κs within =
    let idle = subst (λ (engine : EngineState _ _). NoneRuns engine.progress.nodes) (sym c.self.view_is) c.requires.idle in
    own_fit (c.basis.ensures c.self.inside.app.now) _ c.self.invariant.0 idle c.in_ok-tasks.tasks.items c.in_ok-first.first.items c.deref.result.now
    c.in_ok-tasks.ensures.tasks c.in_ok-first.ensures c.deref.ensures.value

pub put_first-requires-clause-few : goal.put_first-requires-clause-few
put_first-requires-clause-few g c κs within =
    let idle = subst (λ (engine : EngineState _ _). NoneRuns engine.progress.nodes) (sym c.self.view_is) c.requires.idle in
    own_few (c.basis.ensures c.self.inside.app.now) _ c.self.invariant.0 idle c.in_ok-tasks.tasks.items c.in_ok-first.first.items c.deref.result.now
    c.in_ok-tasks.ensures.tasks c.in_ok-first.ensures c.deref.ensures.value

pub returns-in_err-graph-clause-steps : goal.returns-in_err-graph-clause-steps
returns-in_err-graph-clause-steps g c =
    let idle = subst (λ (engine : EngineState _ _). NoneRuns engine.progress.nodes) (sym c.self.view_is) c.requires.idle in
    let many = own_many (c.basis.ensures c.self.inside.app.now) _ c.self.invariant.0 idle c.in_ok-tasks.tasks.items c.in_ok-first.first.items c.deref.result.now
    c.in_ok-tasks.ensures.tasks c.in_ok-first.ensures c.deref.ensures.value in
    omega (arith, many, ap (λ (engine : EngineState _ _). length engine.progress.nodes) c.self.view_is, c.put_first.ensures.steps)

pub returns-in_err-horizon-clause-steps : goal.returns-in_err-horizon-clause-steps
returns-in_err-horizon-clause-steps g c =
    let idle = subst (λ (engine : EngineState _ _). NoneRuns engine.progress.nodes) (sym c.self.view_is) c.requires.idle in
    let many = own_many (c.basis.ensures c.self.inside.app.now) _ c.self.invariant.0 idle c.in_ok-tasks.tasks.items c.in_ok-first.first.items c.deref.result.now
    c.in_ok-tasks.ensures.tasks c.in_ok-first.ensures c.deref.ensures.value in
    omega (arith, many, ap (λ (engine : EngineState _ _). length engine.progress.nodes) c.self.view_is, c.put_first.ensures.steps)

pub invariant_of-result : goal.invariant_of-result
invariant_of-result g c =
    let app = g.A.App.meaning c.self.inside.app.now in
    let idle = subst (λ (engine : EngineState _ _). NoneRuns engine.progress.nodes) (sym c.self.view_is) c.requires.idle in
    let names = own_names (c.basis.ensures c.self.inside.app.now) _ c.self.invariant.0 idle c.in_ok-tasks.tasks.items c.in_ok-first.first.items c.deref.result.now
    c.in_ok-tasks.ensures.tasks c.in_ok-first.ensures c.deref.ensures.value c.naming_laws.ensures in (
      stays_kept (c.basis.ensures c.self.inside.app.now) _ c.self.invariant.0 idle c.in_ok-tasks.tasks.items c.in_ok-first.first.items c.deref.result.now
          c.in_ok-tasks.ensures.tasks c.in_ok-first.ensures c.deref.ensures.value c.in_ok-graph.graph c.new.result.entries c.in_ok-graph.ensures.nodes c.new.ensures
          (c.renaming_laws.ensures.sound c.self.inside.app.now),
      record {
        clear = some_are_ready app c.in_ok-graph.graph c.forget.new.self [] c.forget.ensures.ids c.forget.ensures.current tt tt;
        fixed = stays_fixed (c.basis.ensures c.self.inside.app.now) _ c.self.invariant.0 idle c.in_ok-tasks.tasks.items c.in_ok-first.first.items c.deref.result.now
            c.in_ok-tasks.ensures.tasks c.in_ok-first.ensures c.deref.ensures.value c.in_ok-graph.graph c.new.result.entries c.in_ok-graph.ensures.nodes c.new.ensures
            (c.renaming_laws.ensures.sound c.self.inside.app.now);
        told = subst (g.A.App.tells c.self.inside.app.now c.in_ok-horizon.horizon) (names.are_first ∙ sym c.in_ok-graph.ensures.nodes.tasks)
            (c.in_ok-horizon.ensures (tasks_of c.self.inside.agenda.graph) names.name names.has_name names.naming names.have_names c.self.invariant.1.told);
      },
    )

pub returns-clause-renamed : goal.returns-clause-renamed
returns-clause-renamed g c =
    let idle = subst (λ (engine : EngineState _ _). NoneRuns engine.progress.nodes) (sym c.self.view_is) c.requires.idle in
    let is = is_renamed (c.basis.ensures c.self.inside.app.now) _ c.self.invariant.0 idle c.in_ok-tasks.tasks.items c.in_ok-first.first.items c.deref.result.now
    c.in_ok-tasks.ensures.tasks c.in_ok-first.ensures c.deref.ensures.value c.in_ok-graph.graph c.new.result.entries c.in_ok-graph.ensures.nodes c.new.ensures in
    engine_renamed g.A.App.meaning _ _ _ c.self.view_is is

pub returns-clause-sound : goal.returns-clause-sound
returns-clause-sound g c =
    let idle = subst (λ (engine : EngineState _ _). NoneRuns engine.progress.nodes) (sym c.self.view_is) c.requires.idle in
    let is = is_renamed (c.basis.ensures c.self.inside.app.now) _ c.self.invariant.0 idle c.in_ok-tasks.tasks.items c.in_ok-first.first.items c.deref.result.now
    c.in_ok-tasks.ensures.tasks c.in_ok-first.ensures c.deref.ensures.value c.in_ok-graph.graph c.new.result.entries c.in_ok-graph.ensures.nodes c.new.ensures in
    engine_stays_sound g.A.App.meaning c.self.inside.app.now _ _ c.args.self c.self.view_is (λ values sound. c.renaming_laws.ensures.sound c.self.inside.app.now _ _ values sound is)

pub returns-clause-steps : goal.returns-clause-steps
returns-clause-steps g c =
    let idle = subst (λ (engine : EngineState _ _). NoneRuns engine.progress.nodes) (sym c.self.view_is) c.requires.idle in
    let many = own_many (c.basis.ensures c.self.inside.app.now) _ c.self.invariant.0 idle c.in_ok-tasks.tasks.items c.in_ok-first.first.items c.deref.result.now
    c.in_ok-tasks.ensures.tasks c.in_ok-first.ensures c.deref.ensures.value in
    omega (arith, many, ap (λ (engine : EngineState _ _). length engine.progress.nodes) c.self.view_is, c.put_first.ensures.steps)
