use Rattle.std.proofs.Common.{◌+◌, ◌≤◌, ◌∙◌, length, refl, sym, ap, subst}
use Rattle.run_laws.specs.Jobs.{Done}
use Rattle.graph_update.specs.Engine.{IsKept, IsOneStepEach, EngineState}
use Rattle.run_laws.specs.Progress.{Progress}
use Rattle.graph_update.proofs.TaskEnds.{bundle_back, cells_back, effect_back, engine_finished, engine_sound, inside_done, known, node_is, not_over, stays_kept, stays_sound, step_each, with_cells}
use Rattle.graph_update.proofs.engine.Engine.end_running.Goals as goal

pub give-shell-requires-after_bounds : goal.give-shell-requires-after_bounds
give-shell-requires-after_bounds g c κs within =
    let done : Done _ = record { node = c.args.node; task = g.task; effect = c.args.effect } in
    let is = inside_done g.A.App.meaning _ _ done c.self.view_is c.requires.1.1.1.1.1.1.0 in
    (known (c.end_basis.ensures c.self.inside.app.now) _ done is).out

pub end_at_home-ended-requires-clause-home : goal.end_at_home-ended-requires-clause-home
end_at_home-ended-requires-clause-home g c κs within =
    let done : Done _ = record { node = c.args.node; task = g.task; effect = c.args.effect } in
    record {
      away = c.self.inside.store;
      task = g.task;
      bundle = c.args.effect.bundle;
      is_done = inside_done g.A.App.meaning _ _ done c.self.view_is c.requires.1.1.1.1.1.1.0;
      given = c.give-shell.ensures.given;
    }

pub end_at_home-ended-requires-clause-within : goal.end_at_home-ended-requires-clause-within
end_at_home-ended-requires-clause-within g c κs within =
    subst (λ (engine : EngineState _ _). engine.progress.created + length c.args.effect.children ≤ engine.progress.limit) (sym c.self.view_is) c.requires.1.1.1.1.1.1.1

pub invariant_of-self : goal.invariant_of-self
invariant_of-self g c =
    let done : Done _ = record { node = c.args.node; task = g.task; effect = c.args.effect } in
    let is = inside_done g.A.App.meaning _ _ done c.self.view_is c.requires.1.1.1.1.1.1.0 in
    let basis = c.end_basis.ensures c.self.inside.app.now in
    let within = not_over basis _ done is _ refl (subst (λ (engine : EngineState _ _). engine.progress.created + length c.args.effect.children ≤ engine.progress.limit) (sym c.self.view_is) c.requires.1.1.1.1.1.1.1) in
    let finished = c.in-Ok.ensures.ended (record { away = c.self.inside.store; task = g.task; bundle = c.args.effect.bundle; is_done = is; given = c.give-shell.ensures.given }) in
    (stays_kept basis _ done is within _ finished (c.sound_finish_laws.ensures c.self.inside.app.now) c.self.invariant.0.limited, c.in-Ok.ensures.known)

pub invariant_of-self-in-Err : goal.invariant_of-self-in-Err
invariant_of-self-in-Err g c =
    let done : Done _ = record { node = c.args.node; task = g.task; effect = c.args.effect } in
    let is = inside_done g.A.App.meaning _ _ done c.self.view_is c.requires.1.1.1.1.1.1.0 in
    let basis = c.end_basis.ensures c.self.inside.app.now in
    let cells_are = cells_back c.self.inside.store c.give-shell.new.self c.args.effect.bundle c.give-shell.result (known basis _ done is).out c.give-shell.ensures.given c.give-shell.ensures.shell basis.lower.takes_back c.regain-bundle.new.store c.regain-bundle.ensures.taken in
    let back = with_cells _ _ c.in-Err.ensures.unchanged c.regain-bundle.new.store c.self.inside.store cells_are in
    (subst (IsKept (g.A.App.meaning c.self.inside.app.now)) (sym back) c.self.invariant.0, c.in-Err.ensures.known)

pub returns-in-Ok-clause-finished : goal.returns-in-Ok-clause-finished
returns-in-Ok-clause-finished g c =
    let done : Done _ = record { node = c.args.node; task = g.task; effect = c.args.effect } in
    let is = inside_done g.A.App.meaning _ _ done c.self.view_is c.requires.1.1.1.1.1.1.0 in
    engine_finished g.A.App.meaning _ _ done c.self.view_is _
    (c.in-Ok.ensures.ended (record { away = c.self.inside.store; task = g.task; bundle = c.args.effect.bundle; is_done = is; given = c.give-shell.ensures.given }))

pub returns-in-Ok-clause-sound : goal.returns-in-Ok-clause-sound
returns-in-Ok-clause-sound g c =
    let done : Done _ = record { node = c.args.node; task = g.task; effect = c.args.effect } in
    let is = inside_done g.A.App.meaning _ _ done c.self.view_is c.requires.1.1.1.1.1.1.0 in
    let basis = c.end_basis.ensures c.self.inside.app.now in
    let within = not_over basis _ done is _ refl (subst (λ (engine : EngineState _ _). engine.progress.created + length c.args.effect.children ≤ engine.progress.limit) (sym c.self.view_is) c.requires.1.1.1.1.1.1.1) in
    let finished = c.in-Ok.ensures.ended (record { away = c.self.inside.store; task = g.task; bundle = c.args.effect.bundle; is_done = is; given = c.give-shell.ensures.given }) in
    engine_sound g.A.App.meaning _ _ done c.self.view_is _ (stays_sound basis _ done is within _ finished (c.sound_finish_laws.ensures c.self.inside.app.now))

pub returns-in-Ok-clause-steps : goal.returns-in-Ok-clause-steps
returns-in-Ok-clause-steps g c =
    let done : Done _ = record { node = c.args.node; task = g.task; effect = c.args.effect } in
    let is = inside_done g.A.App.meaning _ _ done c.self.view_is c.requires.1.1.1.1.1.1.0 in
    let basis = c.end_basis.ensures c.self.inside.app.now in
    subst (λ (engine : EngineState _ _). IsOneStepEach engine.progress.nodes g.task.key c.args.steps.now c.end_at_home-ended.new.steps) c.self.view_is
    (step_each basis _ done is c.args.node (node_is basis _ done is) c.args.steps.now c.end_at_home-ended.new.steps c.in-Ok.ensures.steps)

pub returns-in-Err-clause-steps : goal.returns-in-Err-clause-steps
returns-in-Err-clause-steps g c =
    let done : Done _ = record { node = c.args.node; task = g.task; effect = c.args.effect } in
    let is = inside_done g.A.App.meaning _ _ done c.self.view_is c.requires.1.1.1.1.1.1.0 in
    let basis = c.end_basis.ensures c.self.inside.app.now in
    subst (λ (engine : EngineState _ _). IsOneStepEach engine.progress.nodes g.task.key c.args.steps.now c.end_at_home-ended.new.steps) c.self.view_is
    (step_each basis _ done is c.args.node (node_is basis _ done is) c.args.steps.now c.end_at_home-ended.new.steps c.in-Err.ensures.steps)

pub returns-in-Err-clause-returned : goal.returns-in-Err-clause-returned
returns-in-Err-clause-returned g c =
    let done : Done _ = record { node = c.args.node; task = g.task; effect = c.args.effect } in
    let is = inside_done g.A.App.meaning _ _ done c.self.view_is c.requires.1.1.1.1.1.1.0 in
    let basis = c.end_basis.ensures c.self.inside.app.now in
    effect_back c.args.effect c.regain-bundle.result c.in-Err.text
    (bundle_back c.self.inside.store c.give-shell.new.self c.args.effect.bundle c.give-shell.result (known basis _ done is).out c.give-shell.ensures.given c.give-shell.ensures.shell basis.lower.regains c.give-shell.ensures.whole c.regain-bundle.result c.regain-bundle.ensures.bundle)
    c.in-Err.ensures.returned

pub returns-in-Err-clause-unchanged : goal.returns-in-Err-clause-unchanged
returns-in-Err-clause-unchanged g c =
    let done : Done _ = record { node = c.args.node; task = g.task; effect = c.args.effect } in
    let is = inside_done g.A.App.meaning _ _ done c.self.view_is c.requires.1.1.1.1.1.1.0 in
    let basis = c.end_basis.ensures c.self.inside.app.now in
    let cells_are = cells_back c.self.inside.store c.give-shell.new.self c.args.effect.bundle c.give-shell.result (known basis _ done is).out c.give-shell.ensures.given c.give-shell.ensures.shell basis.lower.takes_back c.regain-bundle.new.store c.regain-bundle.ensures.taken in
    let back = with_cells _ _ c.in-Err.ensures.unchanged c.regain-bundle.new.store c.self.inside.store cells_are in
    ap (λ (progress : Progress _). let engine : EngineState _ _ = record { app = c.self.inside.app.now; progress = progress } in engine) back ∙ c.self.view_is
