use Rattle.std.proofs.Common.{◌≡◌, ◌+◌, ◌≤◌, Some, List, length, refl, sym, ap, subst, ◌∙◌}
use Rattle.kdg_graph.specs.Edges.{laters_of}
use Rattle.kdg_graph.specs.Node.{Node}
use Rattle.kdg_graph.specs.Nodes.{HasNode, node_at, set_at}
use Rattle.graph_update.specs.Engine.{IsKept, EngineState}
use Rattle.run_laws.specs.Progress.{Progress}
use Rattle.graph_update.proofs.ClearActs.{back_of, engine_acted, engine_fault, inside_clear, is_home, is_midway, is_node, may_act, ready_midway}
use Rattle.graph_update.proofs.FixedSets.{fixed_started}
use Rattle.graph_update.proofs.TaskEnds.{dropped, not_over, stays_kept, with_cells, written_home}
use Rattle.graph_update.proofs.Touched.{told_started}
use Rattle.graph_update.proofs.engine.Engine.act.Goals as goal

pub task-task-requires : goal.task-task-requires
task-task-requires g c =
    let clear = inside_clear g.A.App.meaning _ _ c.self.view_is c.args.node c.requires.clear in
    is_node (c.basis.ensures c.self.inside.app.now) _ c.self.invariant.0 c.args.node clear

pub act_at_home-requires-clause-fit : goal.act_at_home-requires-clause-fit
act_at_home-requires-clause-fit g c κs within =
    let clear = inside_clear g.A.App.meaning _ _ c.self.view_is c.args.node c.requires.clear in
    (may_act (c.basis.ensures c.self.inside.app.now) _ c.self.invariant.0 c.args.node clear c.task-task.result.now c.task-task.ensures c.set-set.result.now c.set-set.ensures).fit

pub act_at_home-requires-clause-home : goal.act_at_home-requires-clause-home
act_at_home-requires-clause-home g c κs within =
    let clear = inside_clear g.A.App.meaning _ _ c.self.view_is c.args.node c.requires.clear in
    is_home (c.basis.ensures c.self.inside.app.now) _ c.self.invariant.0 c.args.node clear c.set-set.result.now c.set-set.ensures

pub act_at_home-requires-clause-cells : goal.act_at_home-requires-clause-cells
act_at_home-requires-clause-cells g c κs within =
    let clear = inside_clear g.A.App.meaning _ _ c.self.view_is c.args.node c.requires.clear in
    (may_act (c.basis.ensures c.self.inside.app.now) _ c.self.invariant.0 c.args.node clear c.task-task.result.now c.task-task.ensures c.set-set.result.now c.set-set.ensures).taken

pub end_within-ended-requires-clause-home : goal.end_within-ended-requires-clause-home
end_within-ended-requires-clause-home g c κs within =
    let clear = inside_clear g.A.App.meaning _ _ c.self.view_is c.args.node c.requires.clear in
    back_of (g.A.App.meaning c.self.inside.app.now) (is_midway (c.basis.ensures c.self.inside.app.now) _ c.self.invariant.0 c.args.node clear c.task-task.result.now c.task-task.ensures c.set-set.result.now c.set-set.ensures
    c.mark_running.new.self c.mark_running.ensures.marked c.in-Ok.children c.in-Ok.text c.act_at_home.new.store c.in-Ok.ensures.done)

pub end_within-ended-requires-clause-known : goal.end_within-ended-requires-clause-known
end_within-ended-requires-clause-known g c κs within =
    let clear = inside_clear g.A.App.meaning _ _ c.self.view_is c.args.node c.requires.clear in
    let nodes = c.self.inside.agenda.graph in
    record {
      clear = ready_midway (c.basis.ensures c.self.inside.app.now) _ c.self.invariant.0 c.args.node clear c.task-task.result.now c.task-task.ensures c.set-set.result.now c.set-set.ensures
          c.mark_running.new.self c.mark_running.ensures.marked c.self.inside.agenda.ready c.spend.new.self c.self.invariant.1.clear c.spend.ensures;
      fixed = fixed_started (g.A.App.meaning c.self.inside.app.now) c.args.node nodes c.mark_running.new.self c.mark_running.ensures.marked c.self.invariant.1.fixed;
      told = told_started (g.A.App.tells c.self.inside.app.now c.self.inside.agenda.horizon) (c.basis.ensures c.self.inside.app.now).lower.starts_keep_tasks c.args.node nodes
          c.mark_running.new.self c.mark_running.ensures.marked c.self.invariant.1.told;
    }

pub invariant_of-self-in-Ok-ended : goal.invariant_of-self-in-Ok-ended
invariant_of-self-in-Ok-ended g c =
    let clear = inside_clear g.A.App.meaning _ _ c.self.view_is c.args.node c.requires.clear in
    let midway = is_midway (c.basis.ensures c.self.inside.app.now) _ c.self.invariant.0 c.args.node clear c.task-task.result.now c.task-task.ensures c.set-set.result.now c.set-set.ensures
    c.mark_running.new.self c.mark_running.ensures.marked c.in-Ok.children c.in-Ok.text c.act_at_home.new.store c.in-Ok.ensures.done in
    let basis = c.end_basis.ensures c.self.inside.app.now in
    let within = not_over basis _ _ midway.is_done _ refl c.in-Ok-ended.ensures.within in
    (stays_kept basis _ _ midway.is_done within _ (c.in-Ok-ended.ensures.ended (back_of (g.A.App.meaning c.self.inside.app.now) midway)) (c.sound_finish_laws.ensures c.self.inside.app.now) c.self.invariant.0.limited, c.in-Ok-ended.ensures.known)

pub returns-in-Ok-ended-clause-acted : goal.returns-in-Ok-ended-clause-acted
returns-in-Ok-ended-clause-acted g c =
    let clear = inside_clear g.A.App.meaning _ _ c.self.view_is c.args.node c.requires.clear in
    let midway = is_midway (c.basis.ensures c.self.inside.app.now) _ c.self.invariant.0 c.args.node clear c.task-task.result.now c.task-task.ensures c.set-set.result.now c.set-set.ensures
    c.mark_running.new.self c.mark_running.ensures.marked c.in-Ok.children c.in-Ok.text c.act_at_home.new.store c.in-Ok.ensures.done in
    let within = not_over (c.end_basis.ensures c.self.inside.app.now) _ _ midway.is_done _ refl c.in-Ok-ended.ensures.within in
    engine_acted g.A.App.meaning _ _ c.self.view_is c.args.node _ (midway.acted within _ (c.in-Ok-ended.ensures.ended (back_of (g.A.App.meaning c.self.inside.app.now) midway)))

pub returns-in-Ok-ended-clause-sound : goal.returns-in-Ok-ended-clause-sound
returns-in-Ok-ended-clause-sound g c = (c.basis.ensures c.args.self.now.app).acts _ _ _ (returns-in-Ok-ended-clause-acted g c)

pub returns-in-Ok-ended-clause-steps : goal.returns-in-Ok-ended-clause-steps
returns-in-Ok-ended-clause-steps g c =
    let clear = inside_clear g.A.App.meaning _ _ c.self.view_is c.args.node c.requires.clear in
    let midway = is_midway (c.basis.ensures c.self.inside.app.now) _ c.self.invariant.0 c.args.node clear c.task-task.result.now c.task-task.ensures c.set-set.result.now c.set-set.ensures
    c.mark_running.new.self c.mark_running.ensures.marked c.in-Ok.children c.in-Ok.text c.act_at_home.new.store c.in-Ok.ensures.done in
    subst (λ (state : EngineState _ _). (of : Node) → node_at state.progress.nodes c.args.node ≡ Some of → c.end_within-ended.new.steps ≤ c.args.steps.now + length (laters_of state.progress.nodes of)) c.self.view_is
    (midway.steps c.args.steps.now c.end_within-ended.new.steps c.end_within-ended.ensures.steps)

pub set-requires : goal.set-requires
set-requires g c =
    let clear = inside_clear g.A.App.meaning _ _ c.self.view_is c.args.node c.requires.clear in
    let midway = is_midway (c.basis.ensures c.self.inside.app.now) _ c.self.invariant.0 c.args.node clear c.task-task.result.now c.task-task.ensures c.set-set.result.now c.set-set.ensures
    c.mark_running.new.self c.mark_running.ensures.marked c.in-Ok.children c.in-Ok.text c.act_at_home.new.store c.in-Ok.ensures.done in
    subst (λ (nodes : List Node). HasNode nodes c.args.node) (sym (ap (λ (progress : Progress _). progress.nodes) c.in-Err.ensures.unchanged)) midway.there

pub drop_written-requires-after_bounds : goal.drop_written-requires-after_bounds
drop_written-requires-after_bounds g c κs within =
    let clear = inside_clear g.A.App.meaning _ _ c.self.view_is c.args.node c.requires.clear in
    let midway = is_midway (c.basis.ensures c.self.inside.app.now) _ c.self.invariant.0 c.args.node clear c.task-task.result.now c.task-task.ensures c.set-set.result.now c.set-set.ensures
    c.mark_running.new.self c.mark_running.ensures.marked c.in-Ok.children c.in-Ok.text c.act_at_home.new.store c.in-Ok.ensures.done in
    let at = ap (λ (progress : Progress _). set_at progress.nodes c.args.node) (sym c.in-Err.ensures.unchanged) ∙ c.set.ensures in
    written_home (c.end_basis.ensures c.self.inside.app.now) _ _ midway.is_done c.act_at_home.new.store midway.given c.set.result.now at

pub invariant_of-self-in-Err : goal.invariant_of-self-in-Err
invariant_of-self-in-Err g c =
    let clear = inside_clear g.A.App.meaning _ _ c.self.view_is c.args.node c.requires.clear in
    let midway = is_midway (c.basis.ensures c.self.inside.app.now) _ c.self.invariant.0 c.args.node clear c.task-task.result.now c.task-task.ensures c.set-set.result.now c.set-set.ensures
    c.mark_running.new.self c.mark_running.ensures.marked c.in-Ok.children c.in-Ok.text c.act_at_home.new.store c.in-Ok.ensures.done in
    let at = ap (λ (progress : Progress _). set_at progress.nodes c.args.node) (sym c.in-Err.ensures.unchanged) ∙ c.set.ensures in
    let left = dropped (c.end_basis.ensures c.self.inside.app.now) _ _ midway.is_done c.act_at_home.new.store midway.given c.set.result.now at c.drop_written.new.self c.drop_written.ensures.taken in
    let out = ap (λ (progress : Progress _). let now : Progress _ = record progress { over = Some c.in-Err.cause } in now) (with_cells _ _ c.in-Err.ensures.unchanged _ _ left) in
    (subst (IsKept (g.A.App.meaning c.self.inside.app.now)) (sym out) (midway.kept (Some c.in-Err.cause)), c.in-Err.ensures.known)

pub returns-clause-fault : goal.returns-clause-fault
returns-clause-fault g c =
    let clear = inside_clear g.A.App.meaning _ _ c.self.view_is c.args.node c.requires.clear in
    let midway = is_midway (c.basis.ensures c.self.inside.app.now) _ c.self.invariant.0 c.args.node clear c.task-task.result.now c.task-task.ensures c.set-set.result.now c.set-set.ensures
    c.mark_running.new.self c.mark_running.ensures.marked c.in-Ok.children c.in-Ok.text c.act_at_home.new.store c.in-Ok.ensures.done in
    let at = ap (λ (progress : Progress _). set_at progress.nodes c.args.node) (sym c.in-Err.ensures.unchanged) ∙ c.set.ensures in
    let left = dropped (c.end_basis.ensures c.self.inside.app.now) _ _ midway.is_done c.act_at_home.new.store midway.given c.set.result.now at c.drop_written.new.self c.drop_written.ensures.taken in
    let out = ap (λ (progress : Progress _). let now : Progress _ = record progress { over = Some c.in-Err.cause } in now) (with_cells _ _ c.in-Err.ensures.unchanged _ _ left) in
    let free = ap (λ (state : EngineState _ _). state.progress.over) c.self.view_is ∙ c.requires.not_over in
    engine_fault g.A.App.meaning _ _ c.self.view_is c.args.node _ _ c.in-Err.cause out (midway.fault free c.in-Err.cause c.in-Err.ensures.cause)

pub returns-clause-refused_sound : goal.returns-clause-refused_sound
returns-clause-refused_sound g c = (c.basis.ensures c.args.self.now.app).faults _ _ _ c.in-Err.cause (returns-clause-fault g c)

pub returns-clause-steps : goal.returns-clause-steps
returns-clause-steps g c =
    let clear = inside_clear g.A.App.meaning _ _ c.self.view_is c.args.node c.requires.clear in
    let midway = is_midway (c.basis.ensures c.self.inside.app.now) _ c.self.invariant.0 c.args.node clear c.task-task.result.now c.task-task.ensures c.set-set.result.now c.set-set.ensures
    c.mark_running.new.self c.mark_running.ensures.marked c.in-Ok.children c.in-Ok.text c.act_at_home.new.store c.in-Ok.ensures.done in
    subst (λ (state : EngineState _ _). (of : Node) → node_at state.progress.nodes c.args.node ≡ Some of → c.end_within-ended.new.steps ≤ c.args.steps.now + length (laters_of state.progress.nodes of)) c.self.view_is
    (midway.steps c.args.steps.now c.end_within-ended.new.steps c.end_within-ended.ensures.steps)
