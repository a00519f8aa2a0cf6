use Rattle.std.proofs.Common.{◌≡◌, ℕ, ◌+◌, ◌≤◌, ◌∙◌, Some, length, sym, ap, subst}
use Rattle.std.specs.Option.{option_or}
use Rattle.task_order.specs.declared.task.Task.{Task}
use Rattle.crew.specs.declared.answers.OverCause.TheVariants as cause
use Rattle.run_laws.specs.Jobs.{Done}
use Rattle.graph_update.specs.Engine.{FinishStaysSound, IsOneStepEach, EngineState}
use Rattle.run_laws.specs.Laws.{IsDone}
use Rattle.run_laws.specs.Events.{IsFinished}
use Rattle.graph_update.proofs.NodeTasks.{own_task, same_done}
use Rattle.graph_update.proofs.TaskEnds.{over_sound}
use Rattle.graph_update.proofs.engine.Engine.finish.Goals as goal

pub returns-then-created-limit-clause-refused_sound : goal.returns-then-created-limit-clause-refused_sound
returns-then-created-limit-clause-refused_sound g c =
    let many : c.created-created.result ≡ c.self.inside.tally.ended + length c.self.inside.agenda.graph + length c.args.done.effect.children =
    c.created-created.ensures ∙ ap (λ (nodes : ℕ). c.self.inside.tally.ended + nodes + length c.items.result.now) c.len-pending.ensures.len
    ∙ ap (λ (children : _). c.self.inside.tally.ended + length c.self.inside.agenda.graph + length children) c.items.ensures.all in
    over_sound g.A.App.meaning _ _ c.args.done c.self.view_is (c.drain_laws.ensures.sound c.args.self.now.app) c.or-self-inside.result
    (c.or-self-inside.ensures ∙ ap (λ (created : ℕ). option_or c.self.inside.tally.over (Some (cause.Budget created c.self.inside.tally.limit))) many)

pub end_running-requires : goal.end_running-requires
end_running-requires g c κs within =
    let is = subst (λ (done : Done _). IsDone (g.A.App.meaning c.args.self.now.app) c.args.self.now.progress done) (sym (same_done c.args.self.now.progress c.args.done c.requires)) c.requires in
    let many : c.created-created.result ≡ c.self.inside.tally.ended + length c.self.inside.agenda.graph + length c.args.done.effect.children =
    c.created-created.ensures ∙ ap (λ (nodes : ℕ). c.self.inside.tally.ended + nodes + length c.items.result.now) c.len-pending.ensures.len
    ∙ ap (λ (children : _). c.self.inside.tally.ended + length c.self.inside.agenda.graph + length children) c.items.ensures.all in
    let few = subst (λ (engine : EngineState _ _). engine.progress.created + length c.args.done.effect.children ≤ engine.progress.limit) c.self.view_is
    (subst (λ (created : ℕ). created ≤ c.self.inside.tally.limit) many c.if-created-limit.false) in
    (within.0, (within.1.0, (within.1.1.0, (within.1.1.1, (c.type_bounds.send-A-Val, (c.type_bounds.send-A-Horizon, (is, few)))))))

pub returns-in-Ok-clause-finished : goal.returns-in-Ok-clause-finished
returns-in-Ok-clause-finished g c =
    subst (λ (done : Done _). IsFinished (g.A.App.meaning c.args.self.now.app) c.args.self.now.progress done c.end_running.new.self.progress) (same_done c.args.self.now.progress c.args.done c.requires) c.in-Ok.ensures.finished

pub returns-in-Ok-clause-sound : goal.returns-in-Ok-clause-sound
returns-in-Ok-clause-sound g c =
    subst (λ (done : Done _). FinishStaysSound (g.A.App.meaning c.args.self.now.app) c.args.self.now.progress done c.end_running.new.self.progress) (same_done c.args.self.now.progress c.args.done c.requires) c.in-Ok.ensures.sound

pub returns-in-Ok-clause-steps : goal.returns-in-Ok-clause-steps
returns-in-Ok-clause-steps g c =
    subst (λ (task : Task). IsOneStepEach c.args.self.now.progress.nodes task.key c.args.steps.now c.end_running.new.steps) (own_task c.args.self.now.progress c.args.done c.requires) c.in-Ok.ensures.steps

pub returns-in-Err-clause-steps : goal.returns-in-Err-clause-steps
returns-in-Err-clause-steps g c =
    subst (λ (task : Task). IsOneStepEach c.args.self.now.progress.nodes task.key c.args.steps.now c.end_running.new.steps) (own_task c.args.self.now.progress c.args.done c.requires) c.in-Err.ensures.steps
