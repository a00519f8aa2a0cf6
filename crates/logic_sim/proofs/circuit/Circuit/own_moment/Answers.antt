use Rattle.std.proofs.Common.{◌≡◌, ◌∙◌, ◌+◌, ◌*◌, ℕ, List, min, ap, sym, subst, arith}
use Rattle.task_order.specs.declared.task.Task.{Task}
use Rattle.logic_sim.specs.Event.{Simulation, delay_of, plan_place, value_place}
use Rattle.logic_sim.specs.Horizon.{IsLeast, comes_at, first_time, never}
use Rattle.logic_sim.proofs.OwnMoments.{own_moments_tell}
use Rattle.logic_sim.proofs.circuit.Circuit.own_moment.Goals as goal

pub returns : goal.returns
returns g c =
    let self : Simulation = c.args.self.now in
    let tasks : List Task = g.P.PendingTasks.tasks c.args.pending.now in
    let writers : ℕ → List Task = g.P.PendingTasks.writers c.args.pending.now in
    let plan : ℕ = min (first_time (writers (plan_place c.args.signal)) + delay_of self c.args.signal) never in
    let is : c.min.result ≡ min (first_time (writers (value_place c.args.signal))) plan =
    c.min.ensures ∙ ap (λ (n : ℕ). min n c.plan_moment.result) c.time_writing.ensures ∙ ap (λ (n : ℕ). min (first_time (writers (value_place c.args.signal))) n) c.plan_moment.ensures in
    subst (λ (n : ℕ). IsLeast n (comes_at self tasks c.args.signal)) (sym is) (own_moments_tell self tasks writers c.requires.pending c.args.signal)
