use Rattle.std.proofs.Common.{◌≡◌, ◌∙◌, ◌<◌, ◌≤◌, ℕ, Bool, true, false, List, length, min, ap, sym, subst, arith, refl}
use Rattle.std.specs.Prelude.{◌&&◌, nat_le, nat_lt, slice_index}
use Rattle.std.specs.List.{AllByRecursion, list_all}
use Rattle.std.proofs.lemmas.Bool.{le-ltb, lt-ltb}
use Rattle.std.proofs.lemmas.List.Elements.{recursion_from_All}
use Rattle.task_order.specs.declared.task.Task.{Task}
use Rattle.logic_sim.specs.declared.horizon.Horizon.{Horizon}
use Rattle.logic_sim.specs.Event.{Simulation, time_of}
use Rattle.logic_sim.specs.Horizon.{IsLeast, any_near}
use Rattle.logic_sim.specs.Wiring.{readers_of}
use Rattle.logic_sim.proofs.Sets.{readers_below}
use Rattle.logic_sim.proofs.Threats.{change_told, fit_in_range, plan_is_odd, plan_told}
use Rattle.logic_sim.proofs.circuit.Circuit.is_unthreatened.Goals as goal

pub returns-then-task-ne-CHANGE : goal.returns-then-task-ne-CHANGE
returns-then-task-ne-CHANGE g c =
    let self : Simulation = c.args.self.now in
    let task : Task = c.args.task.now in
    let horizon : Horizon = c.args.horizon.now in
    let tasks : List Task = g.P.PendingTasks.tasks c.args.pending.now in
    let writers : ℕ → List Task = g.P.PendingTasks.writers c.args.pending.now in
    let time : ℕ = time_of task.key.prio in
    let below : task.body.at < length self.deck.signals = fit_in_range self task.key.prio task.body c.requires.fit in
    plan_told self horizon.near.items horizon.entries.items tasks writers c.requires.pending.deck c.requires.pending c.requires.settled task c.least_near.result c.if-task-ne-CHANGE.true
    (plan_is_odd self task.key.prio task.body c.requires.fit c.if-task-ne-CHANGE.true) below (omega arith)
    (subst (λ (signals : List ℕ). IsLeast c.least_near.result (any_near horizon.near.items signals)) c.read_by.ensures.fan_in c.least_near.ensures)

pub returns-then-next-time : goal.returns-then-next-time
returns-then-next-time g c =
    let self : Simulation = c.args.self.now in
    let task : Task = c.args.task.now in
    let horizon : Horizon = c.args.horizon.now in
    let tasks : List Task = g.P.PendingTasks.tasks c.args.pending.now in
    let writers : ℕ → List Task = g.P.PendingTasks.writers c.args.pending.now in
    let time : ℕ = time_of task.key.prio in
    let below : task.body.at < length self.deck.signals = fit_in_range self task.key.prio task.body c.requires.fit in
    let readers : AllByRecursion (λ gate. gate < length self.deck.signals) (readers_of self.deck.signals task.body.at) = recursion_from_All (λ gate. gate < length self.deck.signals) (readers_of self.deck.signals task.body.at) (readers_below self.deck.signals task.body.at) in
    let soon : nat_lt time (min c.plan_moment.result c.driven_moment.result) ≡ true = ap (nat_lt time) (sym c.min-next.ensures) ∙ lt-ltb time c.min-next.result c.if-next-time.true in
    sym (ap (λ (b : Bool). b && c.gates_come_later.result) soon)
    ∙ change_told self horizon.near.items horizon.entries.items tasks writers c.requires.pending.deck c.requires.pending c.requires.settled task c.plan_moment.result c.driven_moment.result c.gates_come_later.result c.if-task-ne-CHANGE.false
    below (omega arith) c.requires.apart.apart readers c.plan_moment.ensures c.driven_moment.ensures c.gates_come_later.ensures

pub returns-else-next-time : goal.returns-else-next-time
returns-else-next-time g c =
    let self : Simulation = c.args.self.now in
    let task : Task = c.args.task.now in
    let horizon : Horizon = c.args.horizon.now in
    let tasks : List Task = g.P.PendingTasks.tasks c.args.pending.now in
    let writers : ℕ → List Task = g.P.PendingTasks.writers c.args.pending.now in
    let time : ℕ = time_of task.key.prio in
    let below : task.body.at < length self.deck.signals = fit_in_range self task.key.prio task.body c.requires.fit in
    let readers : AllByRecursion (λ gate. gate < length self.deck.signals) (readers_of self.deck.signals task.body.at) = recursion_from_All (λ gate. gate < length self.deck.signals) (readers_of self.deck.signals task.body.at) (readers_below self.deck.signals task.body.at) in
    let gates : Bool = list_all (λ gate. nat_le time (slice_index horizon.entries.items gate)) (readers_of self.deck.signals task.body.at) in
    let late : nat_lt time c.min-next.result ≡ false = le-ltb time c.min-next.result c.if-next-time.false in
    let both : nat_lt time (min c.plan_moment.result c.driven_moment.result) ≡ false = ap (nat_lt time) (sym c.min-next.ensures) ∙ late in
    late ∙ sym (ap (λ (b : Bool). b && gates) both)
    ∙ change_told self horizon.near.items horizon.entries.items tasks writers c.requires.pending.deck c.requires.pending c.requires.settled task c.plan_moment.result c.driven_moment.result gates c.if-task-ne-CHANGE.false
    below (omega arith) c.requires.apart.apart readers c.plan_moment.ensures c.driven_moment.ensures refl
