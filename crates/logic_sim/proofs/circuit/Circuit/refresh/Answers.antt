use Rattle.std.proofs.Common.{◌≡◌, ◌≢◌, ◌∙◌, ◌-◌, ◌≤◌, ℕ, Bool, List, get_or, min, ap, sym, subst, arith}
use Rattle.std.specs.Prelude.{◌||◌, nat_lt}
use Rattle.std.proofs.lemmas.List.{get_or_read}
use Rattle.task_order.specs.declared.task.Task.{Task}
use Rattle.logic_sim.specs.declared.horizon.Horizon.{Horizon}
use Rattle.logic_sim.specs.Distance.{drivers_of}
use Rattle.logic_sim.specs.Event.{Simulation, delay_of}
use Rattle.logic_sim.specs.Horizon.{IsLeast, any_near, comes_at, never}
use Rattle.logic_sim.specs.Queue.{AreAdded}
use Rattle.logic_sim.specs.Wiring.{readers_of}
use Rattle.logic_sim.proofs.Refreshing.{falling_still, falls_below, kept_as_is, kept_with_readers, time_told}
use Rattle.logic_sim.proofs.circuit.Circuit.refresh.Goals as goal

pub returns-then-near-index-clause-told : goal.returns-then-near-index-clause-told
returns-then-near-index-clause-told g c =
    let self : Simulation = c.args.self.now in
    let horizon : Horizon = c.args.horizon.now in
    let near : List ℕ = horizon.near.items in
    let tasks : List Task = g.P.PendingTasks.tasks c.args.pending.now in
    let entry : ℕ = c.least_near-entry.result in
    let value : ℕ = c.min-near.result in
    let entry-is : IsLeast entry (any_near near (drivers_of self c.args.signal)) = subst (λ (signals : List ℕ). IsLeast entry (any_near near signals)) c.drivers.ensures.drivers c.least_near-entry.ensures in
    let value-is : IsLeast value (λ limit. comes_at self tasks c.args.signal limit || nat_lt entry (limit - delay_of self c.args.signal)) =
    time_told self tasks c.args.signal entry c.own_moment.result c.delay.result value c.own_moment.ensures c.delay.ensures.delay
    (c.min-near.ensures ∙ ap (λ (n : ℕ). min c.own_moment.result n) c.saturating_add-delayed.ensures) in
    let added : AreAdded horizon.stale (readers_of self.deck.signals c.args.signal) c.put_each.new.self =
    subst (λ (signals : List ℕ). AreAdded horizon.stale signals c.put_each.new.self) c.gates_reading.ensures.all c.put_each.ensures in
    kept_with_readers self near horizon.entries.items horizon.stale tasks c.args.signal entry value c.requires.in_range c.requires.told entry-is value-is c.put_each.new.self added

pub returns-then-near-index-clause-falling : goal.returns-then-near-index-clause-falling
returns-then-near-index-clause-falling g c = λ falling.
    let self : Simulation = c.args.self.now in
    let horizon : Horizon = c.args.horizon.now in
    let near : List ℕ = horizon.near.items in
    let tasks : List Task = g.P.PendingTasks.tasks c.args.pending.now in
    let entry : ℕ = c.least_near-entry.result in
    let value : ℕ = c.min-near.result in
    let entry-is : IsLeast entry (any_near near (drivers_of self c.args.signal)) = subst (λ (signals : List ℕ). IsLeast entry (any_near near signals)) c.drivers.ensures.drivers c.least_near-entry.ensures in
    let value-is : IsLeast value (λ limit. comes_at self tasks c.args.signal limit || nat_lt entry (limit - delay_of self c.args.signal)) =
    time_told self tasks c.args.signal entry c.own_moment.result c.delay.result value c.own_moment.ensures c.delay.ensures.delay
    (c.min-near.ensures ∙ ap (λ (n : ℕ). min c.own_moment.result n) c.saturating_add-delayed.ensures) in
    falling_still self near horizon.entries.items horizon.stale tasks c.args.signal entry value c.requires.in_range c.requires.told entry-is value-is falling (omega (arith, c.min-near.type_inv))

pub returns-then-near-index-clause-less : goal.returns-then-near-index-clause-less
returns-then-near-index-clause-less g c = λ falling.
    let self : Simulation = c.args.self.now in
    let horizon : Horizon = c.args.horizon.now in
    let near : List ℕ = horizon.near.items in
    let tasks : List Task = g.P.PendingTasks.tasks c.args.pending.now in
    let entry : ℕ = c.least_near-entry.result in
    let value : ℕ = c.min-near.result in
    let entry-is : IsLeast entry (any_near near (drivers_of self c.args.signal)) = subst (λ (signals : List ℕ). IsLeast entry (any_near near signals)) c.drivers.ensures.drivers c.least_near-entry.ensures in
    let value-is : IsLeast value (λ limit. comes_at self tasks c.args.signal limit || nat_lt entry (limit - delay_of self c.args.signal)) =
    time_told self tasks c.args.signal entry c.own_moment.result c.delay.result value c.own_moment.ensures c.delay.ensures.delay
    (c.min-near.ensures ∙ ap (λ (n : ℕ). min c.own_moment.result n) c.saturating_add-delayed.ensures) in
    let added : AreAdded horizon.stale (readers_of self.deck.signals c.args.signal) c.put_each.new.self =
    subst (λ (signals : List ℕ). AreAdded horizon.stale signals c.put_each.new.self) c.gates_reading.ensures.all c.put_each.ensures in
    let was : c.index.result.now ≡ get_or near c.args.signal 0 = get_or_read near c.args.signal c.index.result.now (omega (arith, c.requires.in_range, c.requires.told.near_count)) c.index.ensures 0 in
    falls_below self near horizon.entries.items horizon.stale tasks c.args.signal entry value c.requires.in_range c.requires.told entry-is value-is c.put_each.new.self added falling (omega (arith, c.min-near.type_inv))
    (λ same. c.if-near-index.true (same ∙ sym was))

pub returns-else-near-index-clause-told : goal.returns-else-near-index-clause-told
returns-else-near-index-clause-told g c =
    let self : Simulation = c.args.self.now in
    let horizon : Horizon = c.args.horizon.now in
    let near : List ℕ = horizon.near.items in
    let tasks : List Task = g.P.PendingTasks.tasks c.args.pending.now in
    let entry : ℕ = c.least_near-entry.result in
    let value : ℕ = c.min-near.result in
    let entry-is : IsLeast entry (any_near near (drivers_of self c.args.signal)) = subst (λ (signals : List ℕ). IsLeast entry (any_near near signals)) c.drivers.ensures.drivers c.least_near-entry.ensures in
    let value-is : IsLeast value (λ limit. comes_at self tasks c.args.signal limit || nat_lt entry (limit - delay_of self c.args.signal)) =
    time_told self tasks c.args.signal entry c.own_moment.result c.delay.result value c.own_moment.ensures c.delay.ensures.delay
    (c.min-near.ensures ∙ ap (λ (n : ℕ). min c.own_moment.result n) c.saturating_add-delayed.ensures) in
    let was : c.index.result.now ≡ get_or near c.args.signal 0 = get_or_read near c.args.signal c.index.result.now (omega (arith, c.requires.in_range, c.requires.told.near_count)) c.index.ensures 0 in
    kept_as_is self near horizon.entries.items horizon.stale tasks c.args.signal entry value c.requires.in_range c.requires.told entry-is value-is (c.if-near-index.false ∙ was)
