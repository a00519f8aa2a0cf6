use Rattle.std.proofs.Common.{◌≡◌, ◌<◌, ℕ, Bool, true, false, List, get_or, length, set, subst}
use Rattle.std.specs.List.{All}
use Rattle.logic_sim.specs.Horizon.{FallsBelow}
use Rattle.logic_sim.proofs.Refreshing.{all_settled, less_left}
use Rattle.logic_sim.proofs.circuit.Circuit.settle_next.Goals as goal

pub returns-in-Some-clause-less : goal.returns-in-Some-clause-less
returns-in-Some-clause-less g c = λ falling told.
    let near : List ℕ = c.args.horizon.now.near.items in
    let stale : List Bool = c.args.horizon.now.stale in
    let taken : (c.in-Some.signal < length stale) × (get_or stale c.in-Some.signal false ≡ true) × (c.take.new.self ≡ set stale c.in-Some.signal false) = c.in-Some.ensures in
    less_left near stale c.in-Some.signal c.refresh.new.horizon.near.items c.refresh.new.horizon.stale taken.0 taken.1
    (subst (λ (waits : List Bool). FallsBelow near waits c.refresh.new.horizon.near.items c.refresh.new.horizon.stale) taken.2 (c.refresh.ensures.less falling))

pub returns-in-None-clause-settled : goal.returns-in-None-clause-settled
returns-in-None-clause-settled g c = λ told.
    let stale : List Bool = c.args.horizon.now.stale in
    let none : All (λ waits. waits ≡ false) stale × (c.take.new.self ≡ stale) = c.in-None.ensures in
    all_settled c.args.self.now c.args.horizon.now.near.items c.args.horizon.now.entries.items stale (g.P.PendingTasks.tasks c.args.pending.now) c.requires.told none.0
