use Rattle.std.proofs.Common.{◌+◌, ◌*◌, refl, sym, subst}
use Rattle.std.specs.Prelude.{IsSome, IsTrue}
use Rattle.std.specs.List.{AllByRecursion}
use Rattle.rw_sets.specs.Accesses.{Accesses, access_at, writes}
use Rattle.logic_sim.specs.Event.{value_place}
use Rattle.logic_sim.specs.Lawful.{eval_set-written}
use Rattle.logic_sim.specs.Wiring.{fan_in_of, signal_at}
use Rattle.logic_sim.proofs.Effects.{tick_made}
use Rattle.logic_sim.proofs.Sets.{fan_in_named, plan_named}
use Rattle.logic_sim.proofs.circuit.Circuit.tick_effect.Goals as goal

pub tick-requires-clause-fan_in : goal.tick-requires-clause-fan_in
tick-requires-clause-fan_in c =
    let self = c.args.self.now in
    subst (λ (set : Accesses). AllByRecursion (λ signal. IsSome (access_at set (value_place signal))) (fan_in_of (signal_at self.deck.signals c.args.flip_flop).form)) (sym c.requires.set) (fan_in_named self c.args.flip_flop)

pub tick-requires-clause-read : goal.tick-requires-clause-read
tick-requires-clause-read c = subst (λ (set : Accesses). IsSome (access_at set (2 * c.args.flip_flop + 1))) (sym c.requires.set) (plan_named c.args.self.now c.args.flip_flop)

pub tick-requires-clause-written : goal.tick-requires-clause-written
tick-requires-clause-written c = subst (λ (set : Accesses). IsTrue (writes set (2 * c.args.flip_flop + 1))) (sym c.requires.set) (eval_set-written c.args.self.now c.args.flip_flop)

pub returns-in-Ok-clause-effect : goal.returns-in-Ok-clause-effect
returns-in-Ok-clause-effect c =
    tick_made c.args.self.now (record { parts = c.location_laws.ensures.parts; values = c.value_laws.ensures.homes }) c.args.time c.args.flip_flop _ c.args.bundle c.tick.new.cells c.in-Ok.children c.in-Ok.text
    c.requires.in_range refl c.in-Ok.ensures.cells c.in-Ok.ensures.children c.in-Ok.ensures.text
