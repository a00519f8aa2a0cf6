use Rattle.std.proofs.Common.{◌+◌, ◌*◌, refl, sym, subst}
use Rattle.std.specs.Prelude.{IsSome, IsTrue}
use Rattle.std.specs.List.{AllByRecursion}
use Rattle.rw_sets.specs.Accesses.{Accesses, access_at, writes}
use Rattle.logic_sim.specs.Event.{value_place}
use Rattle.logic_sim.specs.Lawful.{eval_set-written}
use Rattle.logic_sim.specs.Wiring.{fan_in_of, signal_at}
use Rattle.logic_sim.proofs.Effects.{evaluation_made}
use Rattle.logic_sim.proofs.Sets.{fan_in_named, plan_named}
use Rattle.logic_sim.proofs.circuit.Circuit.evaluation_effect.Goals as goal

pub evaluate-requires-clause-fan_in : goal.evaluate-requires-clause-fan_in
evaluate-requires-clause-fan_in c =
    let self = c.args.self.now in
    subst (λ (set : Accesses). AllByRecursion (λ signal. IsSome (access_at set (value_place signal))) (fan_in_of (signal_at self.deck.signals c.args.gate).form)) (sym c.requires.set) (fan_in_named self c.args.gate)

pub evaluate-requires-clause-read : goal.evaluate-requires-clause-read
evaluate-requires-clause-read c = subst (λ (set : Accesses). IsSome (access_at set (2 * c.args.gate + 1))) (sym c.requires.set) (plan_named c.args.self.now c.args.gate)

pub evaluate-requires-clause-written : goal.evaluate-requires-clause-written
evaluate-requires-clause-written c = subst (λ (set : Accesses). IsTrue (writes set (2 * c.args.gate + 1))) (sym c.requires.set) (eval_set-written c.args.self.now c.args.gate)

pub returns-in-Ok-clause-effect : goal.returns-in-Ok-clause-effect
returns-in-Ok-clause-effect c =
    evaluation_made c.args.self.now (record { parts = c.location_laws.ensures.parts; values = c.value_laws.ensures.homes }) c.args.time c.args.gate _ c.args.bundle c.evaluate.new.cells c.in-Ok.children c.in-Ok.text
    c.requires.in_range refl c.in-Ok.ensures.cells c.in-Ok.ensures.children c.in-Ok.ensures.text
