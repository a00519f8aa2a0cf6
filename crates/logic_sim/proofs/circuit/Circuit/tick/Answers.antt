use Rattle.std.proofs.Common.{◌≡◌, ◌∙◌, ap, subst}
use Rattle.bench_reader.specs.Decks.{IsSoundlyWired}
use Rattle.logic_sim.specs.Event.{Simulation}
use Rattle.logic_sim.proofs.Sets.{fan_in_readable, signal_looked_up}
use Rattle.logic_sim.proofs.circuit.Circuit.tick.Goals as goal

pub computed_value-value-requires : goal.computed_value-value-requires
computed_value-value-requires g c =
    let self = c.args.self.now in
    let sound : IsSoundlyWired self.deck = subst (λ (s : Simulation). IsSoundlyWired s.deck) c.self.view_is c.self.invariant.deck_read in
    let listed : c.items.result.now ≡ self.deck.signals = c.items.ensures ∙ ap (λ (s : Simulation). s.deck.signals) c.self.view_is in
    let is = signal_looked_up self.deck.signals c.items.result.now c.args.flip_flop c.index-items-flip_flop.result c.requires.in_range listed c.index-items-flip_flop.is in
    fan_in_readable _ self c.args.flip_flop _ sound c.requires.in_range is c.requires.fan_in
