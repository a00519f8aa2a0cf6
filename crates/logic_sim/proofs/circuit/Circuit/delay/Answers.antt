use Rattle.std.proofs.Common.{◌≡◌, ◌∙◌, ℕ, List, length, ap, sym, subst, arith}
use Rattle.std.specs.Prelude.{slice_index}
use Rattle.bench_reader.specs.Decks.{IsSoundlyWired}
use Rattle.logic_sim.specs.Event.{Simulation}
use Rattle.logic_sim.specs.Laws.{delay_listed, delays_are_counted, delays_are_short}
use Rattle.logic_sim.proofs.circuit.Circuit.delay.Goals as goal

pub bounds-items-signal : goal.bounds-items-signal
bounds-items-signal c =
    let self = c.args.self.now in
    let sound : IsSoundlyWired self.deck = subst (λ (s : Simulation). IsSoundlyWired s.deck) c.self.view_is c.self.invariant.deck_read in
    let listed : length c.items.result.now ≡ length self.deck.delays = ap length c.items.ensures ∙ ap (λ (s : Simulation). length s.deck.delays) c.self.view_is in
    omega (arith, listed, delays_are_counted self sound, c.requires.in_range)

pub returns-clause-delay : goal.returns-clause-delay
returns-clause-delay c =
    let self = c.args.self.now in
    c.from.ensures ∙ ap (λ (delays : List ℕ). slice_index delays c.args.signal) (c.items.ensures ∙ ap (λ (s : Simulation). s.deck.delays) c.self.view_is) ∙ sym (delay_listed self c.args.signal)

pub returns-clause-short : goal.returns-clause-short
returns-clause-short c =
    let self = c.args.self.now in
    let sound : IsSoundlyWired self.deck = subst (λ (s : Simulation). IsSoundlyWired s.deck) c.self.view_is c.self.invariant.deck_read in
    omega (arith, delays_are_short self c.args.signal sound c.requires.in_range, returns-clause-delay c)
