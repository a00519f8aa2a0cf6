use Rattle.std.proofs.Common.{◌≡◌, ◌∙◌, ◌<◌, All, List, ℕ, [], length, ap, sym, subst, arith}
use Rattle.std.proofs.lemmas.List.{get_or_read}
use Rattle.logic_sim.specs.Event.{Simulation}
use Rattle.logic_sim.specs.Wiring.{readers_of}
use Rattle.logic_sim.proofs.Sets.{readers_below, readers_few}
use Rattle.logic_sim.proofs.circuit.Circuit.gates_reading.Goals as goal

pub returns-clause-all : goal.returns-clause-all
returns-clause-all c =
    let signals = c.self.inside.deck.signals in
    let same : length signals ≡ length c.args.self.now.deck.signals = ap (λ (s : Simulation). length s.deck.signals) c.self.view_is in
    let below : c.args.signal < length signals = omega (arith, same, c.requires) in
    let listed : c.args.signal < length c.self.inside.readers.items = omega (arith, below, c.self.invariant.all_readers.count) in
    let all : c.items.result.now ≡ readers_of signals c.args.signal =
    c.items.ensures ∙ get_or_read c.self.inside.readers.items c.args.signal c.index.result.now listed c.index.ensures [] ∙ c.self.invariant.all_readers.each c.args.signal below in
    all ∙ ap (λ (s : Simulation). readers_of s.deck.signals c.args.signal) c.self.view_is

pub returns-clause-few : goal.returns-clause-few
returns-clause-few c =
    let signals = c.self.inside.deck.signals in
    let all = returns-clause-all c in
    let few = readers_few c.args.self.now.deck.signals c.args.signal in
    let same : length signals ≡ length c.args.self.now.deck.signals = ap (λ (s : Simulation). length s.deck.signals) c.self.view_is in
    omega (arith, ap length all, few, same, c.self.invariant.deck_read.signal_count)

pub returns-clause-in_range : goal.returns-clause-in_range
returns-clause-in_range c =
    let signals = c.args.self.now.deck.signals in
    subst (λ (gates : List ℕ). All (λ gate. gate < length signals) gates) (sym (returns-clause-all c)) (readers_below signals c.args.signal)
