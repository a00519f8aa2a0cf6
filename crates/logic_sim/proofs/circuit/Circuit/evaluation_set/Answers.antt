use Rattle.std.proofs.Common.{◌≡◌, ◌∙◌, ◌<◌, length, IfOk, ap, subst, arith}
use Rattle.rw_sets.specs.Accesses.{Accesses}
use Rattle.logic_sim.specs.Event.{Simulation}
use Rattle.logic_sim.specs.Meaning.{eval_set}
use Rattle.logic_sim.proofs.Sets.{sets_counted, set_listed}
use Rattle.logic_sim.proofs.circuit.Circuit.evaluation_set.Goals as goal

pub index-requires : goal.index-requires
index-requires c =
    let same : length c.self.inside.deck.signals ≡ length c.args.self.now.deck.signals = ap (λ (s : Simulation). length s.deck.signals) c.self.view_is in
    let count = sets_counted c.self.inside.deck.signals c.self.inside.sets.items c.self.invariant.all_sets in
    omega (arith, same, count, c.self.inside.sets.ok.0, c.requires)

pub returns : goal.returns
returns c =
    let same : length c.self.inside.deck.signals ≡ length c.args.self.now.deck.signals = ap (λ (s : Simulation). length s.deck.signals) c.self.view_is in
    let below : c.args.gate < length c.self.inside.deck.signals = omega (arith, same, c.requires) in
    let listed = set_listed c.self.inside.deck.signals c.self.inside.sets.items c.args.gate c.index.result.now below c.self.invariant.all_sets c.index.ensures in
    let is : c.index.result.now ≡ eval_set c.args.self.now.deck c.args.gate = listed ∙ ap (λ (s : Simulation). eval_set s.deck c.args.gate) c.self.view_is in
    subst (λ (set : Accesses). IfOk c.copy.result (λ found. found ≡ set)) is c.copy.ensures
