use Rattle.std.proofs.Common.{◌≡◌, [], ◌∷◌, ◌++◌, List, ℕ, arith, ap, ◌∙◌}
use Rattle.logic_sim.specs.Chain.{chain_signals}
use Rattle.logic_sim.proofs.Chains.{gate_added, parts-sound}
use Rattle.logic_sim.proofs.chain.chain_deck.Goals as goal

pub loop-before-preserved : goal.loop-before-preserved
loop-before-preserved c =
    gate_added c.loop-before.before c.loop-before.signals c.push-in-loop-before.new.self c.in_ok-inverter.field-0
    c.loop-before.invariant c.in_ok-inverter.ensures c.in_ok-push-2.ensures.ok

pub returns-clause-sound : goal.returns-clause-sound
returns-clause-sound c =
    let all : c.loop-before.before ≡ c.args.n = omega arith in
    parts-sound c.args.n c.loop-before.signals c.push-2.new.self c.new.result c.in_ok-delays.delays c.requires.few
    (c.loop-before.invariant ∙ ap chain_signals all)
    (c.in_ok-push-3.ensures.ok ∙ ap (λ (outputs : List ℕ). outputs ++ c.args.n ∷ []) c.new-outputs.ensures)
    c.new.ensures c.in_ok-delays.ensures
