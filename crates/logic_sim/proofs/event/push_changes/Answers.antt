use Rattle.std.proofs.Common.{arith, inr}
use Rattle.std.proofs.lemmas.Bool.{ltb-true}
use Rattle.logic_sim.proofs.Changes.{changes_end}
use Rattle.logic_sim.proofs.event.push_changes.Goals as goal

pub returns-in_default-2 : goal.returns-in_default-2
returns-in_default-2 c = changes_end c.args.time c.loop-inputs.inputs.now c.loop-inputs.values.now _ _ (inr (omega (arith, ltb-true))) c.loop-inputs.invariant
