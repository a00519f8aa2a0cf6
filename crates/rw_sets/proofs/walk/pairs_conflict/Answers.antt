use Rattle.std.proofs.Common.{arith, refl}
use Rattle.std.proofs.lemmas.Bool.{ltb-false}
use Rattle.std.proofs.lemmas.Cmp.{ranked}
use Rattle.rw_sets.proofs.Skips.{pass_left, pass_right, pass_both, passes_more, first_conflict}
use Rattle.rw_sets.proofs.walk.pairs_conflict.Goals as goal

pub returns-in-Equal : goal.returns-in-Equal
returns-in-Equal c =
    let found = first_conflict _ _ (omega (arith, ltb-false)) (omega (arith, ltb-false)) (ranked _ _ _ c.in-Equal.ensures) cc in
    (λ _. c.loop-left.invariant.same_answer.0 found, λ _. refl)

pub loop-left-preserved-in-Less : goal.loop-left-preserved-in-Less
loop-left-preserved-in-Less c =
    let now = c.loop-left.invariant in
    passes_more _ _ _ _ _ _ now.same_answer (pass_left _ _ now.left_ascends now.right_ascends (omega (arith, ltb-false)) (omega (arith, ltb-false)) (ranked _ _ _ c.in-Less.ensures))

pub loop-left-preserved-in-Greater : goal.loop-left-preserved-in-Greater
loop-left-preserved-in-Greater c =
    let now = c.loop-left.invariant in
    passes_more _ _ _ _ _ _ now.same_answer (pass_right _ _ now.left_ascends now.right_ascends (omega (arith, ltb-false)) (omega (arith, ltb-false)) (ranked _ _ _ c.in-Greater.ensures))

pub loop-left-preserved : goal.loop-left-preserved
loop-left-preserved c =
    let now = c.loop-left.invariant in
    passes_more _ _ _ _ _ _ now.same_answer (pass_both _ _ now.left_ascends now.right_ascends (omega (arith, ltb-false)) (omega (arith, ltb-false)) (ranked _ _ _ c.in-Equal.ensures) cc)
