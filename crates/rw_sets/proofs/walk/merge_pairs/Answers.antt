use Rattle.std.proofs.Common.{arith, ◌≡◌, ◌++◌, length, append_assoc, ap, sym, ◌∙◌, inl, inr, ◌⊎◌}
use Rattle.std.proofs.lemmas.Bool.{ltb-false, ltb-true}
use Rattle.std.proofs.lemmas.Cmp.{ranked}
use Rattle.rw_sets.specs.Storage.{pairs_of}
use Rattle.rw_sets.proofs.Skips.{merge_left, merge_right, merge_both, merge_rest, merges_more}
use Rattle.rw_sets.proofs.walk.merge_pairs.Goals.{in_default, in_default-2}
use Rattle.rw_sets.proofs.walk.merge_pairs.Goals as goal

pub loop-left-preserved-in_ok-push-in-Less : goal.loop-left-preserved-in_ok-push-in-Less
loop-left-preserved-in_ok-push-in-Less c =
    let now = c.loop-left.invariant in
    merges_more c.args.a.now c.args.b.now _ _ _ _ _ _ _ now.same_merge c.in_ok-push-in-Less.ensures (merge_left _ _ now.left_ascends now.right_ascends (omega (arith, ltb-false)) (omega (arith, ltb-false)) (ranked _ _ _ c.in-Less.ensures))

pub loop-left-preserved-in_ok-push-in-Greater : goal.loop-left-preserved-in_ok-push-in-Greater
loop-left-preserved-in_ok-push-in-Greater c =
    let now = c.loop-left.invariant in
    merges_more c.args.a.now c.args.b.now _ _ _ _ _ _ _ now.same_merge c.in_ok-push-in-Greater.ensures (merge_right _ _ now.left_ascends now.right_ascends (omega (arith, ltb-false)) (omega (arith, ltb-false)) (ranked _ _ _ c.in-Greater.ensures))

pub loop-left-preserved : goal.loop-left-preserved
loop-left-preserved c =
    let now = c.loop-left.invariant in
    let pushed = rw c.stronger.ensures at c.in_ok-push-in-Equal.ensures in
    merges_more c.args.a.now c.args.b.now _ _ _ _ _ _ _ now.same_merge pushed (merge_both _ _ now.left_ascends now.right_ascends (omega (arith, ltb-false)) (omega (arith, ltb-false)) (ranked _ _ _ c.in-Equal.ensures))

pub returns : goal.returns
returns c =
    let left = c.loop-left.left.now in
    let right = c.loop-left.right.now in
    let so-far = pairs_of c.loop-left.pairs in
    let ended : (length left ≡ 0) ⊎ (length right ≡ 0) = elim c.if-left-lt1.branch [
      | in_default w ↦ inl (omega (arith, ltb-true))
      | in_default-2 w ↦ inr (omega (arith, ltb-true))
    ] in
    rw (c.in_ok-extend-2.ensures, c.in_ok-extend.ensures, append_assoc) (ap (λ rest. so-far ++ rest) (sym (merge_rest left right c.loop-left.invariant.right_ascends ended)) ∙ c.loop-left.invariant.same_merge)
