use Rattle.std.proofs.Common.{◌∙◌, arith}
use Rattle.rw_sets.proofs.Joins.{joined_all, joined_same_read, joined_new_read}
use Rattle.rw_sets.proofs.walk.join_repeats.Goals.{then-kept-gt0+then-index-loc, else-kept-gt0, else-kept-gt0-via-then-kept-gt0+else-index-loc, else-kept-gt0-via-else-kept-gt0}
use Rattle.rw_sets.proofs.walk.join_repeats.Goals as goal

pub loop-i-preserved : goal.loop-i-preserved
loop-i-preserved c =
    let now = c.loop-i.invariant.joined in
    record {
      to_the_end = c.loop-i.invariant.to_the_end;
      joined = elim c.if-kept-gt0.branch [
        | then-kept-gt0+then-index-loc w ↦ rw (w.pairs-is, w.kept-is) (joined_same_read _ _ _ _ now (omega arith) c.index.result.now w.index-then-kept-gt0.result.now w.index-then-index-loc.result.now _ c.index.ensures w.index-then-kept-gt0.ensures w.index-then-index-loc.ensures w.if-kept-gt0.true w.if-index-loc.true w.stronger.ensures)
        | else-kept-gt0 w ↦ rw (w.pairs-is, w.kept-is) (joined_new_read _ _ _ _ now (omega arith) c.index.result.now c.index.ensures c.requires.sorted (λ some. elim w.else-kept-gt0.branch [
          | else-kept-gt0-via-then-kept-gt0+else-index-loc w' ↦ (w'.index-then-kept-gt0.result.now, w'.index-then-kept-gt0.ensures, w'.if-index-loc.false)
          | else-kept-gt0-via-else-kept-gt0 w' ↦ absurd (omega arith)
        ]))
      ];
    }

pub returns : goal.returns
returns c = c.truncate.ensures.items ∙ joined_all _ _ _ _ (omega arith) c.loop-i.invariant.joined
