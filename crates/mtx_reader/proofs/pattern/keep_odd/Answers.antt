use Rattle.std.proofs.Common.{◌%◌, ◌∙◌, ap, arith, sym}
use Rattle.mtx_reader.proofs.Settling.{settled-all, settled_same_read, settled_new_read}
use Rattle.mtx_reader.proofs.Times.{times}
use Rattle.mtx_reader.proofs.pattern.keep_odd.Goals.{then-kept-gt0+then-eq, else-kept-gt0, else-kept-gt0-via-then-kept-gt0+else-eq, else-kept-gt0-via-else-kept-gt0}
use Rattle.mtx_reader.proofs.pattern.keep_odd.Goals as goal

pub loop-next-preserved : goal.loop-next-preserved
loop-next-preserved c =
    let now = c.loop-next.invariant.settled in
    record {
      to_the_end = c.loop-next.invariant.to_the_end;
      settled = elim c.if-kept-gt0.branch [
        | then-kept-gt0+then-eq w ↦ rw (w.places-is, w.kept-is) (settled_same_read _ _ _ _ now (omega arith) c.index.result.now w.index-then-kept-gt0.result.now c.index.ensures w.index-then-kept-gt0.ensures w.if-kept-gt0.true (sym w.eq.ensures ∙ w.if-eq.true))
        | else-kept-gt0 w ↦ rw (w.places-is, w.kept-is) (settled_new_read _ _ _ _ now (omega arith) c.index.result.now c.index.ensures c.requires (λ some. elim w.else-kept-gt0.branch [
          | else-kept-gt0-via-then-kept-gt0+else-eq w' ↦ (w'.index-then-kept-gt0.result.now, w'.index-then-kept-gt0.ensures, sym w'.eq.ensures ∙ w'.if-eq.false)
          | else-kept-gt0-via-else-kept-gt0 w' ↦ absurd (omega arith)
        ]))
      ];
    }

pub returns-clause-odd : goal.returns-clause-odd
returns-clause-odd c = λ place. ap (λ places. times place places % 2) c.truncate.ensures.items ∙ (settled-all _ _ _ _ (omega arith) c.loop-next.invariant.settled).odd place
