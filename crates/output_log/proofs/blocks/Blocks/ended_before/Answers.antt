use Rattle.std.proofs.Common.{◌≡◌, ◌<◌, ◌≤◌, ◌∙◌, ap, sym, arith}
use Rattle.task_order.specs.Key.{at_key}
use Rattle.output_log.specs.Blocks.{BlocksState, block_at, ends_before}
use Rattle.output_log.proofs.BlockEntries.{block_read}
use Rattle.output_log.proofs.Search.{search_up, search_down}
use Rattle.output_log.proofs.blocks.Blocks.ended_before.Goals.{then-ends_before, else-ends_before}
use Rattle.output_log.proofs.blocks.Blocks.ended_before.Goals as goal

pub loop-low-preserved : goal.loop-low-preserved
loop-low-preserved c =
    let bound = at_key c.args.key.now in
    let blocks = c.args.self.now.blocks in
    let low = c.loop-low.low in
    let high = c.loop-low.high in
    let at = c.min-at.result in
    let same : c.self.inside.blocks.items ≡ blocks = ap (λ (state : BlocksState). state.blocks) c.self.view_is in
    let above : low ≤ at = omega (arith, c.max.ensures, c.min-at.ensures, c.loop-low-test.true) in
    let below : at < high = omega (arith, c.max.ensures, c.min-at.ensures, c.loop-low-test.true) in
    let read : c.index.result.now ≡ block_at blocks at =
    block_read blocks at c.index.result.now (rw (← same) c.index.ensures) (omega (arith, below, c.loop-low.invariant.1)) in
    let answer : ends_before bound (block_at blocks at) ≡ c.ends_before-ends_before.result = sym (c.ends_before-ends_before.ensures ∙ ap (ends_before bound) read) in
    elim c.if-ends_before.branch [
      | then-ends_before w ↦ rw (w.low-is, w.high-is) (search_up bound blocks low high at c.requires c.loop-low.invariant below (answer ∙ w.if-ends_before.true))
      | else-ends_before w ↦ rw (w.low-is, w.high-is) (search_down bound blocks low high at c.loop-low.invariant above below (answer ∙ w.if-ends_before.false))
    ]
