use Rattle.std.proofs.Common.{◌≡◌, ◌<◌, ◌++◌, ◌∙◌, ap, sym, arith, length, take}
use Rattle.std.proofs.Math.Seq.{take-length}
use Rattle.output_log.specs.Blocks.{BlocksState, block_at, IsInside}
use Rattle.output_log.specs.Entries.{joined_texts}
use Rattle.output_log.proofs.BlockEntries.{block_read, up_to_end, joined_texts-block}
use Rattle.output_log.proofs.blocks.Blocks.texts_to.Goals as goal

pub loop-i-preserved : goal.loop-i-preserved
loop-i-preserved c =
    let blocks = c.self.inside.blocks.items in
    let same : blocks ≡ c.args.self.now.blocks = ap (λ (state : BlocksState). state.blocks) c.self.view_is in
    let within : IsInside blocks c.args.at c.args.place = rw same c.requires in
    let inside : c.loop-i.i < length blocks = omega (arith, up_to_end blocks c.args.at c.args.place within, c.loop-i-test.true) in
    let read = block_read blocks c.loop-i.i c.index-block.result.now c.index-block.ensures inside in
    let whole : take c.len.result c.index-block.result.now ≡ block_at blocks c.loop-i.i = ap (λ n. take n c.index-block.result.now) c.len.ensures.len ∙ take-length c.index-block.result.now ∙ read in
    c.in_ok-push_texts.ensures ∙ (λ i. c.loop-i.invariant i ++ joined_texts (whole i)) ∙ sym (joined_texts-block blocks c.loop-i.i inside)
