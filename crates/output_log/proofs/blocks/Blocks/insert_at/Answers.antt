use Rattle.std.proofs.Common.{◌<◌, ◌∙◌, ap, rules, arith, length}
use Rattle.output_log.specs.Blocks.{entries_in}
use Rattle.output_log.proofs.BlockEntries.{put_into_block, put_behind_block}
use Rattle.output_log.proofs.blocks.Blocks.insert_at.Goals as goal

pub returns-then-block_len-lt-FULL-clause-entries : goal.returns-then-block_len-lt-FULL-clause-entries
returns-then-block_len-lt-FULL-clause-entries c =
    let inside : c.args.at < length c.args.self.now.blocks = search rules in
    ap entries_in c.insert_into.ensures.blocks ∙ put_into_block c.args.entry c.args.self.now.blocks c.args.at c.args.place inside

pub returns-else-place-lt-FULL-clause-entries : goal.returns-else-place-lt-FULL-clause-entries
returns-else-place-lt-FULL-clause-entries c =
    let inside : c.args.at < length c.args.self.now.blocks = search rules in
    ap entries_in c.insert_block-else-place-lt-FULL.ensures.blocks
    ∙ put_behind_block c.args.entry c.args.self.now.blocks c.args.at c.args.place inside (omega (arith, c.if-place-lt-FULL.false, c.requires.place, c.block_len.ensures.len, c.block_len.ensures.bound))
