use Rattle.std.proofs.Common.{◌<◌, ◌-◌, ◌∙◌, arith, length}
use Rattle.output_log.proofs.BlockEntries.{put_at_end, up_to_end}
use Rattle.output_log.proofs.blocks.Blocks.insert.Goals as goal

pub returns-then-at-gt0-clause-entries : goal.returns-then-at-gt0-clause-entries
returns-then-at-gt0-clause-entries c =
    let blocks = c.args.self.now.blocks in
    let inside : c.args.at - 1 < length blocks = omega (arith, up_to_end blocks c.args.at c.args.place c.requires.inside, c.if-at-gt0.true) in
    c.insert_at.ensures.entries ∙ put_at_end c.args.entry blocks c.args.at c.args.place (c.args.at - 1) c.block_len.result (omega (arith, c.if-at-gt0.true)) c.if-place-eq0.true inside c.block_len.ensures.len
