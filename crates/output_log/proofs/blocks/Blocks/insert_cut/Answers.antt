use Rattle.std.proofs.Common.{◌≡◌, ◌+◌, ◌<◌, ◌∙◌, ap, rules, arith, length, take, drop, set}
use Rattle.std.specs.List.{insert}
use Rattle.output_log.specs.Blocks.{BlocksState, entries_in, block_at}
use Rattle.output_log.proofs.BlockEntries.{block_read, put_into_cut, with_entry_at}
use Rattle.output_log.proofs.blocks.Blocks.insert_cut.Goals as goal

pub returns-clause-entries : goal.returns-clause-entries
returns-clause-entries c =
    let blocks = c.self.inside.blocks.items in
    let at = c.args.at in
    let cut = c.max.result in
    let inside : at < length blocks = search rules in
    let read = block_read blocks at c.index_mut-block.result.now c.index_mut-block.ensures.value inside in
    let kept : c.insert.new.self ≡ insert (take cut (block_at blocks at)) c.args.place c.args.entry =
    c.insert.ensures ∙ ap (λ block. insert block c.args.place c.args.entry) (c.cut.ensures.kept ∙ ap (take cut) read) in
    let rest : c.cut.new.rest ≡ drop cut (block_at blocks at) = c.cut.ensures.rest ∙ ap (drop cut) read in
    ap entries_in (c.put_at.ensures.items ∙ (λ i. insert (set blocks at (kept i)) (at + 1) (rest i)))
    ∙ put_into_cut c.args.entry blocks at c.args.place cut inside (omega (arith, c.max.ensures))
    ∙ ap (λ (state : BlocksState). with_entry_at c.args.entry state.blocks at c.args.place) c.self.view_is
