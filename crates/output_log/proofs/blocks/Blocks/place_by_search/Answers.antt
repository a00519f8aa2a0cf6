use Rattle.std.proofs.Common.{◌≡◌, ◌<◌, ◌∙◌, ap, rules, length, subst, sym}
use Rattle.task_order.specs.Key.{at_key}
use Rattle.output_log.specs.Blocks.{BlocksState}
use Rattle.output_log.specs.Entries.{IsInKeyOrder, entries_before}
use Rattle.output_log.proofs.BlockEntries.{block_read}
use Rattle.output_log.proofs.Search.{ordered_at, place_in_block, place_behind}
use Rattle.output_log.proofs.blocks.Blocks.place_by_search.Goals as goal

pub rank-place-requires : goal.rank-place-requires
rank-place-requires c =
    let blocks = c.args.self.now.blocks in
    let at = c.ended_before-at.result in
    let same : c.self.inside.blocks.items ≡ blocks = ap (λ (state : BlocksState). state.blocks) c.self.view_is in
    let inside : at < length blocks = search (rules, c.get.ensures.variant) in
    subst IsInKeyOrder (sym (block_read blocks at c.in-Some.block.now (rw (← same) c.in-Some.ensures.lookup) inside)) (ordered_at blocks at c.requires inside)

pub returns-in-Some : goal.returns-in-Some
returns-in-Some c =
    let bound = at_key c.args.key.now in
    let blocks = c.args.self.now.blocks in
    let at = c.ended_before-at.result in
    let same : c.self.inside.blocks.items ≡ blocks = ap (λ (state : BlocksState). state.blocks) c.self.view_is in
    let inside : at < length blocks = search (rules, c.get.ensures.variant) in
    let read = block_read blocks at c.in-Some.block.now (rw (← same) c.in-Some.ensures.lookup) inside in
    place_in_block bound blocks at c.rank-place.result c.requires (rw (← same) c.self.invariant.filled) inside c.ended_before-at.ensures.before c.ended_before-at.ensures.here
    (c.rank-place.ensures ∙ ap (λ block. length (entries_before bound block)) read)

pub returns-in-None : goal.returns-in-None
returns-in-None c =
    let blocks = c.args.self.now.blocks in
    let at = c.ended_before-at.result in
    let end : at ≡ length blocks = search (rules, c.get.ensures.variant) in
    place_behind (at_key c.args.key.now) blocks at end c.ended_before-at.ensures.before
