use Rattle.std.proofs.Common.{◌≡◌, ◌+◌, ◌<◌, ◌≤◌, ◌∙◌, rules, ap, sym, subst, arith, length}
use Rattle.task_order.specs.Key.{at_key}
use Rattle.output_log.specs.Blocks.{BlocksState}
use Rattle.output_log.specs.Entries.{IsInKeyOrder, entries_before}
use Rattle.output_log.proofs.BlockEntries.{block_read}
use Rattle.output_log.proofs.Search.{ordered_at, place_in_recent, place_in_next, place_behind_last}
use Rattle.output_log.proofs.blocks.Blocks.place_near.Goals as goal

pub rank_near-requires : goal.rank_near-requires
rank_near-requires c =
    let blocks = c.args.self.now.blocks in
    let at = c.self.inside.recent in
    let same : c.self.inside.blocks.items ≡ blocks = ap (λ (state : BlocksState). state.blocks) c.self.view_is in
    let inside : at < length blocks = rw (← same) (search rules) in
    let read = block_read blocks at c.in_ok-block.block.now (rw (← same) c.in_ok-block.ensures.lookup) inside in
    subst IsInKeyOrder (sym read) (ordered_at blocks at c.requires inside)

pub returns-then-rank-len : goal.returns-then-rank-len
returns-then-rank-len c =
    let bound = at_key c.args.key.now in
    let blocks = c.args.self.now.blocks in
    let at = c.self.inside.recent in
    let same : c.self.inside.blocks.items ≡ blocks = ap (λ (state : BlocksState). state.blocks) c.self.view_is in
    let inside : at < length blocks = rw (← same) (search rules) in
    let read = block_read blocks at c.in_ok-block.block.now (rw (← same) c.in_ok-block.ensures.lookup) inside in
    place_in_recent bound blocks at c.in_ok-rank.rank c.requires (rw (← same) c.self.invariant.filled) inside c.in_ok-rank.ensures.some
    (c.in_ok-rank.ensures.rank ∙ ap (λ block. length (entries_before bound block)) read) (omega (arith, c.if-rank-len.true, c.len.ensures.len, ap length read))

pub rank_from-requires-clause-ordered : goal.rank_from-requires-clause-ordered
rank_from-requires-clause-ordered c =
    let blocks = c.args.self.now.blocks in
    let next = c.self.inside.recent + 1 in
    let same : c.self.inside.blocks.items ≡ blocks = ap (λ (state : BlocksState). state.blocks) c.self.view_is in
    let inside : next < length blocks = rw (← same) (search rules) in
    let read = block_read blocks next c.in-Some.next.now (rw (← same) c.in-Some.ensures.lookup) inside in
    subst IsInKeyOrder (sym read) (ordered_at blocks next c.requires inside)

pub returns-then-rank_in_next-len : goal.returns-then-rank_in_next-len
returns-then-rank_in_next-len c =
    let bound = at_key c.args.key.now in
    let blocks = c.args.self.now.blocks in
    let at = c.self.inside.recent in
    let same : c.self.inside.blocks.items ≡ blocks = ap (λ (state : BlocksState). state.blocks) c.self.view_is in
    let inside : at + 1 < length blocks = rw (← same) (search rules) in
    let here = block_read blocks at c.in_ok-block.block.now (rw (← same) c.in_ok-block.ensures.lookup) (omega (arith, inside)) in
    let read = block_read blocks (at + 1) c.in-Some.next.now (rw (← same) c.in-Some.ensures.lookup) inside in
    place_in_next bound blocks at c.in_ok-rank.rank c.in_ok-rank_in_next.rank_in_next c.requires (rw (← same) c.self.invariant.filled) inside c.in_ok-rank.ensures.some
    (c.in_ok-rank.ensures.rank ∙ ap (λ block. length (entries_before bound block)) here) (omega (arith, c.if-rank-len.false, c.len.ensures.len, ap length here))
    (c.in_ok-rank_in_next.ensures ∙ ap (λ block. length (entries_before bound block)) read) (omega (arith, c.if-rank_in_next-len.true, c.len-2.ensures.len, ap length read))

pub returns-in_default : goal.returns-in_default
returns-in_default c =
    let bound = at_key c.args.key.now in
    let blocks = c.args.self.now.blocks in
    let at = c.self.inside.recent in
    let same : c.self.inside.blocks.items ≡ blocks = ap (λ (state : BlocksState). state.blocks) c.self.view_is in
    let inside : at < length blocks = rw (← same) (search rules) in
    let end : length blocks ≤ at + 1 = rw (← same) (search (rules, c.get-2.ensures.variant)) in
    let here = block_read blocks at c.in_ok-block.block.now (rw (← same) c.in_ok-block.ensures.lookup) inside in
    place_behind_last bound blocks at c.in_ok-rank.rank c.requires (omega (arith, inside, end)) c.in_ok-rank.ensures.some
    (c.in_ok-rank.ensures.rank ∙ ap (λ block. length (entries_before bound block)) here) (omega (arith, c.if-rank-len.false, c.len.ensures.len, ap length here))
