use Rattle.std.proofs.Common.{◌≡◌, ◌<◌, ◌∙◌, rules, ap, sym, subst, length}
use Rattle.task_order.specs.Key.{at_key}
use Rattle.output_log.specs.Blocks.{BlocksState}
use Rattle.output_log.specs.Entries.{IsInKeyOrder, entries_before}
use Rattle.output_log.proofs.BlockEntries.{block_read}
use Rattle.output_log.proofs.Search.{ordered_at, place_at_front}
use Rattle.output_log.proofs.blocks.Blocks.front_of.Goals as goal

pub is_earlier_at-requires : goal.is_earlier_at-requires
is_earlier_at-requires c =
    let blocks = c.args.self.now.blocks in
    let same : c.self.inside.blocks.items ≡ blocks = ap (λ (state : BlocksState). state.blocks) c.self.view_is in
    let inside : 0 < length blocks = rw (← same) (search (rules, c.front.ensures.variant)) in
    let read = block_read blocks 0 c.in-Some.first.now (rw (← same) c.in-Some.ensures.lookup) inside in
    subst IsInKeyOrder (sym read) (ordered_at blocks 0 c.requires inside)

pub returns-in_default : goal.returns-in_default
returns-in_default c =
    let bound = at_key c.args.key.now in
    let blocks = c.args.self.now.blocks in
    let same : c.self.inside.blocks.items ≡ blocks = ap (λ (state : BlocksState). state.blocks) c.self.view_is in
    let inside : 0 < length blocks = rw (← same) (search (rules, c.front.ensures.variant)) in
    let read = block_read blocks 0 c.in-Some.first.now (rw (← same) c.in-Some.ensures.lookup) inside in
    place_at_front bound blocks c.requires (rw (← same) c.self.invariant.filled)
    (ap (λ block. length (entries_before bound block)) (sym read) ∙ search (rules, c.is_earlier_at.ensures, c.if-is_earlier_at.false))
