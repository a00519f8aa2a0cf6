use Rattle.std.proofs.Common.{◌≡◌, ◌∙◌, ◌+◌, ap, sym, length, take, arith}
use Rattle.task_order.specs.Blocks.{tasks_in}
use Rattle.task_order.proofs.Cuts.{below_place, count_more, count_within, rank_from_place}
use Rattle.task_order.proofs.blocks.Blocks.rank.Goals as goal

pub block_len-rank-requires : goal.block_len-rank-requires
block_len-rank-requires c = below_place c.args.self.now c.place_of-at.result.0 c.loop-i.i c.place_of-at.ensures.there c.loop-i-test.true

pub overflow_add-rank : goal.overflow_add-rank
overflow_add-rank c =
    let blocks = c.args.self.now in
    let below = below_place blocks c.place_of-at.result.0 c.loop-i.i c.place_of-at.ensures.there c.loop-i-test.true in
    omega (arith, count_within c.args.key.now blocks c.place_of-at.result.0 c.place_of-at.result.1 (c.loop-i.i + 1) c.place_of-at.ensures (omega (arith, c.loop-i-test.true)), count_more blocks c.loop-i.i below, c.loop-i.invariant, c.block_len-rank.ensures.len, c.requires.small)

pub loop-i-preserved : goal.loop-i-preserved
loop-i-preserved c =
    let blocks = c.args.self.now in
    let below = below_place blocks c.place_of-at.result.0 c.loop-i.i c.place_of-at.ensures.there c.loop-i-test.true in
    omega (arith, count_more blocks c.loop-i.i below, c.loop-i.invariant, c.block_len-rank.ensures.len)

pub returns : goal.returns
returns c =
    let all : c.loop-i.i ≡ c.place_of-at.result.0 = omega (arith, c.loop-i-test.false) in
    c.loop-i.invariant ∙ ap (λ n. c.place_of-at.result.1 + length (tasks_in (take n c.args.self.now))) all
    ∙ sym (rank_from_place c.args.key.now c.args.self.now c.place_of-at.result.0 c.place_of-at.result.1 c.place_of-at.ensures)
