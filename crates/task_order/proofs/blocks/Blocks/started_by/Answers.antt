use Rattle.std.proofs.Common.{◌≡◌, ◌+◌, ◌-◌, ◌≤◌, ◌∙◌, inr, true, sym, subst, length, arith}
use Rattle.task_order.specs.Blocks.{block_at, starts_by}
use Rattle.task_order.proofs.Places.{blocks_partitioned}
use Rattle.task_order.proofs.Strides.{point_from_ends}
use Rattle.task_order.proofs.blocks.Blocks.started_by.Goals as goal

pub overflow_add-count : goal.overflow_add-count
overflow_add-count c = omega (arith, c.loop-count-test.ensures.inside, c.saturating_add.ensures, c.count.ensures, c.count.type_inv)

pub loop-count-preserved : goal.loop-count-preserved
loop-count-preserved c =
    let inside : c.loop-count.count + c.loop-stride.stride ≤ length c.args.self.now = omega (arith, c.loop-count-test.ensures.inside, c.saturating_add.ensures, c.count.ensures, c.count.type_inv, c.loop-stride-test.true) in
    let same : c.saturating_add.result ≡ c.loop-count.count + c.loop-stride.stride - 1 = omega (arith, c.loop-count-test.ensures.inside, c.saturating_add.ensures, c.count.ensures, c.count.type_inv, c.loop-stride-test.true) in
    (inside, inr (subst (λ i. starts_by c.args.key.now (block_at c.args.self.now i) ≡ true) same (sym c.loop-count-test.ensures.starts)))

pub overflow_add-count-in-loop-count-2 : goal.overflow_add-count-in-loop-count-2
overflow_add-count-in-loop-count-2 c = omega (arith, c.loop-count-2-test.ensures.inside, c.count.ensures, c.count.type_inv)

pub returns-clause-point : goal.returns-clause-point
returns-clause-point c =
    point_from_ends (starts_by c.args.key.now) c.args.self.now c.loop-count-2.count (blocks_partitioned c.args.key.now c.args.self.now c.requires.gapless c.requires.ascending) c.loop-count-2.invariant.0 c.loop-count-2.invariant.1
    (sym c.is_started_at-in-loop-count-2.ensures.starts ∙ c.loop-count-2-test.false)
