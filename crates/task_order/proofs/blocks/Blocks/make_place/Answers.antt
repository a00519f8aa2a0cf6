use Rattle.std.proofs.Common.{◌+◌, ◌<◌, ◌∙◌, ap, subst, sym, length, add-one, arith, rules}
use Rattle.task_order.specs.Blocks.{tasks_in, block_at, IsPlace, IsFree}
use Rattle.task_order.proofs.Cuts.{tasks_in-split, all_filled, inside_from_place}
use Rattle.task_order.proofs.Rooms.{tasks_in-empty_put, place_in_next, free_next, place_in_split, free_split, place_in_first, free_first}
use Rattle.task_order.proofs.blocks.Blocks.make_place.Goals as goal

pub returns-then-place-eq0-clause-place : goal.returns-then-place-eq0-clause-place
returns-then-place-eq0-clause-place c =
    let key = c.args.key.now in
    let blocks = c.args.self.now in
    let at = c.place_of-at.result.0 in
    subst (λ bs. IsPlace key bs 0 0) (sym c.in_ok-insert_block-2.ensures.ok)
    (place_in_first key blocks (subst (λ n. IsPlace key blocks n 0) c.if-at-eq0.true (subst (λ n. IsPlace key blocks at n) c.if-place-eq0.true c.place_of-at.ensures)) c.requires.new)

pub returns-then-place-eq0-clause-free : goal.returns-then-place-eq0-clause-free
returns-then-place-eq0-clause-free c =
    let blocks = c.args.self.now in
    let at = c.place_of-at.result.0 in
    let inside : at < length blocks = inside_from_place blocks at c.place_of-at.ensures.there (search rules) in
    subst (λ bs. IsFree bs 0) (sym c.in_ok-insert_block-2.ensures.ok)
    (free_first blocks (all_filled blocks at c.requires.gapless inside (omega (arith, c.if-has_room.ensures.full inside))))

pub returns-then-place-block_len-clause-place : goal.returns-then-place-block_len-clause-place
returns-then-place-block_len-clause-place c =
    let blocks = c.args.self.now in
    let at = c.place_of-at.result.0 in
    let inside : at < length blocks = inside_from_place blocks at c.place_of-at.ensures.there (search rules) in
    subst (λ bs. IsPlace c.args.key.now bs (at + 1) 0) (sym c.in_ok-insert_block-3.ensures.ok)
    (rw add-one (place_in_next c.args.key.now blocks at c.place_of-at.result.1 c.place_of-at.ensures inside (omega (arith, c.if-place-block_len.true, c.block_len.ensures.len))))

pub returns-then-place-block_len-clause-free : goal.returns-then-place-block_len-clause-free
returns-then-place-block_len-clause-free c =
    let blocks = c.args.self.now in
    let at = c.place_of-at.result.0 in
    let inside : at < length blocks = inside_from_place blocks at c.place_of-at.ensures.there (search rules) in
    subst (λ bs. IsFree bs (at + 1)) (sym c.in_ok-insert_block-3.ensures.ok)
    (rw add-one (free_next blocks at inside (all_filled blocks at c.requires.gapless inside (omega (arith, c.if-has_room.ensures.full inside)))))

pub returns-then-place-block_len-clause-tasks : goal.returns-then-place-block_len-clause-tasks
returns-then-place-block_len-clause-tasks c = ap tasks_in c.in_ok-insert_block-3.ensures.ok ∙ tasks_in-empty_put c.args.self.now (c.place_of-at.result.0 + 1)

pub returns-clause-place : goal.returns-clause-place
returns-clause-place c =
    let blocks = c.args.self.now in
    let at = c.place_of-at.result.0 in
    let place = c.place_of-at.result.1 in
    let inside : at < length blocks = inside_from_place blocks at c.place_of-at.ensures.there (search rules) in
    subst (λ bs. IsPlace c.args.key.now bs at place) (sym c.in_ok-split.ensures.ok)
    (place_in_split c.args.key.now blocks at place c.max.result c.place_of-at.ensures c.requires.new inside (omega (arith, c.max.ensures))
    (omega (arith, c.max.ensures, c.place_of-at.ensures.within, c.if-has_room.ensures.full inside)))

pub returns-clause-free : goal.returns-clause-free
returns-clause-free c =
    let blocks = c.args.self.now in
    let at = c.place_of-at.result.0 in
    let inside : at < length blocks = inside_from_place blocks at c.place_of-at.ensures.there (search rules) in
    let cut : c.max.result < length (block_at blocks at) =
    omega (arith, c.max.ensures, c.place_of-at.ensures.within, c.if-place-block_len.false, c.block_len.ensures.len, c.if-has_room.ensures.full inside) in
    subst (λ bs. IsFree bs at) (sym c.in_ok-split.ensures.ok)
    (free_split blocks at c.max.result inside (all_filled blocks at c.requires.gapless inside (omega (arith, cut))) (omega (arith, cut, c.block_len.ensures.few, c.block_len.ensures.len)) cut)

pub returns-clause-tasks : goal.returns-clause-tasks
returns-clause-tasks c =
    let inside = inside_from_place c.args.self.now c.place_of-at.result.0 c.place_of-at.ensures.there (search rules) in
    ap tasks_in c.in_ok-split.ensures.ok ∙ tasks_in-split c.args.self.now c.place_of-at.result.0 c.max.result inside
