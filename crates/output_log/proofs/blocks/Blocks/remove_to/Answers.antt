use Rattle.std.proofs.Common.{◌≡◌, ◌<◌, ◌∙◌, ap, arith, length, length-drop, drop, set}
use Rattle.output_log.specs.Blocks.{BlocksState, entries_in, entries_behind, IsInside}
use Rattle.output_log.proofs.BlockEntries.{block_read, in_a_block, without_first, entries_in-drop}
use Rattle.output_log.proofs.blocks.Blocks.remove_to.Goals as goal

pub returns-then-place-gt0-clause-rest : goal.returns-then-place-gt0-clause-rest
returns-then-place-gt0-clause-rest c =
    let blocks = c.self.inside.blocks.items in
    let at = c.args.at in
    let left : c.drop-drain.new.self.0.items ≡ drop at blocks = c.drop-drain.ensures.items ∙ c.drain.ensures.kept in
    let same : blocks ≡ c.args.self.now.blocks = ap (λ (state : BlocksState). state.blocks) c.self.view_is in
    let within : IsInside blocks at c.args.place = rw same c.requires in
    let inside = in_a_block blocks at c.args.place within c.if-place-gt0.true in
    let some : 0 < length (drop at blocks) = omega (arith, inside, length-drop at blocks) in
    let read = block_read (drop at blocks) 0 c.index_mut.result.now (rw left at c.index_mut.ensures.value) some in
    ap entries_in ((λ i. set (left i) 0 (c.remove_first.ensures i)) ∙ ap (λ block. set (drop at blocks) 0 (drop c.args.place block)) read)
    ∙ without_first blocks at c.args.place inside ∙ ap (λ (state : BlocksState). entries_behind state.blocks at c.args.place) c.self.view_is

pub returns-else-place-gt0-clause-rest : goal.returns-else-place-gt0-clause-rest
returns-else-place-gt0-clause-rest c =
    let blocks = c.self.inside.blocks.items in
    let at = c.args.at in
    let none : 0 ≡ c.args.place = omega (arith, c.if-place-gt0.false) in
    ap entries_in (c.drop-drain.ensures.items ∙ c.drain.ensures.kept) ∙ entries_in-drop blocks at ∙ ap (entries_behind blocks at) none ∙ ap (λ (state : BlocksState). entries_behind state.blocks at c.args.place) c.self.view_is
