use Rattle.std.proofs.Common.{◌∙◌}
use Rattle.rw_sets.specs.declared.access.Access.TheVariants.{Read}
use Rattle.mark_board.proofs.Clear.{in_bounds}
use Rattle.mark_board.proofs.Shown.{same_board}
use Rattle.mark_board.proofs.board.Board.mark.Goals as goal

pub mark_one-requires-clause-here : goal.mark_one-requires-clause-here
mark_one-requires-clause-here c = same_board c.loop-pair.invariant ∙ c.requires.here

pub mark_one-requires-clause-in_range : goal.mark_one-requires-clause-in_range
mark_one-requires-clause-in_range c = in_bounds c.args.set.now c.items-pair-items.result.now c.loop-pair.pair-index (0, Read) c.args.self.now.cells c.items-pair-items.ensures.all c.loop-pair-test.true c.requires.in_range
