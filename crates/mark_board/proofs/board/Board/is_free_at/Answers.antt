use Rattle.std.proofs.Common.{sym, subst, ◌∙◌}
use Rattle.rw_sets.specs.declared.access.Access.TheVariants.{Read}
use Rattle.mark_board.specs.Markers.{IsClear, MarkerState}
use Rattle.mark_board.proofs.Clear.{free_at, read_or_write, readers_clear, writers_clear}
use Rattle.mark_board.proofs.board.Board.is_free_at.Goals as goal

pub returns-in-Read-clause-answer : goal.returns-in-Read-clause-answer
returns-in-Read-clause-answer c = (
  (λ no_writer. free_at c.args.marker.now.marks c.args.rank c.args.loc c.args.access (c.is_clear-no_writer.ensures.answer.0 no_writer) (λ writes. absurd (read_or_write (sym c.in-Read.is ∙ writes)))),
  (λ free. c.is_clear-no_writer.ensures.answer.1 (writers_clear c.args.marker.now.marks c.args.rank c.args.loc c.args.access free)),
)

pub returns-then-no_writer-clause-answer : goal.returns-then-no_writer-clause-answer
returns-then-no_writer-clause-answer c = (
  (λ no_reader. free_at c.args.marker.now.marks c.args.rank c.args.loc c.args.access (c.is_clear-no_writer.ensures.answer.0 c.if-no_writer.true)
      (λ _. subst (λ (m : MarkerState). IsClear m.marks c.args.rank c.args.loc Read) c.is_clear-no_writer.ensures.same (c.is_clear.ensures.answer.0 no_reader))),
  (λ free. c.is_clear.ensures.answer.1 (subst (λ (m : MarkerState). IsClear m.marks c.args.rank c.args.loc Read) (sym c.is_clear-no_writer.ensures.same)
      (readers_clear c.args.marker.now.marks c.args.rank c.args.loc c.args.access free c.in-Write.is))),
)
