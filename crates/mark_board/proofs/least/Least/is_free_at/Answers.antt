use Rattle.std.proofs.Common.{sym, ◌∙◌}
use Rattle.mark_board.proofs.Clear.{free_at, read_or_write, readers_clear, writers_clear}
use Rattle.mark_board.proofs.least.Least.is_free_at.Goals as goal

pub returns-in-Read : goal.returns-in-Read
returns-in-Read c = (
  (λ no_writer. free_at c.args.self.now.marks c.args.rank c.args.loc c.args.access (c.is_clear-no_writer.ensures.0 no_writer) (λ writes. absurd (read_or_write (sym c.in-Read.is ∙ writes)))),
  (λ free. c.is_clear-no_writer.ensures.1 (writers_clear c.args.self.now.marks c.args.rank c.args.loc c.args.access free)),
)

pub returns-then-no_writer : goal.returns-then-no_writer
returns-then-no_writer c = (
  (λ no_reader. free_at c.args.self.now.marks c.args.rank c.args.loc c.args.access (c.is_clear-no_writer.ensures.0 c.if-no_writer.true) (λ _. c.is_clear.ensures.0 no_reader)),
  (λ free. c.is_clear.ensures.1 (readers_clear c.args.self.now.marks c.args.rank c.args.loc c.args.access free c.in-Write.is)),
)
