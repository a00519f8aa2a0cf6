use Rattle.std.proofs.Common.{ap, set, ◌∙◌}
use Rattle.mark_board.proofs.Beginning.{begins}
use Rattle.mark_board.proofs.board.Board.new.Goals as goal

pub of_words-requires : goal.of_words-requires
of_words-requires c =
    begins c.args.cells c.deref.result.now (c.deref.ensures.value ∙ ap (λ words. set words 0 0) (c.in_ok-words.ensures.items_if_clones_equal (λ y same. same)))
