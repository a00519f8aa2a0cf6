use Rattle.std.proofs.Common.{ap, subst, ◌∙◌, ◌+◌, List}
use Rattle.std.specs.Prelude.{◌↔◌, IsTrue}
use Rattle.std.specs.Mem.Slots.{slots_items}
use lib.Dec.{leb}
use Rattle.mark_board.specs.declared.view.Mark.{Mark}
use Rattle.mark_board.specs.Markers.{IsClear, LeastState}
use Rattle.mark_board.specs.Words.{base_of}
use Rattle.mark_board.proofs.Clear.{clear_by_test}
use Rattle.mark_board.proofs.least.Least.is_clear.Goals as goal

pub returns : goal.returns
returns c =
    let inside = c.self.inside in
    subst (λ (marks : List Mark). IsTrue (leb (c.base_of.result + c.from.result) c.word.result) ↔ IsClear marks c.args.rank c.args.loc c.args.access)
    (ap (λ (l : LeastState). l.marks) c.self.view_is)
    (clear_by_test inside.renewals c.args.rank c.args.loc c.args.access (slots_items inside.closed.words) inside.marked.value.marks c.ranges.rank.fits c.self.invariant.3 c.self.invariant.4
    c.word_of.result (c.base_of.result + c.from.result) c.word.result c.word_of.ensures (ap (λ n. n + c.from.result) c.base_of.ensures ∙ ap (λ n. base_of inside.renewals + n) c.from.ensures) c.word.ensures)
