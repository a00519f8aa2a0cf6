use Rattle.std.proofs.Common.{◌≡◌, ◌+◌, ◌*◌, ◌<◌, ◌≤◌, ℕ, List, sym, ap, subst, ◌∙◌, arith}
use Rattle.std.specs.Prelude.{◌↔◌, IsTrue}
use lib.Dec.{leb}
use Rattle.mark_board.specs.declared.view.Mark.{Mark}
use Rattle.mark_board.specs.Markers.{BoardId, IsClear}
use Rattle.mark_board.specs.Words.{base_of, least_at, ranks}
use Rattle.mark_board.proofs.Clear.{least_tells}
use Rattle.mark_board.proofs.Looking.{looks}
use Rattle.mark_board.proofs.Rounds.{word_above, word_inside}
use Rattle.mark_board.proofs.Shown.{same_board, same_cells, same_id, same_marks, same_number, same_unjoined, still_last}
use Rattle.mark_board.proofs.board.Board.is_clear.Goals as goal

pub load-requires : goal.load-requires
load-requires c =
    let here = same_board c.marker.view_is ∙ c.requires.here ∙ sym (same_id c.self.view_is) in
    let word : ℕ = c.word_of-read.result in
    let word_is = c.word_of-read.ensures in
    let cells = same_cells c.self.view_is in
    let within = word_inside c.args.loc c.args.self.now.cells c.args.access c.requires.in_range in
    let words = c.self.invariant.0 in
    let key = c.self.invariant.2 in
    let inside : word < 2 * c.self.inside.cells + 1 = omega (arith, within, word_is, cells) in (
      ap (λ (id : BoardId). id.table) here,
      omega (arith, inside, words),
      looks c.self.inside.table.shared.key c.self.inside.table.shared.table_id.slots c.marker.inside.seat.id word c.marker.inside.seat.me c.marker.invariant.1
          (same_number c.marker.view_is ∙ c.requires.first) (same_unjoined c.marker.view_is ∙ c.requires.alone)
          (subst (λ n. 0 < n) (sym word_is) (word_above c.args.loc c.args.access))
          (omega (arith, inside, key)),
    )

pub invariant_of-marker : goal.invariant_of-marker
invariant_of-marker c =
    let me = c.load.ensures.2.0 in
    (ap (λ m. m.1) me ∙ c.marker.invariant.0, ap (λ m. m.0.spent) me ∙ c.marker.invariant.1, still_last c.marker.inside.renewals (ap (λ m. m.0.marks) me) c.marker.invariant.2)

pub returns-clause-answer : goal.returns-clause-answer
returns-clause-answer c =
    let here = ap (λ (id : BoardId). id.renewals) (same_board c.marker.view_is ∙ c.requires.here ∙ sym (same_id c.self.view_is)) in
    let number : c.base_of.result + c.from.result ≡ base_of c.marker.inside.renewals + c.args.rank =
    ap (λ n. n + c.from.result) (c.base_of.ensures ∙ ap base_of (sym here)) ∙ ap (λ n. base_of c.marker.inside.renewals + n) c.from.ensures in
    let least = c.load.ensures.2.1 ∙ ap (λ n. least_at n c.marker.inside.seat.me.0.marks) c.word_of-read.ensures in
    subst (λ (marks : List Mark). IsTrue (leb (c.base_of.result + c.from.result) c.load.result) ↔ IsClear marks c.args.rank c.args.loc c.args.access) (same_marks c.marker.view_is)
    (least_tells c.marker.inside.renewals c.args.rank c.args.loc c.args.access c.marker.inside.seat.me.0.marks c.ranges.rank.fits
    (subst (λ n. n + 2 ≤ ranks) (sym here) c.self.invariant.3) c.marker.invariant.2 (c.base_of.result + c.from.result) c.load.result number least)
