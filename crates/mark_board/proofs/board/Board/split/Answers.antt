use Rattle.std.proofs.Common.{sym, ap, ◌∙◌, arith}
use Rattle.mark_board.specs.Markers.{BoardId}
use Rattle.mark_board.proofs.Shown.{same_board, same_id, same_number, still_last}
use Rattle.mark_board.proofs.Splitting.{splits}
use Rattle.mark_board.proofs.board.Board.split.Goals as goal

pub split_seat-seat-requires : goal.split_seat-seat-requires
split_seat-seat-requires c =
    let here = same_board c.marker.view_is ∙ c.requires.here ∙ sym (same_id c.self.view_is) in
    let words = c.self.invariant.0 in (
      ap (λ (id : BoardId). id.table) here,
      omega (arith, words),
      splits c.self.inside.table.shared.key c.marker.inside.seat.id c.marker.inside.seat.me.0 c.marker.invariant.1 (same_number c.marker.view_is ∙ c.requires.first),
    )

pub invariant_of-marker : goal.invariant_of-marker
invariant_of-marker c =
    let me = c.split_seat-seat.ensures.2 in
    (ap (λ m. m.1) me ∙ c.marker.invariant.0, ap (λ m. m.0.spent) me ∙ c.marker.invariant.1, still_last c.marker.inside.renewals (ap (λ m. m.0.marks) me) c.marker.invariant.2)
