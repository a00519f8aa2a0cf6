use Rattle.std.proofs.Common.{sym, ap, subst, ◌∙◌}
use Rattle.std.specs.Mem.Slots.{slots_items}
use Rattle.mark_board.specs.Markers.{BoardId}
use Rattle.mark_board.specs.Words.{HaveLeast, of_round}
use Rattle.mark_board.proofs.Closing.{closes}
use Rattle.mark_board.proofs.Shown.{same_board, same_id, same_marks, same_number, same_unjoined}
use Rattle.mark_board.proofs.board.Board.close.Goals as goal

pub invariant_of-result : goal.invariant_of-result
invariant_of-result c =
    let v = c.marker.inside.seat.me.0 in
    let words = slots_items c.close_with.result.words in
    let renewals = ap (λ (id : BoardId). id.renewals) (same_board c.marker.view_is ∙ c.requires.here ∙ sym (same_id c.self.view_is)) in
    let least = closes c.self.inside.table.shared.key c.marker.inside.seat.id c.marker.inside.renewals v words (slots_items c.close_with.result.slots)
    c.marker.invariant.1 (same_number c.marker.view_is ∙ c.requires.first) (same_unjoined c.marker.view_is ∙ c.requires.alone) c.marker.invariant.2 c.close_with.ensures.values.2 in
    let marks = same_marks (c.marker.view_is ∙ sym c.of-marked.ensures) in (
      c.close_with.ensures.values.0,
      c.close_with.ensures.counts.0 ∙ c.self.invariant.0,
      c.close_with.ensures.counts.1 ∙ c.self.invariant.1,
      c.self.invariant.3,
      subst (λ shown. HaveLeast words c.self.inside.renewals shown) marks (subst (λ n. HaveLeast words n (of_round c.marker.inside.renewals v.marks)) renewals least),
    )
