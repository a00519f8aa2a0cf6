use Rattle.std.proofs.Common.{sym, ap, subst, ◌∙◌, arith}
use Rattle.mark_board.specs.Markers.{BoardId, MarkerState, joined}
use Rattle.mark_board.specs.Words.{AreOfLastRounds}
use Rattle.mark_board.proofs.Joining.{joins}
use Rattle.mark_board.proofs.Rounds.{last_append}
use Rattle.mark_board.proofs.Shown.{has_number, join_shown, same_board, same_id, shown, still_last}
use Rattle.mark_board.proofs.board.Board.join.Goals as goal

pub join_seat-requires : goal.join_seat-requires
join_seat-requires c =
    let here = same_board c.marker.view_is ∙ c.requires.here ∙ sym (same_id c.self.view_is) in
    let other_here = same_board c.other.view_is ∙ c.requires.other_here ∙ sym (same_id c.self.view_is) in
    let words = c.self.invariant.0 in (
      ap (λ (id : BoardId). id.table) here,
      ap (λ (id : BoardId). id.table) other_here,
      c.other.invariant.0,
      omega (arith, words),
      joins c.self.inside.table.shared.key c.marker.inside.seat.id c.other.inside.seat.id c.marker.inside.seat.me.0 c.other.inside.seat.me.0
          c.marker.invariant.1 c.other.invariant.1 (has_number c.marker.view_is c.other.view_is c.requires.unjoined),
    )

pub invariant_of-marker : goal.invariant_of-marker
invariant_of-marker c =
    let me = c.join_seat.ensures.2 in
    let same = ap (λ (id : BoardId). id.renewals) (same_board c.marker.view_is ∙ c.requires.here ∙ sym (same_board c.other.view_is ∙ c.requires.other_here)) in
    let others = subst (λ n. AreOfLastRounds n c.other.inside.seat.me.0.marks) (sym same) c.other.invariant.2 in (
      ap (λ m. m.1) me ∙ c.marker.invariant.0,
      ap (λ m. m.0.spent) me ∙ c.marker.invariant.1,
      still_last c.marker.inside.renewals (ap (λ m. m.0.marks) me)
          (last_append c.marker.inside.renewals c.marker.inside.seat.me.0.marks c.other.inside.seat.me.0.marks c.marker.invariant.2 others),
    )

pub returns : goal.returns
returns c =
    let table = c.marker.inside.seat.table_id in
    let renewals = c.marker.inside.renewals in
    let same = same_board c.marker.view_is ∙ c.requires.here ∙ sym (same_board c.other.view_is ∙ c.requires.other_here) in
    ap (λ id. shown id renewals c.join_seat.new.seat.me.0) c.join_seat.ensures.0
    ∙ ap (λ m. shown table renewals m.0) c.join_seat.ensures.2
    ∙ join_shown table renewals c.marker.inside.seat.me.0 c.other.inside.seat.me.0
    ∙ ap (λ (id : BoardId). joined (shown table renewals c.marker.inside.seat.me.0) (shown id.table id.renewals c.other.inside.seat.me.0)) same
    ∙ ap (λ (m : MarkerState). joined m (shown c.other.inside.seat.table_id c.other.inside.renewals c.other.inside.seat.me.0)) c.marker.view_is
    ∙ ap (λ (m : MarkerState). joined c.args.marker.now m) c.other.view_is
