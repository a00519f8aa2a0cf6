use Rattle.std.proofs.Common.{sym, ap, subst, ◌∙◌, ◌-◌, ◌<◌, []}
use Rattle.mark_board.specs.Markers.{BoardId, MarkerState}
use Rattle.mark_board.specs.Words.{AreOfLastRounds}
use Rattle.mark_board.proofs.Rounds.{last_next}
use Rattle.mark_board.proofs.Shown.{next_shown, same_board, same_id, shown}
use Rattle.mark_board.proofs.board.Board.renew.Goals as goal

pub invariant_of-marker : goal.invariant_of-marker
invariant_of-marker c =
    let here = ap (λ (id : BoardId). id.renewals) (same_board c.marker.view_is ∙ c.requires.here ∙ sym (same_id c.self.view_is)) in
    let some = subst (λ (id : BoardId). 0 < id.renewals) (sym (same_id c.self.view_is)) c.requires.some in
    let last = subst (λ n. AreOfLastRounds n c.marker.inside.seat.me.0.marks) here c.marker.invariant.2 in
    (c.marker.invariant.0, c.marker.invariant.1, last_next c.self.inside.renewals c.marker.inside.seat.me.0.marks some last)

pub returns-clause-marker : goal.returns-clause-marker
returns-clause-marker c =
    let table = c.marker.inside.seat.table_id in
    let id = same_board c.marker.view_is ∙ c.requires.here ∙ sym (same_id c.self.view_is) in
    let here = ap (λ (one : BoardId). one.renewals) id in
    let some = subst (λ (one : BoardId). 0 < one.renewals) (sym (same_id c.self.view_is)) c.requires.some in
    let last = subst (λ n. AreOfLastRounds n c.marker.inside.seat.me.0.marks) here c.marker.invariant.2 in
    next_shown table c.self.inside.renewals c.marker.inside.seat.me.0 some last
    ∙ ap (λ n. record (shown table n c.marker.inside.seat.me.0) { board = record { table = table; renewals = c.self.inside.renewals - 1 }; marks = [] }) (sym here)
    ∙ ap (λ (m : MarkerState). record m { board = record { table = table; renewals = c.self.inside.renewals - 1 }; marks = [] }) c.marker.view_is
    ∙ ap (λ (one : BoardId). record c.args.marker.now { board = record { table = one.table; renewals = c.self.inside.renewals - 1 }; marks = [] }) id
