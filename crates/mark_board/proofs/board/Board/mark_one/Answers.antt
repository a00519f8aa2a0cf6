use Rattle.std.proofs.Common.{◌≡◌, ◌+◌, ◌*◌, ◌<◌, ◌++◌, [], ◌∷◌, ℕ, sym, ap, subst, ◌∙◌, arith}
use Rattle.mark_board.specs.Board.{with_mark}
use Rattle.mark_board.specs.Markers.{BoardId, MarkerState}
use Rattle.mark_board.specs.Words.{base_of, mark_at, no_rank, word_of}
use Rattle.mark_board.proofs.Rounds.{mark_of_word, word_above, word_inside}
use Rattle.mark_board.proofs.Marking.{marks}
use Rattle.mark_board.proofs.Shown.{is_marked, mark_shown, same_board, same_cells, same_id, shown}
use Rattle.mark_board.proofs.board.Board.mark_one.Goals as goal

pub fetch_min-requires : goal.fetch_min-requires
fetch_min-requires c =
    let here = same_board c.marker.view_is ∙ c.requires.here ∙ sym (same_id c.self.view_is) in
    let invariant = c.self.invariant in
    let word : ℕ = c.word_of-word.result in
    let number : ℕ = c.base_of.result + c.from.result in
    let word_is = c.word_of-word.ensures in
    let base = c.base_of.ensures in
    let rank = c.from.ensures in
    let rank_fits = c.ranges.rank.fits in
    let renewals_fit = invariant.3 in
    let cells = same_cells c.self.view_is in
    let within = word_inside c.args.loc c.args.self.now.cells c.args.access c.requires.in_range in
    let words = invariant.0 in
    let key = invariant.2 in
    let below : number < no_rank = omega (arith, base, rank, rank_fits, renewals_fit) in
    let inside : word < 2 * c.self.inside.cells + 1 = omega (arith, within, word_is, cells) in (
      ap (λ (id : BoardId). id.table) here,
      omega (arith, inside, words),
      marks c.self.inside.table.shared.key c.self.inside.table.shared.table_id.slots c.marker.inside.seat.id word number c.marker.inside.seat.me c.marker.invariant.1
          (subst (λ n. 0 < n) (sym word_is) (word_above c.args.loc c.args.access))
          (omega (arith, inside, key))
          (subst (λ n. word_of (mark_at n number).loc (mark_at n number).access ≡ n) (sym word_is) (ap (λ mark. word_of mark.loc mark.access) (mark_of_word c.args.loc c.args.access number)))
          below,
    )

pub invariant_of-marker : goal.invariant_of-marker
invariant_of-marker c =
    let here = ap (λ (id : BoardId). id.renewals) (same_board c.marker.view_is ∙ c.requires.here ∙ sym (same_id c.self.view_is)) in
    let base = c.base_of.ensures ∙ ap base_of (sym here) in
    let is = is_marked c.marker.inside.renewals c.word_of-word.result (c.base_of.result + c.from.result) c.marker.inside.seat.me c.fetch_min.new.seat.me
    c.fetch_min.ensures.2 (omega (arith, base)) c.marker.invariant.0 c.marker.invariant.1 c.marker.invariant.2 in
    (is.empty, is.unspent, is.last)

pub returns : goal.returns
returns c =
    let here = ap (λ (id : BoardId). id.renewals) (same_board c.marker.view_is ∙ c.requires.here ∙ sym (same_id c.self.view_is)) in
    let number : c.base_of.result + c.from.result ≡ base_of c.marker.inside.renewals + c.args.rank =
    ap (λ n. n + c.from.result) (c.base_of.ensures ∙ ap base_of (sym here)) ∙ ap (λ n. base_of c.marker.inside.renewals + n) c.from.ensures in
    let v = c.marker.inside.seat.me.0 in
    ap (λ table. shown table c.marker.inside.renewals c.fetch_min.new.seat.me.0) c.fetch_min.ensures.0
    ∙ ap (λ me. shown c.marker.inside.seat.table_id c.marker.inside.renewals me.0) c.fetch_min.ensures.2
    ∙ ap (λ n. shown c.marker.inside.seat.table_id c.marker.inside.renewals (with_mark v (mark_at n (c.base_of.result + c.from.result)))) c.word_of-word.ensures
    ∙ ap (λ n. shown c.marker.inside.seat.table_id c.marker.inside.renewals (with_mark v (mark_at (word_of c.args.loc c.args.access) n))) number
    ∙ mark_shown c.marker.inside.seat.table_id c.marker.inside.renewals c.args.loc c.args.access c.args.rank v c.ranges.rank.fits
    ∙ ap (λ (m : MarkerState). record m { marks = m.marks ++ record { loc = c.args.loc; access = c.args.access; rank = c.args.rank } ∷ [] }) c.marker.view_is
