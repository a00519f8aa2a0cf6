-- Where the first marker is the only one, a word that it reads has the least number of its own marks.
use Rattle.std.proofs.Common.{◌≡◌, ℕ, ◌+◌, ◌*◌, ◌<◌, List, [], refl, sym, subst, false}
use Rattle.std.specs.Prelude.{slice_index, slice_set}
use Rattle.std.proofs.lemmas.List.{set-get_or}
use Rattle.atomic_table.specs.Table.{Allows, Me, keeps}
use Rattle.atomic_table.proofs.Lists.{set_again}
use Rattle.mark_board.specs.declared.view.View.{View}
use Rattle.mark_board.specs.Board.{BoardRule}
use Rattle.mark_board.specs.Words.{least_at}
use Rattle.mark_board.proofs.Closing.{least_alone}

module _ {S : Type 0} (cells slots id word : ℕ) (me : Me S View) (unspent : me.0.spent ≡ false) (first : me.0.number ≡ 0) (alone : me.0.unjoined ≡ []) (above : 0 < word)
    (inside : word < 2 * cells + 1) where
  pub looks : Allows (BoardRule cells) slots id me word (λ n. n) (λ found after. (after ≡ me) × (found ≡ least_at word me.0.marks))
  looks s rule as_many at fits =
      let words : slice_set s.words word (slice_index s.words word) ≡ s.words = set-get_or s.words word 0 in
      let views : slice_set s.views id me.0 ≡ s.views = set_again s.views id me.0 at in (
        me.0,
        keeps,
        tt,
        subst (λ (w : List ℕ). BoardRule cells (record { words = w; homes = s.homes; views = slice_set s.views id me.0 })) (sym words)
            (subst (λ (v : List View). BoardRule cells (record { words = s.words; homes = s.homes; views = v })) (sym views) rule),
        (refl, least_alone rule id me.0 at unspent first alone word above (subst (λ n. word < n) (sym rule.count) inside)),
      )
