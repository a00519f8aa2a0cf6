-- Where all markers are joined, the first one has the marks of all.
use Rattle.std.proofs.Common.{◌≡◌, ⊎_elim, ℕ, zero, suc, ◌<◌, List, [], length, set, refl, sym, ap, subst, ◌∙◌, arith, false}
use Rattle.std.specs.Prelude.{Contains, slice_index}
use Rattle.plain_laws.specs.Members.{none}
use Rattle.atomic_table.specs.Table.{Final, Seen, State}
use Rattle.mark_board.specs.declared.view.View.{View}
use Rattle.mark_board.specs.Board.{BoardRule, IsAt, IsMarker, spent_view}
use Rattle.mark_board.specs.Words.{AreOfLastRounds, HaveLeast, least_at, of_round}
use Rattle.mark_board.proofs.LeastMarks.{least_apart, least_below, least_none}
use Rattle.mark_board.proofs.Numbers.{first_place, is_first, other_at}

module _ {S : Type 0} {cells : ℕ} {s : State S View} (rule : BoardRule cells s) (id : ℕ) (v : View) (at : IsAt s.views id v) (unspent : v.spent ≡ false) (first : v.number ≡ 0)
    (alone : v.unjoined ≡ []) where
  at_zero : IsAt s.views 0 v
  at_zero = subst (λ n. IsAt s.views n v) (first_place rule.numbered id v at unspent first) at

  others_gone : (place : ℕ) (u : View) → IsAt s.views (suc place) u → u ≡ spent_view
  others_gone place u here = ⊎_elim
      (λ gone. gone)
      (λ (is : IsMarker (suc place) u).
      let has = (rule.numbered.unjoined (suc place)).1 (omega arith, (u, here, is)) in
      let same : rule.numbered.first.unjoined ≡ [] = ap (λ (x : View). x.unjoined) (is_first rule.numbered 0 v at_zero refl) ∙ alone in
      absurd (none (suc place) (subst (λ (xs : List ℕ). Contains xs (suc place)) same has)))
      (rule.numbered.markers (suc place) u here)

  -- who is alone has all marks
  pub least_alone : (word : ℕ) → 0 < word → word < length s.words → slice_index s.words word ≡ least_at word v.marks
  least_alone word above inside =
      let all = rule.least word above inside in
      let apart = least_apart word s.views 0 v spent_view at_zero refl in
      let bound = least_below word v.marks in
      let others = least_none word (set s.views 0 spent_view) none_there in
      omega (arith, all, apart, bound, others)
    where
      none_there : (place : ℕ) (u : View) → IsAt (set s.views 0 spent_view) place u → u.marks ≡ []
      none_there zero u here = ⊎_elim (λ is. sym (ap (λ (x : View). x.marks) is.1)) (λ other. absurd (other.0 refl)) (other_at s.views 0 v spent_view at_zero zero u here)
      none_there (suc place) u here = ⊎_elim (λ is. sym (ap (λ (x : View). x.marks) is.1)) (λ other. ap (λ (x : View). x.marks) (others_gone place u other.1)) (other_at s.views 0 v spent_view at_zero (suc place) u here)

pub closes : {S : Type 0} (cells id renewals : ℕ) (v : View) (words : List ℕ) (slots : List S) → v.spent ≡ false → v.number ≡ 0 → v.unjoined ≡ [] → AreOfLastRounds renewals v.marks
    → Final (Seen (BoardRule cells) id v) words slots → HaveLeast words renewals (of_round renewals v.marks)
closes cells id renewals v words slots unspent first alone last (s, seen, words_are, as_many, lie) = record {
  marks = v.marks;
  last = last;
  shown_is = refl;
  least = λ word above inside. subst (λ (w : List ℕ). slice_index w word ≡ least_at word v.marks) words_are
      (least_alone seen.0 id v seen.1 unspent first alone word above (subst (λ (w : List ℕ). word < length w) (sym words_are) inside));
}
