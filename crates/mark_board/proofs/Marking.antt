-- Where a marker notes a rank at a word, the rule is kept.
use Rattle.std.proofs.Common.{◌≡◌, ◌≢◌, ℕ, ◌+◌, ◌*◌, ◌<◌, min, List, [], ◌∷◌, length, set, refl, sym, ap, subst, ◌∙◌, arith, length-set, false}
use Rattle.std.specs.Prelude.{slice_index, slice_set}
use Rattle.std.proofs.lemmas.List.{get_or-set_same, get_or-set_other}
use mathlib.Core.Logic.{dite}
use native.Mathlib.Decide.{ℕ_discrete}
use Rattle.atomic_table.specs.Table.{Allows, Me, State, keeps}
use Rattle.mark_board.specs.declared.view.Mark.{Mark}
use Rattle.mark_board.specs.declared.view.View.{View}
use Rattle.mark_board.specs.Board.{BoardRule, IsAt, with_mark}
use Rattle.mark_board.specs.Words.{least_of, mark_at, no_rank, word_of}
use Rattle.mark_board.proofs.LeastMarks.{least_append, least_below, least_elsewhere, least_here, least_same, least_sinks}
use Rattle.mark_board.proofs.Numbers.{is_marker, numbered_kept}

-- ---- words

pub word_same : (words : List ℕ) (word n : ℕ) → word < length words → slice_index (slice_set words word n) word ≡ n
word_same words word n inside = get_or-set_same words word n 0 inside

pub word_other : (words : List ℕ) (word other n : ℕ) → other ≢ word → slice_index (slice_set words word n) other ≡ slice_index words other
word_other words word other n apart = get_or-set_other words word other n 0 apart

module _ {S : Type 0} {cells : ℕ} {s : State S View} (rule : BoardRule cells s) (place word number : ℕ) (v : View) (mark : Mark) (at : IsAt s.views place v) (unspent : v.spent ≡ false)
    (above : 0 < word) (inside : word < length s.words) (here : word_of mark.loc mark.access ≡ word) (is : mark.rank ≡ number) (below : number < no_rank) where
  abbrev marked : List View
  marked = set s.views place (with_mark v mark)

  sinks : least_of word marked ≡ min (least_of word s.views) number
  sinks =
      let one = least_here word mark here (subst (λ n. n < no_rank) (sym is) below) in
      let all = least_append word v.marks (mark ∷ []) in
      least_sinks word number s.views place v (with_mark v mark) at (omega (arith, one, all, is))

  stays : (other : ℕ) → other ≢ word → least_of other marked ≡ least_of other s.views
  stays other apart =
      let one = least_elsewhere other mark (λ same. apart (sym same ∙ here)) in
      let all = least_append other v.marks (mark ∷ []) in
      let bound = least_below other v.marks in
      least_same other s.views place v (with_mark v mark) at (omega (arith, one, all, bound))

  least : (other : ℕ) → 0 < other → other < length s.words → slice_index (slice_set s.words word (min (slice_index s.words word) number)) other ≡ least_of other marked
  least other from within =
      dite (ℕ_discrete other word)
      (λ (same : other ≡ word). subst (λ n. slice_index (slice_set s.words word (min (slice_index s.words word) number)) n ≡ least_of n marked) (sym same)
      (word_same s.words word (min (slice_index s.words word) number) inside ∙ ap (λ n. min n number) (rule.least word above inside) ∙ sym sinks))
      (λ (apart : other ≢ word). word_other s.words word other (min (slice_index s.words word) number) apart ∙ rule.least other from within ∙ sym (stays other apart))

  pub marked_kept : BoardRule cells (record { words = slice_set s.words word (min (slice_index s.words word) number); homes = s.homes; views = slice_set s.views place (with_mark v mark) })
  marked_kept = record {
    numbered = numbered_kept s.views place v (with_mark v mark) at (record { unspent = refl; number = refl; splits = refl; unjoined = refl }) (is_marker rule.numbered place v at unspent) rule.numbered;
    count = length-set s.words word (min (slice_index s.words word) number) ∙ rule.count;
    origin = word_other s.words word 0 (min (slice_index s.words word) number) (λ same. omega (arith, above, same)) ∙ rule.origin;
    least = λ other from within. least other from (subst (λ n. other < n) (length-set s.words word (min (slice_index s.words word) number)) within);
  }

module _ {S : Type 0} (cells slots id word number : ℕ) (me : Me S View) (unspent : me.0.spent ≡ false) (above : 0 < word) (inside : word < 2 * cells + 1)
    (here : word_of (mark_at word number).loc (mark_at word number).access ≡ word) (below : number < no_rank) where
  pub marks : Allows (BoardRule cells) slots id me word (λ n. min n number) (λ found after. after ≡ (with_mark me.0 (mark_at word number), me.1))
  marks s rule as_many at fits = (
    with_mark me.0 (mark_at word number),
    keeps,
    tt,
    marked_kept rule id word number me.0 (mark_at word number) at unspent above (subst (λ n. word < n) (sym rule.count) inside) here refl below,
    refl,
  )
