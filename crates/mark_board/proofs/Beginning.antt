-- A board begins with one marker and no mark.
use Rattle.std.proofs.Common.{◌≡◌, inr, ℕ, zero, suc, ◌+◌, ◌*◌, ◌<◌, min, List, [], ◌∷◌, length, refl, sym, ap, subst, ◌∙◌, arith, replicate, length-set}
use Rattle.std.specs.Prelude.{slice_index, slice_set}
use Rattle.std.proofs.lemmas.List.{get_or-replicate, length-replicate}
use mathlib.Core.Option.{some-injective, some-ne-none}
use Rattle.plain_laws.specs.Members.{none}
use Rattle.atomic_table.specs.Table.{opening}
use Rattle.mark_board.specs.declared.view.View.{View}
use Rattle.mark_board.specs.Board.{AreNumbered, BoardRule, IsAt, IsMarker, first_view}
use Rattle.mark_board.specs.Words.{no_rank}
use Rattle.mark_board.proofs.Marking.{word_other, word_same}

module _ (v : View) where
  -- the only place is the first one
  only_first : (place : ℕ) (u : View) → IsAt (v ∷ []) place u → (place ≡ 0) × (v ≡ u)
  only_first zero u at = (refl, some-injective v u at)
  only_first (suc place) u at = absurd (some-ne-none u (sym at))

one_marker : AreNumbered (first_view ∷ [])
one_marker = record {
  first = first_view;
  first_is = refl;
  first_lives = record { unspent = refl; number_is = refl };
  count = refl;
  markers = λ place u at.
      let only = only_first first_view place u at in
      inr (subst (λ (x : View). IsMarker place x) only.1 (record { unspent = refl; number_is = sym only.0 }));
  unjoined = λ place. (
    (λ has. absurd (none place has)),
    (λ is. let above = is.0 in let only = (only_first first_view place is.1.0 is.1.1).0 in absurd (omega (arith, above, only))),
  );
  once = tt;
  no_others = λ place u at. let only = (only_first first_view (suc place) u at).0 in absurd (omega (arith, only));
}

filled_at : (count n word : ℕ) → word < count → slice_index (replicate count n) word ≡ n
filled_at count n word inside = get_or-replicate count word n 0 inside

pub begins : (cells : ℕ) (words : List ℕ) → words ≡ slice_set (replicate (2 * cells + 1) no_rank) 0 0 → BoardRule {S = Unit {0}} cells (opening words [] first_view)
begins cells words is =
    let filled : List ℕ = replicate (2 * cells + 1) no_rank in
    let many : length filled ≡ 2 * cells + 1 = length-replicate (2 * cells + 1) no_rank in
    let as_many : length words ≡ length filled = ap (λ (w : List ℕ). length w) is ∙ length-set filled 0 0 in
    record {
      numbered = one_marker;
      count = as_many ∙ many;
      origin = ap (λ (w : List ℕ). slice_index w 0) is ∙ word_same filled 0 0 (omega (arith, many));
      least = λ word above inside. ap (λ (w : List ℕ). slice_index w word) is ∙ word_other filled 0 word 0 (λ same. omega (arith, above, same))
          ∙ filled_at (2 * cells + 1) no_rank word (omega (arith, inside, as_many, many)) ∙ (let same : no_rank ≡ min no_rank no_rank = omega arith in same);
    }
