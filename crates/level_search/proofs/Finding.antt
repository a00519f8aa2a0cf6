-- What a visit makes of what was found before it.
use Rattle.std.specs.Prelude.{◌≡◌, ℕ, zero, suc, ◌-◌, ◌<◌, true, false, List, [], ◌∷◌, ◌++◌, length, slice_set, refl}
use Rattle.std.proofs.Common.{arith, sym, ◌∙◌, get_or}
use Rattle.std.proofs.lemmas.Bool.{cond-false, cond-true}
use Rattle.mtx_reader.specs.declared.pattern.Pattern.{Pattern}
use Rattle.level_walk.specs.declared.level.Level.{Level}
use Rattle.level_walk.specs.declared.level.Level.TheVariants.{Unset, At}
use Rattle.level_walk.specs.Levels.{visit_text}
use Rattle.level_search.specs.Turns.{Left, after_visit, is_unset, next_vertices}

unset_here : (levels : List Level) (loc : ℕ) (here : Level) → loc < length levels → get_or levels loc here ≡ Unset → is_unset levels loc ≡ true
unset_here [] loc here within is = absurd (omega (arith, within))
unset_here (Unset ∷ levels) zero here within is = refl
unset_here (At level ∷ levels) zero here within is = absurd cc
unset_here (Unset ∷ levels) (suc loc) here within is = unset_here levels loc here (omega (arith, within)) is
unset_here (At level ∷ levels) (suc loc) here within is = unset_here levels loc here (omega (arith, within)) is

set_here : (levels : List Level) (loc level : ℕ) (here : Level) → get_or levels loc here ≡ At level → is_unset levels loc ≡ false
set_here [] loc level here is = refl
set_here (Unset ∷ levels) zero level here is = absurd cc
set_here (At other ∷ levels) zero level here is = refl
set_here (Unset ∷ levels) (suc loc) level here is = set_here levels loc level here is
set_here (At other ∷ levels) (suc loc) level here is = set_here levels loc level here is

module _ (pattern : Pattern) (level : ℕ) (left : Left) (vertex : ℕ) (here : Level) (is : here ≡ get_or left.levels (vertex - 1) here) where
  -- what the first visit to the vertex leaves
  reached : Left
  reached = record {
    levels = slice_set left.levels (vertex - 1) (At level);
    lines = left.lines ++ visit_text vertex level;
    next = left.next ++ next_vertices pattern vertex level;
  }

  -- a visit to a vertex that has a level leaves all as it is
  pub after_passing : (earlier : ℕ) → here ≡ At earlier → left ≡ after_visit pattern level left vertex
  unfolding reached
  after_passing earlier set = sym (cond-false (is_unset left.levels (vertex - 1)) reached left (set_here left.levels (vertex - 1) earlier here (sym is ∙ set)))

  -- one to a vertex that has none gives it the level
  pub after_reaching : vertex - 1 < length left.levels → here ≡ Unset → (lines next : List ℕ)
      → lines ≡ left.lines ++ visit_text vertex level → next ≡ left.next ++ next_vertices pattern vertex level
      → record { levels = slice_set left.levels (vertex - 1) (At level); lines = lines; next = next } ≡ after_visit pattern level left vertex
  unfolding reached
  after_reaching within unset lines next lines-are next-are =
      let made : record { levels = slice_set left.levels (vertex - 1) (At level); lines = lines; next = next } ≡ reached =
      (λ i. record { levels = slice_set left.levels (vertex - 1) (At level); lines = lines-are i; next = next-are i }) in
      made ∙ sym (cond-true (is_unset left.levels (vertex - 1)) reached left (unset_here left.levels (vertex - 1) here within (sym is ∙ unset)))
