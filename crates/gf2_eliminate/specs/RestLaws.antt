-- Why the tasks of elimination rest: where the task of a column acts, what is outside its set stays with the sets that have it.
use Rattle.std.specs.Prelude.{◌≡◌, ℕ, ◌<◌, false, not, ◌&&◌, ◌==◌, List, Option, Some, None, IsTrue, refl}
use Rattle.std.proofs.Common.{◌⊎◌, inl, inr, sym, ap, ◌∙◌}
use Rattle.std.proofs.lemmas.Bool.{true≢false, false_from_ne_true}
use Rattle.plain_laws.specs.Bools.{same_tests}
use Rattle.rw_sets.specs.Accesses.{writes}
use Rattle.rw_sets.specs.AccessLaws.{has_from_writes}
use Rattle.resting_tasks.specs.Resting.{SetsAreWritten, NoneHasChildren, EachIsSafe, RestIsKept, IsResting}
use Rattle.gf2_eliminate.specs.declared.line.Line2.{Line2}
use Rattle.gf2_eliminate.specs.Lines.{holds}
use Rattle.gf2_eliminate.specs.Elimination.{exactly_one, set_of, pivot_of, lines_after, outcome_with, eliminated, elimination}
use Rattle.gf2_eliminate.specs.Lawful.{one_or_none, IsNamed, OfRow, OfItself, OfColumn, holds_then, named_from_some, writes_from_named, outcome_childless, outcome_moves}

module _ (rows columns : ℕ) where
  module _ (column : ℕ) (cells : List Line2) where
    -- a row that the task hasn't keeps its ones
    row_keeps : (pivot row other : ℕ) → row < rows → other < columns → holds cells row column ≡ false → holds (lines_after rows columns column pivot cells) row other ≡ holds cells row other
    row_keeps pivot row other row-below below free =
        holds_then rows columns column pivot cells row other row-below below
        ∙ ap (λ b. exactly_one (holds cells row other) ((b && not (row == pivot)) && holds cells pivot other)) free ∙ one_or_none (holds cells row other)

    -- what another task names then, where the task names it not
    named_still : (pivot : Option ℕ) (second loc : ℕ) → second < columns → ¬ IsNamed rows columns column cells loc → IsNamed rows columns second cells loc
        → IsNamed rows columns second (outcome_with rows columns column pivot cells).cells loc
    named_still None second loc within apart named = named
    named_still (Some pivot) second loc within apart (OfRow below held) =
        OfRow below (row_keeps pivot loc second below within (false_from_ne_true (holds cells loc column) (λ there. apart (OfRow below there))) ∙ held)
    named_still (Some pivot) second loc within apart (OfItself at) = OfItself at
    named_still (Some pivot) second loc within apart (OfColumn other other-below at shares) =
        let free : holds cells shares.0 column ≡ false = false_from_ne_true (holds cells shares.0 column) (λ there. apart (OfColumn other other-below at (shares.0, shares.1, there, shares.3))) in
        OfColumn other other-below at (
          shares.0,
          shares.1,
          row_keeps pivot shares.0 second shares.1 within free ∙ shares.2,
          row_keeps pivot shares.0 other shares.1 other-below free ∙ shares.3,
        )

  sets_are_written : SetsAreWritten (elimination rows columns)
  sets_are_written task cells loc fit right named = writes_from_named rows columns task.body.at cells loc right.at (named_from_some rows columns task.body.at cells loc named).1

  none_has_children : NoneHasChildren (elimination rows columns)
  none_has_children task cells fit right = outcome_childless rows columns task.body.at cells fit right.at (pivot_of rows columns task.body.at cells)

  each_is_safe : EachIsSafe (elimination rows columns)
  each_is_safe task earlier right others = refl

  rest_is_kept : RestIsKept (elimination rows columns)
  rest_is_kept task other cells loc fit right also unwritten =
      same_tests (writes (set_of rows columns second moved) loc) (writes (set_of rows columns second cells) loc)
      (λ written. was (outcome_moves rows columns column cells fit right.at (pivot_of rows columns column cells) refl second loc also.at
      (named_from_some rows columns second moved loc (has_from_writes (set_of rows columns second moved) loc written)).1))
      (λ written. writes_from_named rows columns second moved loc also.at
      (named_still column cells (pivot_of rows columns column cells) second loc also.at apart
      (named_from_some rows columns second cells loc (has_from_writes (set_of rows columns second cells) loc written)).1))
    where
      column : ℕ
      column = task.body.at

      second : ℕ
      second = other.body.at

      moved : List Line2
      moved = (eliminated rows columns column cells).cells

      apart : ¬ IsNamed rows columns column cells loc
      apart named = true≢false (sym (writes_from_named rows columns column cells loc right.at named) ∙ unwritten)

      was : IsNamed rows columns second cells loc ⊎ IsNamed rows columns column cells loc → IsTrue (writes (set_of rows columns second cells) loc)
      was (inl named) = writes_from_named rows columns second cells loc also.at named
      was (inr named) = absurd (apart named)

  pub are_resting : IsResting (elimination rows columns)
  are_resting = record { written = sets_are_written; childless = none_has_children; safe = each_is_safe; rest_is_kept = rest_is_kept }
