-- A cover that has just the sets of several tasks has with each row the columns in which it has a one.
use Rattle.std.specs.Prelude.{◌≡◌, ℕ, ◌+◌, ◌<◌, true, List, [], ◌∷◌, refl}
use Rattle.std.proofs.Common.{inl, inr, arith, sym, ◌∙◌}
use Rattle.std.proofs.lemmas.Bool.{false≢true, or_cases, or_left, or_right}
use Rattle.task_order.specs.declared.task.Task.{Task}
use Rattle.rw_sets.specs.Accesses.{writes}
use Rattle.rw_sets.specs.AccessLaws.{has_from_writes}
use Rattle.app_laws.specs.Applications.{AreFitTasks}
use Rattle.mtx_reader.specs.declared.pattern.Pattern.{Pattern}
use Rattle.resting_tasks.specs.Resting.{any_has, HasSets}
use Rattle.gf2_eliminate.specs.declared.cover.LineCover.{LineCover}
use Rattle.gf2_eliminate.specs.declared.line.Line2.{Line2}
use Rattle.gf2_eliminate.specs.Covers.{covers, IsClosed}
use Rattle.gf2_eliminate.specs.Elimination.{elimination, set_of}
use Rattle.gf2_eliminate.specs.Lines.{holds}
use Rattle.gf2_eliminate.specs.Lawful.{IsNamed, OfRow, OfItself, OfColumn, named_from_some, writes_from_named}
use Rattle.gf2_eliminate.proofs.Covering.{covers_column, covers_row}

module _ (rows columns : ℕ) (cells : List Line2) (row other : ℕ) (row-below : row < rows) (below : other < columns) (has-it : holds cells row other ≡ true) where
  -- a set that has the row has the column too
  set_closed : (column : ℕ) → column < columns → writes (set_of rows columns column cells) row ≡ true → writes (set_of rows columns column cells) (rows + other) ≡ true
  set_closed column within written =
      writes_from_named rows columns column cells (rows + other) within (by_row (named_from_some rows columns column cells row (has_from_writes (set_of rows columns column cells) row written)).1)
    where
      by_row : IsNamed rows columns column cells row → IsNamed rows columns column cells (rows + other)
      by_row (OfRow same held) = OfColumn other below refl (row, row-below, held, has-it)
      by_row (OfItself at) = absurd (omega (arith, row-below, at))
      by_row (OfColumn third third-below at shares) = absurd (omega (arith, row-below, at))

  sets_closed : (tasks : List Task) → AreFitTasks (elimination rows columns) tasks → any_has (elimination rows columns) cells tasks row ≡ true → any_has (elimination rows columns) cells tasks (rows + other) ≡ true
  sets_closed [] fit has = absurd (false≢true has)
  sets_closed (task ∷ tasks) fit has = elim (or_cases (writes (set_of rows columns task.body.at cells) row) (any_has (elimination rows columns) cells tasks row) has) [
    | inl here ↦
        or_left (writes (set_of rows columns task.body.at cells) (rows + other)) (any_has (elimination rows columns) cells tasks (rows + other)) (set_closed task.body.at fit.0.at here)
    | inr later ↦
        or_right (writes (set_of rows columns task.body.at cells) (rows + other)) (any_has (elimination rows columns) cells tasks (rows + other)) (sets_closed tasks fit.1 later)
  ]

pub closed : (pattern : Pattern) (cells : List Line2) (cover : LineCover) (tasks : List Task) → AreFitTasks (elimination pattern.rows pattern.cols) tasks
    → HasSets (elimination pattern.rows pattern.cols) (covers pattern cover) cells tasks → IsClosed pattern cells cover
closed pattern cells cover tasks fit has row other row-below below in-rows has-it =
    sym (covers_column pattern cover other below) ∙ has (pattern.rows + other)
    ∙ sets_closed pattern.rows pattern.cols cells row other row-below below has-it tasks fit (sym (has row) ∙ covers_row pattern cover row row-below ∙ in-rows)
