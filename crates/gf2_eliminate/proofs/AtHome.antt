-- What the task of a column leaves of cells that are home is what it makes of the bundle that its set takes.
use Rattle.std.specs.Prelude.{◌≡◌, ℕ, ◌<◌, ◌≤◌, List, [], ◌∷◌, length, map, slice_set, IsTrue, Some, refl}
use Rattle.std.specs.List.{AllByRecursion}
use Rattle.std.proofs.Common.{sym, ap, ◌∙◌, subst, length-set}
use Rattle.std.proofs.lemmas.List.{get_or-set_other}
use Rattle.task_order.specs.declared.task.Task.{Task}
use Rattle.rw_sets.specs.Accesses.{Accesses, IsAscending, access_at, writes}
use Rattle.rw_sets.specs.declared.access.Access.TheVariants.{Write}
use Rattle.cell_store.specs.declared.cell.Cell.{Cell}
use Rattle.cell_store.specs.declared.cell.Cell.TheVariants.{Home, Out}
use Rattle.cell_store.specs.Home.{IsHome}
use Rattle.cell_store.specs.Part.{Part}
use Rattle.cell_store.specs.Cells.{AreHome, cell_at, cells_given, cells_taken, part_of, with_value}
use Rattle.cell_store.specs.Values.{homes}
use Rattle.cell_store.specs.Laws.{GivesBackWhatWasTaken, HomesByLocation, PartsByLocation, WritesAtHome, WritesByLocation}
use Rattle.app_laws.specs.declared.child.Child.{Child}
use Rattle.app_laws.specs.Applications.{IsDoneAtHome, IsReady, handed}
use Rattle.mtx_reader.specs.Ascending.{all_from_in, all_in}
use Rattle.mtx_reader.specs.Patterns.{most_rows, most_columns}
use Rattle.gf2_eliminate.specs.declared.line.Line2.{Line2}
use Rattle.gf2_eliminate.specs.Lines.{line_at, AreLines}
use Rattle.gf2_eliminate.specs.Elimination.{eliminated, elimination, set_of, shown, IsElimination}
use Rattle.gf2_eliminate.specs.Plans.{line_in, line_at_home, pivot_among, planned, text_with, with_lines, AreHeld, PutsOneLine}
use Rattle.gf2_eliminate.specs.Lawful.{set_ascending}
use Rattle.gf2_eliminate.proofs.Effects.{all_touched, bundle_found, childless, same_effects, text_found}
use Rattle.gf2_eliminate.proofs.Held.{held_at_home, holders_of}

-- the cells with a line put home
abbrev pub home_put : List (Cell Line2) → ℕ → Line2 → List (Cell Line2)
home_put cells loc line = slice_set cells loc (Home line)

pub puts_one_in_bundle : WritesByLocation Line2 → PutsOneLine line_in (λ bundle loc. access_at bundle.set loc ≡ Some Write) with_value
puts_one_in_bundle laws = record {
  same = λ bundle loc other line apart. ap shown (laws.elsewhere bundle loc other line (λ same. apart (sym same)));
  there = λ bundle loc other line apart there. there;
}

pub puts_one_home : PutsOneLine line_at_home (λ cells loc. IsHome (cell_at cells loc)) home_put
puts_one_home = record {
  same = λ cells loc other line apart. ap shown (get_or-set_other cells loc other (Home line) Out apart);
  there = λ cells loc other line apart there. subst IsHome (sym (get_or-set_other cells loc other (Home line) Out apart)) there;
}

module _ (laws : WritesAtHome Line2) (set : Accesses) where
  part_with_home : (cells : List (Cell Line2)) (pairs : List (ℕ × Line2)) → IsAscending set → AllByRecursion (λ pair. pair.0 < length cells) pairs
      → part_of (with_lines home_put cells pairs) set ≡ with_lines with_value (part_of cells set) pairs
  part_with_home cells [] up below = refl
  part_with_home cells (pair ∷ pairs) up below =
      part_with_home (home_put cells pair.0 pair.1) pairs up (subst (λ n. AllByRecursion (λ p. p.0 < n) pairs) (sym (length-set cells pair.0 (Home pair.1))) below.1)
      ∙ ap (λ part. with_lines with_value part pairs) (laws.part cells set pair.0 pair.1 up below.0)

  taken_with_home : (cells : List (Cell Line2)) (pairs : List (ℕ × Line2)) → AllByRecursion (λ pair. IsTrue (writes set pair.0)) pairs
      → cells_taken (with_lines home_put cells pairs) set ≡ cells_taken cells set
  taken_with_home cells [] written = refl
  taken_with_home cells (pair ∷ pairs) written = taken_with_home (home_put cells pair.0 pair.1) pairs written.1 ∙ laws.taken cells set pair.0 pair.1 written.0

  home_with_home : (cells : List (Cell Line2)) (pairs : List (ℕ × Line2)) → AreHome cells set → AreHome (with_lines home_put cells pairs) set
  home_with_home cells [] home = home
  home_with_home cells (pair ∷ pairs) home = home_with_home (home_put cells pair.0 pair.1) pairs (laws.home cells set pair.0 pair.1 home)

-- the laws of bundles and of cells that are home
pub record HomeLaws : Type 0 where
  pub parts : PartsByLocation Line2
  pub values : HomesByLocation Line2
  pub at_home : WritesAtHome Line2
  pub gives_back : GivesBackWhatWasTaken Line2

module _ (laws : HomeLaws) {rows columns : ℕ} {task : Task} {set : Accesses} {old : List (Cell Line2)} (few-rows : rows ≤ most_rows) (few-columns : columns ≤ most_columns)
    (mine : IsElimination columns task.key.prio task.body) (ready : IsReady (elimination rows columns) task old set) where
  -- these are the lines at home, whichever lines of a matrix the set was taken of
  pub ready_is_held : (lines : List Line2) → AreLines rows columns lines → part_of old set ≡ part_of (homes lines) (set_of rows columns task.body.at lines)
      → AreHeld rows columns task.body.at (line_at_home old) (λ loc. IsHome (cell_at old loc)) lines
  ready_is_held lines fit is = held_at_home laws.parts laws.values few-rows few-columns mine.at fit old set ready.home is

  set_up : IsAscending set
  set_up = subst IsAscending (sym (ap (λ (part : Part Line2). part.set) ready.taken.is)) (set_ascending rows columns task.body.at ready.taken.cells)

  pub done_at_home : (new : List (Cell Line2)) (children : List Child) (text : List ℕ)
      → ((lines : List Line2) → AreHeld rows columns task.body.at (line_at_home old) (λ loc. IsHome (cell_at old loc)) lines
      → new ≡ with_lines home_put old (planned (line_at lines) rows columns task.body.at))
      → ((lines : List Line2) → AreHeld rows columns task.body.at (line_at_home old) (λ loc. IsHome (cell_at old loc)) lines
      → text ≡ text_with task.body.at (pivot_among (line_at lines) (holders_of rows task.body.at lines)))
      → children ≡ [] → IsDoneAtHome (elimination rows columns) task set old children text new
  done_at_home new children text new-is text-is none = record {
    bundle = part_of new set;
    effect = λ lines fit is.
        same_effects (part_is lines fit is) (none ∙ sym (ap (map (handed (elimination rows columns) (eliminated rows columns task.body.at lines).cells)) (childless fit mine.at)))
        (text-is lines (ready_is_held lines fit is) ∙ text_found fit mine.at);
    given = sym (laws.gives_back new set home) ∙ ap (λ cells. cells_given cells (part_of new set)) taken;
  }
    where
      pairs : List Line2 → List (ℕ × Line2)
      pairs lines = planned (line_at lines) rows columns task.body.at

      touched : (lines : List Line2) → AreLines rows columns lines → part_of old set ≡ part_of (homes lines) (set_of rows columns task.body.at lines)
          → AllByRecursion (λ pair. access_at set pair.0 ≡ Some Write) (pairs lines)
      touched lines fit is = subst (λ s. AllByRecursion (λ pair. access_at s pair.0 ≡ Some Write) (pairs lines)) (sym (ap (λ (part : Part Line2). part.set) is)) (all_touched fit mine.at)

      part_is : (lines : List Line2) → AreLines rows columns lines → part_of old set ≡ part_of (homes lines) (set_of rows columns task.body.at lines)
          → part_of new set ≡ part_of (homes (eliminated rows columns task.body.at lines).cells) (set_of rows columns task.body.at lines)
      part_is lines fit is =
          ap (λ cells. part_of cells set) (new-is lines (ready_is_held lines fit is))
          ∙ part_with_home laws.at_home set old (pairs lines) set_up (all_from_in (λ pair. pair.0 < length old) (pairs lines) (λ pair there.
          laws.parts.in_range old set ready.home pair.0 (rw (all_in (λ p. access_at set p.0 ≡ Some Write) (pairs lines) pair (touched lines fit is) there) refl)))
          ∙ ap (λ part. with_lines with_value part (pairs lines)) is ∙ bundle_found fit mine.at laws.values

      new-first : new ≡ with_lines home_put old (pairs ready.taken.cells)
      new-first = new-is ready.taken.cells (ready_is_held ready.taken.cells ready.taken.fit ready.taken.is)

      home : AreHome new set
      home = subst (λ cells. AreHome cells set) (sym new-first) (home_with_home laws.at_home set old (pairs ready.taken.cells) ready.home)

      taken : cells_taken new set ≡ cells_taken old set
      taken = ap (λ cells. cells_taken cells set) new-first ∙ taken_with_home laws.at_home set old (pairs ready.taken.cells) (all_from_in (λ pair. IsTrue (writes set pair.0)) (pairs ready.taken.cells) (λ pair there.
          rw (all_in (λ p. access_at set p.0 ≡ Some Write) (pairs ready.taken.cells) pair (touched ready.taken.cells ready.taken.fit ready.taken.is) there) refl))
