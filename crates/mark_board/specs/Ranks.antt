-- Sets that are marked with their places in a list.
use Rattle.std.specs.Prelude.{ℕ, suc, ◌↔◌, List, [], ◌∷◌, ◌++◌, Contains, take}
use Rattle.std.specs.List.{AllByRecursion}
use Rattle.rw_sets.specs.Accesses.{Accesses, Conflicts, IsAscending}
use Rattle.mark_board.specs.declared.view.Mark.{Mark}
use Rattle.mark_board.specs.Markers.{IsFree, marks_of}

-- the marks of sets with their ranks, counted from a number on
abbrev pub marks_from : ℕ → List Accesses → List Mark
marks_from rank [] = []
marks_from rank (set ∷ sets) = marks_of rank set ++ marks_from (suc rank) sets

-- each set is marked with its rank and nothing else is marked, in whatever order
abbrev pub AreMarksOf : List Accesses → List Mark → Type 0
AreMarksOf sets marks = (mark : Mark) → Contains marks mark ↔ Contains (marks_from 0 sets) mark

-- no set of a lower rank conflicts with the set
abbrev pub IsUnbarred : List Accesses → ℕ → Accesses → Type 0
IsUnbarred sets rank set = AllByRecursion (λ earlier. ¬ Conflicts earlier set) (take rank sets)

-- free is what no set of a lower rank conflicts with
abbrev pub FreeRanksAreUnbarred : Type 0
FreeRanksAreUnbarred = (sets : List Accesses) (marks : List Mark) (rank : ℕ) (set : Accesses) → AllByRecursion IsAscending sets → AreMarksOf sets marks →
    IsFree marks rank set ↔ IsUnbarred sets rank set
