-- What holds of a board between any two steps, and what each kind of step makes of a marker's view.
use Rattle.std.specs.Prelude.{◌≡◌, ◌≢◌, ◌⊎◌, ◌↔◌, ℕ, suc, ◌+◌, ◌*◌, ◌<◌, true, false, List, [], ◌∷◌, ◌++◌, length, slice_index, Contains}
use Rattle.std.specs.List.{AllByRecursion}
use mathlib.Core.Option.{some}
use lib.ListN.{get_elem?}
use Rattle.atomic_table.specs.Table.{State, Me, Step}
use Rattle.mark_board.specs.declared.view.Mark.{Mark}
use Rattle.mark_board.specs.declared.view.View.{View}
use Rattle.mark_board.specs.Markers.{without}
use Rattle.mark_board.specs.Words.{least_at, least_of, mark_at}

-- what a board's first marker knows
abbrev pub first_view : View
first_view = record { number = 0; splits = 0; unjoined = []; marks = []; spent = false }

-- the view of a marker that was joined away
abbrev pub spent_view : View
spent_view = record { number = 0; splits = 0; unjoined = []; marks = []; spent = true }

-- one more marker is split from it
abbrev pub first_half : View → View
first_half v = record v { splits = suc v.splits; unjoined = suc v.splits ∷ v.unjoined }

abbrev pub second_half : View → View
second_half v = record first_view { number = suc v.splits }

-- it takes over what the other has
abbrev pub both_views : View → View → View
both_views v w = record v { unjoined = without w.number v.unjoined; marks = v.marks ++ w.marks }

-- it has one mark more
abbrev pub with_mark : View → Mark → View
with_mark v mark = record v { marks = v.marks ++ mark ∷ [] }

-- the view at a place is this one
abbrev pub IsAt : List View → ℕ → View → Type 0
IsAt views place v = get_elem? views place ≡ some v

-- the marker at this place, which is its number, wasn't joined away
pub record IsMarker (place : ℕ) (v : View) : Type 0 where
  pub unspent : v.spent ≡ false
  pub number_is : v.number ≡ place

-- the markers that were split from the first one and aren't joined are just the others that there are
abbrev pub IsUnjoined : List View → ℕ → Type 0
IsUnjoined views place = (0 < place) × ((v : View) × IsAt views place v × IsMarker place v)

abbrev pub EachOnce : List ℕ → Type 0
EachOnce [] = Unit {0}
EachOnce (number ∷ numbers) = AllByRecursion (λ other. number ≢ other) numbers × EachOnce numbers

-- Markers are numbered by their places. The first is there, and those that were split from it and aren't joined are noted in its
-- view, each once.
pub record AreNumbered (views : List View) : Type 0 where
  pub first : View
  pub first_is : IsAt views 0 first
  pub first_lives : IsMarker 0 first
  pub count : length views ≡ suc first.splits
  pub markers : (place : ℕ) (v : View) → IsAt views place v → (v ≡ spent_view) ⊎ IsMarker place v
  pub unjoined : (place : ℕ) → Contains first.unjoined place ↔ IsUnjoined views place
  pub once : EachOnce first.unjoined
  pub no_others : (place : ℕ) (v : View) → IsAt views (suc place) v → v.unjoined ≡ []

-- Word 0 is always 0. Each word of a location has the least number that one of the markers noted there.
pub record BoardRule {S : Type 0} (cells : ℕ) (s : State S View) : Type 0 where
  pub numbered : AreNumbered s.views
  pub count : length s.words ≡ 2 * cells + 1
  pub origin : slice_index s.words 0 ≡ 0
  pub least : (word : ℕ) → 0 < word → word < length s.words → slice_index s.words word ≡ least_of word s.views

-- the view has one mark more
abbrev pub Marks : {S : Type 0} → Step S → Me S View → ℕ → Me S View → Type 0
Marks step before found after = after ≡ (with_mark before.0 (mark_at step.word step.first), before.1)

-- a look by the first marker, where there is no other: it finds the least number of its own
abbrev pub Looks : {S : Type 0} → Step S → Me S View → ℕ → Me S View → Type 0
Looks step before found after = (after ≡ before) × (found ≡ least_at step.word before.0.marks)
