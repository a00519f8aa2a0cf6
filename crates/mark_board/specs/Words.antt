-- How marks stand in the words of a board.
use Rattle.std.specs.Prelude.{◌≡◌, ℕ, ◌+◌, ◌-◌, ◌*◌, ◌/◌, ◌%◌, ◌^◌, ◌<◌, ◌≤◌, ◌==◌, List, [], ◌∷◌, length, Contains, slice_index, min, if◌then◌else◌, nat_lt}
use Rattle.rw_sets.specs.declared.access.Access.{Access}
use Rattle.rw_sets.specs.declared.access.Access.TheVariants.{Read, Write}
use Rattle.mark_board.specs.declared.view.Mark.{Mark}
use Rattle.mark_board.specs.declared.view.View.{View}

-- above every rank
abbrev pub no_rank : ℕ
no_rank = 2 ^ 64 - 1

-- how many ranks a round has
abbrev pub ranks : ℕ
ranks = 2 ^ 32

-- the first number of a round that `renewals` more can follow: later rounds have lower numbers
abbrev pub base_of : ℕ → ℕ
base_of renewals = renewals * ranks

-- the word of a location for an access
abbrev pub word_of : ℕ → Access → ℕ
word_of loc Read = 2 * loc + 1
word_of loc Write = 2 * loc + 1 + 1

-- the mark of a number at a word
abbrev pub mark_at : ℕ → ℕ → Mark
mark_at word number = record { loc = (word - 1) / 2; access = if word % 2 == 1 then Read else Write; rank = number }

-- the least number of the marks at a word
abbrev pub least_at : ℕ → List Mark → ℕ
least_at word [] = no_rank
least_at word (mark ∷ marks) = if word_of mark.loc mark.access == word then min mark.rank (least_at word marks) else least_at word marks

-- the least number of the marks of all views at a word
abbrev pub least_of : ℕ → List View → ℕ
least_of word [] = no_rank
least_of word (v ∷ views) = min (least_at word v.marks) (least_of word views)

-- the marks of a round, with their ranks in it
abbrev pub of_round : ℕ → List Mark → List Mark
of_round renewals [] = []
of_round renewals (mark ∷ marks) =
    if nat_lt mark.rank (base_of renewals + ranks) then record mark { rank = mark.rank - base_of renewals } ∷ of_round renewals marks
    else of_round renewals marks

-- they are of this round, or of earlier ones
abbrev pub AreOfLastRounds : ℕ → List Mark → Type 0
AreOfLastRounds renewals marks = (mark : Mark) → Contains marks mark → base_of renewals ≤ mark.rank

-- the words have the least numbers of marks that show these in this round
pub record HaveLeast (words : List ℕ) (renewals : ℕ) (shown : List Mark) : Type 0 where
  pub marks : List Mark
  pub last : AreOfLastRounds renewals marks
  pub shown_is : of_round renewals marks ≡ shown
  pub least : (word : ℕ) → 0 < word → word < length words → slice_index words word ≡ least_at word marks
