-- Boards and markers as their callers see them.
use Rattle.std.specs.Prelude.{◌≡◌, ℕ, suc, ◌-◌, ◌<◌, ◌≤◌, not, ◌==◌, List, [], ◌∷◌, ◌++◌, map, filter, Contains, IsTrue, Some}
use Rattle.atomic_table.specs.Seated.{TableId}
use Rattle.rw_sets.specs.declared.access.Access.{Access}
use Rattle.rw_sets.specs.Accesses.{Accesses, access_at, clash, excludes}
use Rattle.mark_board.specs.declared.view.Mark.{Mark}

-- which board it is, in which of its rounds: `renewals` more can follow
pub record BoardId : Type 0 where
  pub table : TableId
  pub renewals : ℕ

-- a board for the locations below `cells`
pub record BoardState : Type 0 where
  pub id : BoardId
  pub cells : ℕ

-- a marker: its number, how many markers were split from it, which of these aren't joined, and its marks of this round
pub record MarkerState : Type 0 where
  pub board : BoardId
  pub number : ℕ
  pub splits : ℕ
  pub unjoined : List ℕ
  pub marks : List Mark

-- the marks of a board that was closed
pub record LeastState : Type 0 where
  pub cells : ℕ
  pub marks : List Mark

-- the first marker of a board
abbrev pub first_marker : BoardId → MarkerState
first_marker id = record { board = id; number = 0; splits = 0; unjoined = []; marks = [] }

-- the board in its next round
abbrev pub renewed : BoardState → BoardState
renewed b = record b { id = record { table = b.id.table; renewals = b.id.renewals - 1 } }

-- a marker from which one more is split, and the new one
abbrev pub split_from : MarkerState → MarkerState
split_from m = record m { splits = suc m.splits; unjoined = suc m.splits ∷ m.unjoined }

abbrev pub split_off : MarkerState → MarkerState
split_off m = record (first_marker m.board) { number = suc m.splits }

abbrev pub without : ℕ → List ℕ → List ℕ
without gone numbers = filter (λ number. not (number == gone)) numbers

-- a marker that takes over what another has
abbrev pub joined : MarkerState → MarkerState → MarkerState
joined m other = record m { unjoined = without other.number m.unjoined; marks = m.marks ++ other.marks }

-- the marks of a set with a rank
abbrev pub marks_of : ℕ → Accesses → List Mark
marks_of rank set = map (λ p. record { loc = p.0; access = p.1; rank = rank }) set

-- the mark is of a lower rank, at a location of the set, and it or the set writes there
pub record Bars (mark : Mark) (rank : ℕ) (set : Accesses) : Type 0 where
  pub lower : mark.rank < rank
  pub clashes : IsTrue (clash (Some mark.access) (access_at set mark.loc))

-- no mark bars the set
abbrev pub IsFree : List Mark → ℕ → Accesses → Type 0
IsFree marks rank set = (mark : Mark) → Contains marks mark → Bars mark rank set → ⊥

-- the mark bars an access to one location
pub record BarsAt (mark : Mark) (rank loc : ℕ) (access : Access) : Type 0 where
  pub lower : mark.rank < rank
  pub here : mark.loc ≡ loc
  pub excluded : IsTrue (excludes mark.access access)

abbrev pub IsFreeAt : List Mark → ℕ → ℕ → Access → Type 0
IsFreeAt marks rank loc access = (mark : Mark) → Contains marks mark → BarsAt mark rank loc access → ⊥

-- no mark of a lower rank stands there for this access
abbrev pub IsClear : List Mark → ℕ → ℕ → Access → Type 0
IsClear marks rank loc access = (mark : Mark) → Contains marks mark → mark.loc ≡ loc → mark.access ≡ access → rank ≤ mark.rank
