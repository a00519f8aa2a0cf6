-- The board of a round.
use Rattle.std.specs.Prelude.{◌≡◌, ℕ, []}
use Rattle.mark_board.specs.Markers.{BoardState, MarkerState}

-- a board for these many locations, on which nobody else marks
pub record IsAlone (cells : ℕ) (board : BoardState) (marker : MarkerState) : Type 0 where
  pub here : marker.board ≡ board.id
  pub first : marker.number ≡ 0
  pub alone : marker.unjoined ≡ []
  pub wide : board.cells ≡ cells

-- and on which nothing is marked
pub record IsFresh (cells : ℕ) (board : BoardState) (marker : MarkerState) : Type 0 where
  pub alone : IsAlone cells board marker
  pub none : marker.marks ≡ []
