-- Sets of rows and columns as locations, and what two sets have in common.
use Rattle.std.specs.Prelude.{◌≡◌, ℕ, suc, ◌+◌, ◌-◌, ◌<◌, ◌≤◌, Bool, true, false, ◌&&◌, nat_lt, if◌then◌else◌, List, Option, Some, None}
use Rattle.cell_store.specs.declared.cell.Cell.{Cell}
use Rattle.cell_store.specs.Values.{homes, values_of}
use Rattle.mtx_reader.specs.declared.pattern.Pattern.{Pattern}
use Rattle.mtx_reader.specs.Patterns.{IsPattern}
use Rattle.gf2_eliminate.specs.declared.cover.LineCover.{LineCover}
use Rattle.gf2_eliminate.specs.declared.line.Line2.{Line2}
use Rattle.gf2_eliminate.specs.Elimination.{is_shared}
use Rattle.gf2_eliminate.specs.Lines.{has, holds, AreLines}

-- the least place from one on that both sets have
pub record IsLeastCommon (set other : List ℕ) (from place : ℕ) : Type 0 where
  pub beyond : from ≤ place
  pub in_set : has set place ≡ true
  pub in_other : has other place ≡ true
  pub least : (n : ℕ) → from ≤ n → n < place → has set n ≡ true → has other n ≡ false

-- that place, or none where there is none
abbrev pub IsFirstCommon : List ℕ → List ℕ → ℕ → Option ℕ → Type 0
IsFirstCommon set other from None = (n : ℕ) → from ≤ n → has set n ≡ true → has other n ≡ false
IsFirstCommon set other from (Some place) = IsLeastCommon set other from place

-- the least place from one on that a set has and another lacks
pub record IsLeastBeyond (set other : List ℕ) (from place : ℕ) : Type 0 where
  pub beyond : from ≤ place
  pub in_set : has set place ≡ true
  pub not_in_other : has other place ≡ false
  pub least : (n : ℕ) → from ≤ n → n < place → has set n ≡ true → has other n ≡ true

-- that place, or none where there is none
abbrev pub IsFirstBeyond : List ℕ → List ℕ → ℕ → Option ℕ → Type 0
IsFirstBeyond set other from None = (n : ℕ) → from ≤ n → has set n ≡ true → has other n ≡ true
IsFirstBeyond set other from (Some place) = IsLeastBeyond set other from place

-- a location that passes both tests, or none where there is none
abbrev pub IsCommon : (ℕ → Bool) → (ℕ → Bool) → Option ℕ → Type 0
IsCommon one other None = (loc : ℕ) → one loc ≡ true → other loc ≡ false
IsCommon one other (Some loc) = (one loc ≡ true) × (other loc ≡ true)

-- whether a cover has a location: rows and columns stand in it with the places that lines have for them
abbrev pub covers : Pattern → LineCover → ℕ → Bool
covers pattern cover loc =
    if nat_lt loc pattern.rows then has cover.rows (suc loc)
    else nat_lt loc (pattern.rows + pattern.cols) && has cover.columns (suc (loc - pattern.rows))

-- each row of a cover came with the columns in which it has a one
abbrev pub IsClosed : Pattern → List Line2 → LineCover → Type 0
IsClosed pattern cells cover = (row other : ℕ) → row < pattern.rows → other < pattern.cols → has cover.rows (suc row) ≡ true → holds cells row other ≡ true → has cover.columns (suc other) ≡ true

-- the place of a column of the matrix that shares a row with this one and is among these, or none where there is none
abbrev pub IsSharedAmong : Pattern → List Line2 → ℕ → List ℕ → Option ℕ → Type 0
IsSharedAmong pattern cells column among None = (other : ℕ) → is_shared pattern.rows pattern.cols cells column other ≡ true → has among (suc other) ≡ false
IsSharedAmong pattern cells column among (Some place) =
    (1 ≤ place) × (place ≤ pattern.cols) × (is_shared pattern.rows pattern.cols cells column (place - 1) ≡ true) × (has among place ≡ true)

-- a column of a matrix whose lines are all home
pub record IsAtHome (pattern : Pattern) (column : ℕ) (cells : List (Cell Line2)) : Type 0 where
  pub sound : IsPattern pattern
  pub within : column < pattern.cols
  pub home : cells ≡ homes (values_of cells)
  pub fit : AreLines pattern.rows pattern.cols (values_of cells)
