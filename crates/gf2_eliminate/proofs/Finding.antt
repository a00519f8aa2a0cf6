-- The columns that rows have, as they are found one row after another.
use Rattle.std.specs.Prelude.{◌≡◌, ℕ, suc, ◌+◌, ◌-◌, ◌<◌, ◌≤◌, Bool, true, ◌||◌, ◌==◌, List, [], ◌∷◌, ◌++◌, length, map, take, refl}
use Rattle.std.specs.List.{AllByRecursion, list_any}
use Rattle.std.specs.Ordering.{nat_cmp}
use Rattle.std.proofs.Common.{◌⊎◌, inl, inr, arith, sym, ap, ◌∙◌, append_assoc, get_or}
use Rattle.std.proofs.lemmas.List.{map-append, map_more}
use Rattle.std.proofs.lemmas.Bool.{eqb-true, eq-eqb, or_cases}
use Rattle.plain_laws.specs.Bools.{same_tests}
use Rattle.rw_sets.specs.declared.access.Access.TheVariants.{Write}
use Rattle.cell_store.specs.declared.cell.Cell.{Cell}
use Rattle.mtx_reader.specs.Ascending.{IsAscendingBy, all_in, all_from_in}
use Rattle.gf2_eliminate.specs.declared.line.Line2.{Line2}
use Rattle.gf2_eliminate.specs.Lines.{has, listed}
use Rattle.gf2_eliminate.specs.Elimination.{writing}
use Rattle.gf2_eliminate.specs.Plans.{locations_behind}
use Rattle.gf2_eliminate.specs.Touched.{is_marked, ones_at, HaveColumns}
use Rattle.gf2_eliminate.specs.Membership.{any_found, in_has, has_in, list_is_listed}
use Rattle.gf2_eliminate.proofs.Marking.{any_more, or_assoc}

-- one row more
pub row_more : (cells : List (Cell Line2)) (column : ℕ) (rows : List ℕ) (i : ℕ) → i < length rows → (n : ℕ) (before : Bool) → before ≡ (column + 1 == n || list_any (λ row. has (ones_at cells (row - 1)) n) (take i rows))
    → (before || has (ones_at cells (get_or rows i 0 - 1)) n) ≡ (column + 1 == n || list_any (λ row. has (ones_at cells (row - 1)) n) (take (i + 1) rows))
row_more cells column rows i below n before was =
    ap (λ b. b || has (ones_at cells (get_or rows i 0 - 1)) n) was
    ∙ or_assoc (column + 1 == n) (list_any (λ row. has (ones_at cells (row - 1)) n) (take i rows)) (has (ones_at cells (get_or rows i 0 - 1)) n)
    ∙ ap (λ b. column + 1 == n || b) (sym (any_more (λ row. has (ones_at cells (row - 1)) n) rows i below))

-- what was found is the column and the ones of its rows
module _ (cells : List (Cell Line2)) (column columns : ℕ) (rows found : List ℕ) (inside : column < columns) (have : HaveColumns cells columns rows) (up : IsAscendingBy nat_cmp found)
    (each : (n : ℕ) → has found n ≡ (column + 1 == n || list_any (λ row. has (ones_at cells (row - 1)) n) rows)) where
  within : (n : ℕ) → (column + 1 == n) ≡ true ⊎ list_any (λ row. has (ones_at cells (row - 1)) n) rows ≡ true → (1 ≤ n) × (n ≤ columns)
  within n (inl itself) = let at = eqb-true (column + 1) n itself in (omega (arith, at), omega (arith, at, inside))
  within n (inr some) =
      let row = any_found (λ row. has (ones_at cells (row - 1)) n) rows some in
      all_in (λ number. (1 ≤ number) × (number ≤ columns)) (ones_at cells (row.0 - 1)) n
      (all_in (λ r. AllByRecursion (λ number. (1 ≤ number) × (number ≤ columns)) (ones_at cells (r - 1))) rows row.0 have row.1) (in_has (ones_at cells (row.0 - 1)) n row.2)

  itself_is : (n : ℕ) → (column + 1 == suc n) ≡ (n == column)
  itself_is n = same_tests (column + 1 == suc n) (n == column) (λ at. eq-eqb n column (omega (arith, eqb-true (column + 1) (suc n) at))) (λ at. eq-eqb (column + 1) (suc n) (omega (arith, eqb-true n column at)))

  pub found_listed : found ≡ listed columns (is_marked cells column rows)
  found_listed = list_is_listed columns (is_marked cells column rows) found
      (record {
        ascending = up;
        within = all_from_in (λ number. (1 ≤ number) × (number ≤ columns)) found
            (λ n there. within n (or_cases (column + 1 == n) (list_any (λ row. has (ones_at cells (row - 1)) n) rows) (sym (each n) ∙ has_in found n there)));
      })
      (λ n below. each (suc n) ∙ ap (λ b. b || list_any (λ row. has (ones_at cells (row - 1)) (suc n)) rows) (itself_is n))

-- columns counted from 1 lie where those counted from 0 do
pub behind_listed : (rows : ℕ) (columns : List ℕ) → locations_behind rows (map suc columns) ≡ map (λ other. rows + other) columns
behind_listed rows [] = refl
behind_listed rows (column ∷ columns) =
    let same : rows + (suc column - 1) ≡ rows + column = omega arith in
    ap (λ loc. loc ∷ locations_behind rows (map suc columns)) same ∙ ap (λ locs. (rows + column) ∷ locs) (behind_listed rows columns)

-- one pair more
pub pairs_more : (front : List ℕ) (f : ℕ → ℕ) (found : List ℕ) (i : ℕ) → i < length found
    → writing (front ++ map f (take (i + 1) found)) ≡ writing (front ++ map f (take i found)) ++ (f (get_or found i 0), Write) ∷ []
pairs_more front f found i below =
    ap (λ ns. writing (front ++ ns)) (map_more f found i 0 below) ∙ ap writing (sym (append_assoc front (map f (take i found)) (f (get_or found i 0) ∷ [])))
    ∙ map-append (λ loc. (loc, Write)) (front ++ map f (take i found)) (f (get_or found i 0) ∷ [])
