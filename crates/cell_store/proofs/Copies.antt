-- What is copied of the cells that a set reads.
use Rattle.std.proofs.Common.{◌≡◌, ℕ, ◌+◌, ◌<◌, ◌≤◌, false, List, [], ◌∷◌, ◌++◌, length, get_or, map, take, refl, ap, ◌∙◌, arith}
use Rattle.std.proofs.lemmas.List.{take_more, map-append, get_or_default}
use Rattle.rw_sets.specs.declared.access.Access.{Access}
use Rattle.rw_sets.specs.declared.access.Access.TheVariants.{Read, Write}
use Rattle.rw_sets.specs.Accesses.{Accesses, is_write}
use Rattle.cell_store.specs.declared.cell.Cell.{Cell}
use Rattle.cell_store.specs.Cells.{cell_at, read_copy}

-- up to four items, one by one
pub few_mapped : {X Y : Type 0} (f : X → Y) (d : X) (xs : List X) → length xs ≤ 4 → take (length xs) (f (get_or xs 0 d) ∷ f (get_or xs 1 d) ∷ f (get_or xs 2 d) ∷ f (get_or xs 3 d) ∷ []) ≡ map f xs
few_mapped f d [] few = refl
few_mapped f d (a ∷ []) few = refl
few_mapped f d (a ∷ b ∷ []) few = refl
few_mapped f d (a ∷ b ∷ c ∷ []) few = refl
few_mapped f d (a ∷ b ∷ c ∷ e ∷ []) few = refl
few_mapped f d (a ∷ b ∷ c ∷ e ∷ g ∷ xs) few = absurd (omega arith)

module _ {V : Type 0} (cells : List (Cell V)) (ps : Accesses) (i : ℕ) where
  pub copies_more : i < length ps → map (read_copy cells) (take (i + 1) ps) ≡ map (read_copy cells) (take i ps) ++ read_copy cells (get_or ps i (0, Write)) ∷ []
  copies_more lt = ap (map (read_copy cells)) (take_more ps i (0, Write) lt) ∙ map-append (read_copy cells) (take i ps) (get_or ps i (0, Write) ∷ [])

  -- a place that is only read
  pub copy_of_read : i < length ps → is_write (get_or ps i (0, Read)).1 ≡ false → read_copy cells (get_or ps i (0, Write)) ≡ cell_at cells (get_or ps i (0, Read)).0
  copy_of_read lt read = ap (read_copy cells) (get_or_default ps i (0, Write) (0, Read) lt) ∙ of_read (get_or ps i (0, Read)) read
    where
      of_read : (p : ℕ × Access) → is_write p.1 ≡ false → read_copy cells p ≡ cell_at cells p.0
      of_read (n, Read) e = refl
      of_read (n, Write) e = absurd cc
