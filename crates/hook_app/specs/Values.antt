-- The values at the locations of a set.
use Rattle.std.specs.Prelude.{◌≡◌, List, [], ◌∷◌, filter_map, slice_get, slice_set, if◌then◌else◌}
use Rattle.rw_sets.specs.declared.access.Access.TheVariants.{Read, Write}
use Rattle.rw_sets.specs.Accesses.{Accesses, is_write}

module _ {V : Type 0} where
  -- the values at the locations of a set, in their order
  abbrev pub values_at : Accesses → List V → List V
  values_at set values = filter_map (λ p. slice_get values p.0) set

  -- the values with new ones, which are in the order of the set, at the locations that it writes
  abbrev pub put_values : Accesses → List V → List V → List V
  put_values [] new values = values
  put_values (p ∷ ps) [] values = values
  put_values (p ∷ ps) (x ∷ xs) values = put_values ps xs (if is_write p.1 then slice_set values p.0 x else values)

  -- the new values are the old ones where the set only reads; both are in its order
  abbrev pub KeepsRead : Accesses → List V → List V → Type 0
  KeepsRead [] old new = Unit {0}
  KeepsRead (p ∷ ps) [] new = ⊥
  KeepsRead (p ∷ ps) (x ∷ xs) [] = ⊥
  KeepsRead ((loc, Read) ∷ ps) (x ∷ xs) (y ∷ ys) = (y ≡ x) × KeepsRead ps xs ys
  KeepsRead ((loc, Write) ∷ ps) (x ∷ xs) (y ∷ ys) = KeepsRead ps xs ys
