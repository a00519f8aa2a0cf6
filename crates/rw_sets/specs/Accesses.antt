-- A set of locations, each with the access to it, as a list of pairs.
use Rattle.std.specs.Prelude.{◌≡◌, ℕ, ◌<◌, Bool, true, false, ◌||◌, List, [], ◌∷◌, Option, Some, None, IsSome, IsTrue, nat_eq, nat_lt, ◌==◌, if◌then◌else◌}
use Rattle.std.specs.List.{list_any, AllByRecursion}
use Rattle.std.specs.List.Sorted.{IsStrictlySortedBy}
use Rattle.std.specs.Cmp.Lexicographic.{pointwise}
use Rattle.std.specs.Ordering.{nat_cmp, on, eq_of_both}
use Rattle.std.specs.declared.cmp.Ordering.{Ordering}
use mathlib.Core.Bool.{beq}
use Rattle.rw_sets.specs.declared.access.Access.{Access}
use Rattle.rw_sets.specs.declared.access.Access.TheVariants.{Read, Write}

-- a location, then the access to it
abbrev pub Accesses : Type 0
Accesses = List (ℕ × Access)

-- pairs in the order of their locations
abbrev pub by_location : ℕ × Access → ℕ × Access → Ordering
by_location = on (λ p. p.0) nat_cmp

-- the locations rise, so each is there once
abbrev pub IsAscending : Accesses → Type 0
IsAscending = IsStrictlySortedBy by_location

-- every location of the list is beyond this one
abbrev pub AllBeyond : ℕ → Accesses → Type 0
AllBeyond loc = AllByRecursion (λ p. loc < p.0)

-- the access to a location, if the list has it
abbrev pub access_at : Accesses → ℕ → Option Access
access_at [] loc = None
access_at (p ∷ ps) loc = if p.0 == loc then Some p.1 else access_at ps loc

abbrev pub is_write : Access → Bool
is_write Read = false
is_write Write = true

abbrev pub allows_write : Option Access → Bool
allows_write None = false
allows_write (Some x) = is_write x

-- the list writes the location
abbrev pub writes : Accesses → ℕ → Bool
writes ps loc = allows_write (access_at ps loc)

-- Write where either is Write
abbrev pub stronger : Access → Access → Access
stronger Read y = y
stronger Write y = Write

-- the access that two sets have together, from those that they have apart
abbrev pub joined : Option Access → Option Access → Option Access
joined None y = y
joined (Some x) None = Some x
joined (Some x) (Some y) = Some (stronger x y)

-- at least one of the two is Write
abbrev pub excludes : Access → Access → Bool
excludes x y = is_write x || is_write y

-- both sets have an access, and the two exclude each other
abbrev pub clash : Option Access → Option Access → Bool
clash None y = false
clash (Some x) None = false
clash (Some x) (Some y) = excludes x y

-- the sets share a location, and at least one of them writes it
abbrev pub Conflicts : Accesses → Accesses → Type 0
Conflicts a b = (loc : ℕ) × IsTrue (clash (access_at a loc) (access_at b loc))

-- whether they conflict, found by the locations of the first
abbrev pub conflicts_with : Accesses → Accesses → Bool
conflicts_with a b = list_any (λ p. clash (access_at a p.0) (access_at b p.0)) a

-- neither set has a location that the other writes
pub record AreIndependent (a b : Accesses) : Type 0 where
  pub left_writes : (loc : ℕ) → IsTrue (writes a loc) → access_at b loc ≡ None
  pub right_writes : (loc : ℕ) → IsTrue (writes b loc) → access_at a loc ≡ None

-- each location of the set is below the bound
abbrev pub IsInRange : Accesses → ℕ → Type 0
IsInRange set bound = (loc : ℕ) → IsSome (access_at set loc) → loc < bound

-- the second allows what the first does: Read is allowed by either, Write by Write
abbrev pub allows : Access → Access → Bool
allows Read y = true
allows Write Read = false
allows Write Write = true

abbrev pub covers : Option Access → Option Access → Bool
covers None y = true
covers (Some x) None = false
covers (Some x) (Some y) = allows x y

-- each location of the first is in the second, and each that the first writes the second writes too
abbrev pub IsWithin : Accesses → Accesses → Type 0
IsWithin a b = (loc : ℕ) → IsTrue (covers (access_at a loc) (access_at b loc))

-- the set with one access more
abbrev pub put_access : Accesses → ℕ × Access → Accesses
put_access [] p = p ∷ []
put_access (q ∷ qs) p =
    if nat_lt p.0 q.0 then p ∷ q ∷ qs
    else if p.0 == q.0 then (q.0, stronger q.1 p.1) ∷ qs
    else q ∷ put_access qs p

-- the first set, with each access of the second put in
abbrev pub merged : Accesses → Accesses → Accesses
merged a [] = a
merged a (p ∷ ps) = merged (put_access a p) ps

-- whether two sets are the same, pair by pair
abbrev pub same_pair : ℕ × Access → ℕ × Access → Bool
same_pair = eq_of_both (on (λ p. p.0) nat_eq) (on (λ p. is_write p.1) beq)

abbrev pub same_accesses : Accesses → Accesses → Bool
same_accesses = pointwise same_pair
