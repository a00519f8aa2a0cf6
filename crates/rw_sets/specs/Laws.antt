-- What holds of look-ups, conflict, merge and inclusion, at all sets.
use Rattle.std.specs.Prelude.{◌≡◌, ℕ, [], ◌∷◌, ◌++◌, ◌||◌, ◌⊎◌, ◌↔◌, Some, IsSome, IsTrue, IsFalse, Contains, IsPermutation}
use Rattle.rw_sets.specs.declared.access.Access.{Access}
use Rattle.rw_sets.specs.declared.access.Access.TheVariants.{Write}
use Rattle.rw_sets.specs.Accesses.{Accesses, IsAscending, AllBeyond, access_at, writes, joined, Conflicts, conflicts_with, AreIndependent, IsWithin, merged, same_accesses}

-- a set is known by its look-up
abbrev pub LookupsDetermineSets : Type 0
LookupsDetermineSets = (a b : Accesses) → IsAscending a → IsAscending b → ((loc : ℕ) → access_at a loc ≡ access_at b loc) → a ≡ b

-- a set is ascending where its first location is before all others, and they ascend
abbrev pub AscendingByParts : Type 0
AscendingByParts = (loc : ℕ) (access : Access) (rest : Accesses) → IsAscending ((loc, access) ∷ rest) ↔ (AllBeyond loc rest × IsAscending rest)

-- a set is itself alone, by the test
abbrev pub SameIsEqual : Type 0
SameIsEqual = (a b : Accesses) → IsTrue (same_accesses a b) ↔ (a ≡ b)

-- a look-up finds the pairs of the set, and no others
abbrev pub LookupsFindPairs : Type 0
LookupsFindPairs = (set : Accesses) (loc : ℕ) (access : Access) → IsAscending set → (access_at set loc ≡ Some access) ↔ Contains set (loc, access)

-- a merge is a set, and has at each location the access that the two have together
abbrev pub MergesAscend : Type 0
MergesAscend = (a b : Accesses) → IsAscending a → IsAscending (merged a b)

abbrev pub MergesJoinLookups : Type 0
MergesJoinLookups = (a b : Accesses) → IsAscending a → IsAscending b → (loc : ℕ) → access_at (merged a b) loc ≡ joined (access_at a loc) (access_at b loc)

-- it writes what one of the two writes
abbrev pub MergesWriteWhatOneDoes : Type 0
MergesWriteWhatOneDoes = (a b : Accesses) → IsAscending a → IsAscending b → (loc : ℕ) → writes (merged a b) loc ≡ (writes a loc || writes b loc)

abbrev pub MergesCommute : Type 0
MergesCommute = (a b : Accesses) → IsAscending a → IsAscending b → merged a b ≡ merged b a

abbrev pub MergesAssociate : Type 0
MergesAssociate = (a b c : Accesses) → IsAscending a → IsAscending b → IsAscending c → merged (merged a b) c ≡ merged a (merged b c)

abbrev pub MergesAreIdempotent : Type 0
MergesAreIdempotent = (a : Accesses) → IsAscending a → merged a a ≡ a

abbrev pub MergesWithNothing : Type 0
MergesWithNothing = (a : Accesses) → IsAscending a → merged [] a ≡ a

-- pairs that are merged into a set, in any order and with repeats: each location that one of them has is there
abbrev pub PairsAreNamed : Type 0
PairsAreNamed = (a pairs : Accesses) (loc : ℕ) → IsAscending a → IsSome (access_at (merged a pairs) loc) ↔ (IsSome (access_at a loc) ⊎ ((access : Access) × Contains pairs (loc, access)))

-- and is written where one of them is Write
abbrev pub PairsAreWritten : Type 0
PairsAreWritten = (a pairs : Accesses) (loc : ℕ) → IsAscending a → IsTrue (writes (merged a pairs) loc) ↔ (IsTrue (writes a loc) ⊎ Contains pairs (loc, Write))

-- their order doesn't count, and they can be merged part by part
abbrev pub PairsInAnyOrder : Type 0
PairsInAnyOrder = (a pairs others : Accesses) → IsAscending a → IsPermutation pairs others → merged a pairs ≡ merged a others

abbrev pub PairsByParts : Type 0
PairsByParts = (a pairs others : Accesses) → merged a (pairs ++ others) ≡ merged (merged a pairs) others

-- it doesn't matter which set is named first
abbrev pub ConflictsAreMutual : Type 0
ConflictsAreMutual = (a b : Accesses) → Conflicts a b → Conflicts b a

-- a set that allows more conflicts with more
abbrev pub ConflictsGrow : Type 0
ConflictsGrow = (a b c : Accesses) → IsWithin a b → Conflicts a c → Conflicts b c

-- a merge conflicts with a third set where one of the two does
abbrev pub MergesConflictByParts : Type 0
MergesConflictByParts = (a b c : Accesses) → IsAscending a → IsAscending b → Conflicts (merged a b) c ↔ (Conflicts a c ⊎ Conflicts b c)

-- the test says it
abbrev pub ConflictsAreDecided : Type 0
ConflictsAreDecided = (a b : Accesses) → IsTrue (conflicts_with a b) ↔ Conflicts a b

-- an empty set conflicts with nothing
abbrev pub NothingConflictsWithEmpty : Type 0
NothingConflictsWithEmpty = (a : Accesses) → Conflicts [] a → ⊥

-- without a conflict, what one set writes the other lacks; and such sets don't conflict
abbrev pub IndependentWithoutConflict : Type 0
IndependentWithoutConflict = (a b : Accesses) → (Conflicts a b → ⊥) ↔ AreIndependent a b

abbrev pub IndependenceIsDecided : Type 0
IndependenceIsDecided = (a b : Accesses) → IsFalse (conflicts_with a b) ↔ AreIndependent a b

abbrev pub IndependenceIsMutual : Type 0
IndependenceIsMutual = (a b : Accesses) → AreIndependent a b → AreIndependent b a

abbrev pub WithinIsReflexive : Type 0
WithinIsReflexive = (a : Accesses) → IsWithin a a

abbrev pub WithinIsTransitive : Type 0
WithinIsTransitive = (a b c : Accesses) → IsWithin a b → IsWithin b c → IsWithin a c

abbrev pub WithinIsAntisymmetric : Type 0
WithinIsAntisymmetric = (a b : Accesses) → IsAscending a → IsAscending b → IsWithin a b → IsWithin b a → a ≡ b

-- by members: each location of the first is in the second, and each that the first writes the second writes
abbrev pub WithinByMembers : Type 0
WithinByMembers = (a b : Accesses) → IsWithin a b ↔ ((loc : ℕ) → (IsSome (access_at a loc) → IsSome (access_at b loc)) × (IsTrue (writes a loc) → IsTrue (writes b loc)))

abbrev pub EmptyIsWithinAll : Type 0
EmptyIsWithinAll = (a : Accesses) → IsWithin [] a

-- both sets lie within their merge, and it lies within any set that both lie within
abbrev pub MergesHoldBoth : Type 0
MergesHoldBoth = (a b : Accesses) → IsAscending a → IsAscending b → IsWithin a (merged a b) × IsWithin b (merged a b)

abbrev pub MergesAreLeast : Type 0
MergesAreLeast = (a b c : Accesses) → IsAscending a → IsAscending b → IsWithin a c → IsWithin b c → IsWithin (merged a b) c
