-- Conflict as a test, and what sets without a conflict have.
use Rattle.std.proofs.Common.{◌≡◌, ◌↔◌, ℕ, Bool, true, [], ◌∷◌, Option, Some, None, IsSome, IsTrue, refl, ap, ◌∙◌, inl, inr}
use Rattle.std.specs.List.{list_any}
use Rattle.std.proofs.lemmas.Bool.{cases_eq, false≢true, or_cases, or_left, or_right, false_from_ne_true, both_ways}
use Rattle.std.proofs.lemmas.Bool.Decides.{same_from_decides}
use Rattle.rw_sets.specs.declared.access.Access.{Access}
use Rattle.rw_sets.specs.declared.access.Access.TheVariants.{Read, Write}
use Rattle.rw_sets.specs.Accesses.{Accesses, access_at, allows_write, clash, Conflicts, conflicts_with, covers}
use Rattle.rw_sets.specs.Laws.{ConflictsAreDecided, NothingConflictsWithEmpty, IndependentWithoutConflict, IndependenceIsDecided, IndependenceIsMutual, WithinByMembers}
use Rattle.rw_sets.specs.AccessLaws.{access_other}

-- a test of each pair's location is met by a pair
met_by_pair : (test : ℕ → Bool) (ps : Accesses) → list_any (λ p. test p.0) ps ≡ true → (loc : ℕ) × IsTrue (test loc)
met_by_pair test [] h = absurd (false≢true h)
met_by_pair test (p ∷ ps) h = elim (or_cases (test p.0) _ h) [
  | inl here ↦ (p.0, here)
  | inr later ↦ met_by_pair test ps later
]

-- and a location of the list that meets it is enough
met_at_location : (test : ℕ → Bool) (ps : Accesses) (loc : ℕ) → IsSome (access_at ps loc) → IsTrue (test loc) → list_any (λ p. test p.0) ps ≡ true
met_at_location test [] loc has h = absurd (false≢true has)
met_at_location test (p ∷ ps) loc has h = elim (cases_eq p.0 loc) [
  | inl e ↦ or_left (test p.0) (list_any (λ q. test q.0) ps) (ap test e ∙ h)
  | inr differs ↦ or_right (test p.0) (list_any (λ q. test q.0) ps) (met_at_location test ps loc (rw (access_other p ps loc differs) at has) h)
]

has_from_clash : (x y : Option Access) → IsTrue (clash x y) → IsSome x
has_from_clash None y h = absurd (false≢true h)
has_from_clash (Some x) y h = refl

pub conflicts_are_decided : ConflictsAreDecided
conflicts_are_decided a b = (
  met_by_pair (λ loc. clash (access_at a loc) (access_at b loc)) a,
  λ (loc, h). met_at_location (λ loc. clash (access_at a loc) (access_at b loc)) a loc (has_from_clash (access_at a loc) (access_at b loc) h) h,
)

pub nothing_conflicts_with_empty : NothingConflictsWithEmpty
nothing_conflicts_with_empty a (loc, h) = false≢true h

-- at one location: no clash, and a write on one side, leave nothing on the other
left_alone : (x y : Option Access) → (clash x y ≡ true → ⊥) → IsTrue (allows_write x) → y ≡ None
left_alone None y apart h = absurd (false≢true h)
left_alone (Some Read) y apart h = absurd (false≢true h)
left_alone (Some Write) None apart h = refl
left_alone (Some Write) (Some y) apart h = absurd (apart refl)

right_alone : (x y : Option Access) → (clash x y ≡ true → ⊥) → IsTrue (allows_write y) → x ≡ None
right_alone None y apart h = refl
right_alone (Some x) None apart h = absurd (false≢true h)
right_alone (Some x) (Some Read) apart h = absurd (false≢true h)
right_alone (Some Read) (Some Write) apart h = absurd (apart refl)
right_alone (Some Write) (Some Write) apart h = absurd (apart refl)

no_clash : (x y : Option Access) → (IsTrue (allows_write x) → y ≡ None) → (IsTrue (allows_write y) → x ≡ None) → clash x y ≡ true → ⊥
no_clash None y left right h = false≢true h
no_clash (Some x) None left right h = false≢true h
no_clash (Some Read) (Some Read) left right h = false≢true h
no_clash (Some Read) (Some Write) left right h = let e = right refl in absurd cc
no_clash (Some Write) (Some y) left right h = let e = left refl in absurd cc

pub independent_without_conflict : IndependentWithoutConflict
independent_without_conflict a b = (
  λ apart. record {
    left_writes = λ loc. left_alone (access_at a loc) (access_at b loc) (λ h. apart (loc, h));
    right_writes = λ loc. right_alone (access_at a loc) (access_at b loc) (λ h. apart (loc, h));
  },
  λ h (loc, clashes). no_clash (access_at a loc) (access_at b loc) (h.left_writes loc) (h.right_writes loc) clashes,
)

pub independence_is_decided : IndependenceIsDecided
independence_is_decided a b = (
  λ decided. (independent_without_conflict a b).0 (λ conflict. both_ways (conflicts_with a b) decided ((conflicts_are_decided a b).1 conflict)),
  λ h. false_from_ne_true (conflicts_with a b) (λ decided. (independent_without_conflict a b).1 h ((conflicts_are_decided a b).0 decided)),
)

pub independence_is_mutual : IndependenceIsMutual
independence_is_mutual a b h = record { left_writes = h.right_writes; right_writes = h.left_writes }

-- at one location: what covers an access has it, and writes where it does
covered : (x y : Option Access) → IsTrue (covers x y) → (IsSome x → IsSome y) × (IsTrue (allows_write x) → IsTrue (allows_write y))
covered None y h = (λ has. absurd (false≢true has), λ written. absurd (false≢true written))
covered (Some x) None h = absurd (false≢true h)
covered (Some Read) (Some y) h = (λ has. refl, λ written. absurd (false≢true written))
covered (Some Write) (Some Read) h = absurd (false≢true h)
covered (Some Write) (Some Write) h = (λ has. refl, λ written. refl)

covers_members : (x y : Option Access) → (IsSome x → IsSome y) → (IsTrue (allows_write x) → IsTrue (allows_write y)) → IsTrue (covers x y)
covers_members None y has written = refl
covers_members (Some x) None has written = has refl
covers_members (Some Read) (Some y) has written = refl
covers_members (Some Write) (Some Read) has written = written refl
covers_members (Some Write) (Some Write) has written = refl

pub within_by_members : WithinByMembers
within_by_members a b = (
  λ h loc. covered (access_at a loc) (access_at b loc) (h loc),
  λ h loc. covers_members (access_at a loc) (access_at b loc) (h loc).0 (h loc).1,
)

-- an answer that tells of a conflict is that of the test
pub tests_conflict : (a b : Accesses) (answer : Bool) → IsTrue answer ↔ Conflicts a b → answer ≡ conflicts_with a b
tests_conflict a b answer h = same_from_decides answer (conflicts_with a b) h (conflicts_are_decided a b)
