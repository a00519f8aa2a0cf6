-- What a look-up finds in a set that is made pair by pair.
use Rattle.std.specs.Prelude.{◌≡◌, ℕ, Bool, true, false, ◌==◌, ◌||◌, [], ◌∷◌, Option, Some, None, refl}
use Rattle.std.specs.Option.{is_some}
use Rattle.std.proofs.Common.{sym, ap, ◌∙◌, subst, inl, inr, arith}
use Rattle.std.proofs.lemmas.Bool.{cases_eq, true≢false}
use Rattle.std.proofs.lemmas.Bool.Decides.{nat_tests}
use Rattle.rw_sets.specs.declared.access.Access.{Access}
use Rattle.rw_sets.specs.declared.access.Access.TheVariants.{Read, Write}
use Rattle.rw_sets.specs.Accesses.{Accesses, IsAscending, access_at, joined, allows_write, covers, clash, put_access}
use Rattle.rw_sets.specs.AccessLaws.{ascending_cons, ascending_none}
use Rattle.rw_sets.specs.MergeLaws.{access_put_here, access_put_other, joined_none}

pub ascending_one : (p : ℕ × Access) → IsAscending (p ∷ [])
ascending_one p = ascending_cons p [] tt ascending_none

-- the access of a pair at a location
abbrev pub access_of : Bool → Access → Option Access
access_of true access = Some access
access_of false access = None

-- what is put_access joins what was there
pub access_put : (qs : Accesses) (p : ℕ × Access) (loc : ℕ) → IsAscending qs → access_at (put_access qs p) loc ≡ joined (access_at qs loc) (access_of (p.0 == loc) p.1)
access_put qs p loc up = elim (cases_eq p.0 loc) [
  | inl e ↦ grind (arith, nat_tests, subst (λ l. access_at (put_access qs p) l ≡ joined (access_at qs l) (Some p.1)) e (access_put_here qs p up))
  | inr differs ↦ grind (arith, nat_tests, access_put_other qs p loc differs, joined_none (access_at qs loc))
]

-- whether a location is among four, and what is had there of two that are read and two that are written
abbrev pub access_among : Bool → Bool → Bool → Bool → Option Access
access_among p q r s = joined (joined (joined (access_of p Read) (access_of q Read)) (access_of r Write)) (access_of s Write)

is_some_joined : (x y : Option Access) → is_some (joined x y) ≡ (is_some x || is_some y)
is_some_joined None y = refl
is_some_joined (Some x) None = refl
is_some_joined (Some x) (Some y) = refl

is_some_access_of : (b : Bool) (access : Access) → is_some (access_of b access) ≡ b
is_some_access_of true access = refl
is_some_access_of false access = refl

writes_joined : (x : Option Access) (b : Bool) → allows_write (joined x (access_of b Write)) ≡ (allows_write x || b)
writes_joined None true = refl
writes_joined None false = refl
writes_joined (Some Read) true = refl
writes_joined (Some Read) false = refl
writes_joined (Some Write) true = refl
writes_joined (Some Write) false = refl

reads_only : (p q : Bool) → allows_write (joined (access_of p Read) (access_of q Read)) ≡ false
reads_only true true = refl
reads_only true false = refl
reads_only false true = refl
reads_only false false = refl

pub is_some_among : (p q r s : Bool) → is_some (access_among p q r s) ≡ (p || q || r || s)
is_some_among p q r s =
    simp (is_some_joined, is_some_access_of)

pub writes_among : (p q r s : Bool) → allows_write (access_among p q r s) ≡ (r || s)
writes_among p q r s =
    writes_joined (joined (joined (access_of p Read) (access_of q Read)) (access_of r Write)) s
    ∙ ap (λ b. b || s) (writes_joined (joined (access_of p Read) (access_of q Read)) r ∙ ap (λ b. b || r) (reads_only p q))

pub clash_grows : (x y z : Option Access) → covers x y ≡ true → clash x z ≡ true → clash y z ≡ true
clash_grows None y z within clashes = absurd (true≢false (sym clashes))
clash_grows (Some x) None z within clashes = absurd (true≢false (sym within))
clash_grows (Some x) (Some y) None within clashes = absurd (true≢false (sym clashes))
clash_grows (Some Read) (Some Read) (Some z) within clashes = clashes
clash_grows (Some Read) (Some Write) (Some z) within clashes = refl
clash_grows (Some Write) (Some Read) (Some z) within clashes = absurd (true≢false (sym within))
clash_grows (Some Write) (Some Write) (Some z) within clashes = refl
