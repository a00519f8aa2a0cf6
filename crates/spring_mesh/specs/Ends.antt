-- The set of a spring's two ends, by locations.
use Rattle.std.specs.Prelude.{◌≡◌, ◌≢◌, ◌⊎◌, ℕ, true, [], ◌∷◌, Some, None, Option, IsSome, IsTrue, IsFalse, refl}
use Rattle.std.proofs.Common.{inl, inr, sym, ap, ◌∙◌, subst}
use Rattle.std.proofs.lemmas.Bool.{cases_eq, false≢true}
use Rattle.rw_sets.specs.declared.access.Access.{Access}
use Rattle.rw_sets.specs.declared.access.Access.TheVariants.{Read, Write}
use Rattle.rw_sets.specs.Accesses.{IsAscending, access_at, allows_write, joined, stronger, writes}
use Rattle.rw_sets.specs.AccessLaws.{access_first, access_other, ascending_cons, ascending_none}
use Rattle.rw_sets.specs.MergeLaws.{access_put_here, access_put_other, ascending_put}
use Rattle.spring_mesh.specs.declared.file.Spring.{Spring}
use Rattle.spring_mesh.specs.Meaning.{ends_of}

module _ (spring : Spring) where
  first-alone : IsAscending ((spring.a, Write) ∷ [])
  first-alone = ascending_cons (spring.a, Write) [] tt ascending_none

  pub ends_of-ascending : IsAscending (ends_of spring)
  ends_of-ascending = ascending_put ((spring.a, Write) ∷ []) (spring.b, Write) first-alone

  joined_write : (x : Option Access) → allows_write (joined x (Some Write)) ≡ true
  joined_write None = refl
  joined_write (Some x) = stronger_write x
    where
      stronger_write : (x : Access) → allows_write (Some (stronger x Write)) ≡ true
      stronger_write Read = refl
      stronger_write Write = refl

  pub second-written : IsTrue (writes (ends_of spring) spring.b)
  second-written = ap allows_write (access_put_here ((spring.a, Write) ∷ []) (spring.b, Write) first-alone) ∙ joined_write (access_at ((spring.a, Write) ∷ []) spring.b)

  pub first-written : IsTrue (writes (ends_of spring) spring.a)
  first-written = elim (cases_eq spring.b spring.a) [
    | inl same ↦ subst (λ loc. IsTrue (writes (ends_of spring) loc)) same second-written
    | inr differs ↦
        ap allows_write (access_put_other ((spring.a, Write) ∷ []) (spring.b, Write) spring.a differs ∙ access_first (spring.a, Write) [] spring.a refl)
  ]

  some_from_write : (x : Option Access) → allows_write x ≡ true → IsSome x
  some_from_write None writes = writes
  some_from_write (Some x) writes = refl

  pub first-named : IsSome (access_at (ends_of spring) spring.a)
  first-named = some_from_write (access_at (ends_of spring) spring.a) first-written

  pub second-named : IsSome (access_at (ends_of spring) spring.b)
  second-named = some_from_write (access_at (ends_of spring) spring.b) second-written

  -- the set names nothing but the ends
  pub end_from_named : (loc : ℕ) → IsSome (access_at (ends_of spring) loc) → (spring.a ≡ loc) ⊎ (spring.b ≡ loc)
  end_from_named loc named = elim (cases_eq spring.b loc) [
    | inl second ↦ inr second
    | inr not-second ↦ elim (cases_eq spring.a loc) [
      | inl first ↦ inl first
      | inr not-first ↦
          absurd (false≢true (rw (access_put_other ((spring.a, Write) ∷ []) (spring.b, Write) loc not-second, access_other (spring.a, Write) [] loc not-first) at named))
    ]
  ]

  -- what isn't written is no end
  pub unwritten-apart : (loc : ℕ) → IsFalse (writes (ends_of spring) loc) → (loc ≢ spring.a) × (loc ≢ spring.b)
  unwritten-apart loc unwritten = (
    λ same. false≢true (sym unwritten ∙ subst (λ l. IsTrue (writes (ends_of spring) l)) (sym same) first-written),
    λ same. false≢true (sym unwritten ∙ subst (λ l. IsTrue (writes (ends_of spring) l)) (sym same) second-written),
  )
