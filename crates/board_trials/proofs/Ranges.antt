-- A set with one access more stays below a bound.
use Rattle.std.proofs.Common.{ℕ, ◌<◌, ◌∷◌, [], subst, inl, inr, IsSome}
use Rattle.std.proofs.lemmas.Bool.{cases_eq}
use Rattle.rw_sets.specs.declared.access.Access.{Access}
use Rattle.rw_sets.specs.Accesses.{Accesses, IsInRange, merged}
use Rattle.rw_sets.specs.MergeLaws.{access_put_other}

pub in_range_more : (set : Accesses) (p : ℕ × Access) (bound : ℕ) → p.0 < bound → IsInRange set bound → IsInRange (merged set (p ∷ [])) bound
in_range_more set p bound below range loc has = elim (cases_eq p.0 loc) [
  | inl same ↦ subst (λ n. n < bound) same below
  | inr differs ↦ range loc (subst (λ found. IsSome found) (access_put_other set p loc differs) has)
]
