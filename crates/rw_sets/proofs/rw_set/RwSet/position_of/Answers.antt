use Rattle.std.proofs.Common.{◌≡◌, ℕ, None, IfNone, Result, Ok, Err, IfErr}
use Rattle.std.specs.Result.{result_ok}
use Rattle.rw_sets.specs.Accesses.{Accesses, access_at}
use Rattle.rw_sets.specs.Places.{IsGapFor}
use Rattle.rw_sets.proofs.Places.{absent_in_gap}
use Rattle.rw_sets.proofs.rw_set.RwSet.position_of.Goals as goal

absent : {A : Type 0} (l : Accesses) (loc : ℕ) (r : Result A ℕ) → IfErr r (IsGapFor l loc) → IfNone (result_ok r) (access_at l loc ≡ None)
absent l loc (Ok at) h = tt
absent l loc (Err at) h = absent_in_gap l loc at h

pub returns-in-InMemory-clause-absent : goal.returns-in-InMemory-clause-absent
returns-in-InMemory-clause-absent c = rw c.ok.ensures.value (absent _ _ _ c.place_of.ensures.absent)
