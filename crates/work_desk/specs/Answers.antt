-- What comes of work that a kept worker was given.
use Rattle.std.specs.Prelude.{◌≡◌}
use Rattle.work_desk.specs.declared.errand.Answer.{Answer}
use Rattle.work_desk.specs.declared.errand.Answer.TheVariants as answer
use Rattle.work_desk.specs.Seats.{ErrandState}

module _ {T K D : Type 0} where
  -- what came of the work, the work itself, or nothing
  abbrev pub IsAnswer : (K → T → T → Type 0) → ErrandState T K → Answer T K D → Type 0
  IsAnswer done errand (answer.Done partner y) = (partner ≡ errand.key) × done errand.key errand.given y
  IsAnswer done errand (answer.Back partner x) = (partner ≡ errand.key) × (x ≡ errand.given)
  IsAnswer done errand answer.Lost = Unit {0}
