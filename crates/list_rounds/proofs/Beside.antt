-- Two runs beside one another.
use Rattle.std.proofs.Common.{◌≡◌, Option, Some, None, refl}
use Rattle.app_laws.specs.Execution.{Execution}
use Rattle.commuting.specs.Commuting.{BothEnd}

-- runs that both end like a third one
pub both_through : {V : Type 0} (R S T : Execution V → Execution V → Type 0) (first second third : Option (Execution V)) → BothEnd R first second → BothEnd S second third
    → ((e middle last : Execution V) → third ≡ Some last → R e middle → S middle last → T e last) → BothEnd T first third
both_through R S T None None None one other joined = tt
both_through R S T None None (Some last) one other joined = absurd other
both_through R S T None (Some middle) third one other joined = absurd one
both_through R S T (Some e) None third one other joined = absurd one
both_through R S T (Some e) (Some middle) None one other joined = absurd other
both_through R S T (Some e) (Some middle) (Some last) one other joined = joined e middle last refl one other
