-- What is so of lines of which none has a fault.
use Rattle.std.proofs.Common.{Bool, None, Ok, Option, Result, Some, false, refl, true, ℕ, ◌≡◌}
use Rattle.std.specs.Option.{option_or, option_map}
use Rattle.kdg_text.specs.declared.fault.LineFault.{LineFault}
use Rattle.kdg_text.specs.declared.fault.Fault.{Fault}
use Rattle.kdg_text.specs.Faults.{fault_on, fault_where, unless_fault}

pub fits_first : (wrong : Option LineFault) (number : ℕ) (rest : Option Fault) → option_or (option_map (fault_on number) wrong) rest ≡ None → (wrong ≡ None) × (rest ≡ None)
fits_first None number rest none = (refl, none)
fits_first (Some fault) number rest none = cc

pub faultless : {V : Type 0} (o : Option Fault) (answer : Result V Fault) (value : V) → unless_fault o answer ≡ Ok value → (o ≡ None) × (answer ≡ Ok value)
faultless None answer value made = (refl, made)
faultless (Some fault) answer value made = cc

pub not_where : (test : Bool) (fault : LineFault) → fault_where test fault ≡ None → test ≡ false
not_where true fault none = cc
not_where false fault none = refl
