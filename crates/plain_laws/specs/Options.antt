-- Options and results.
use Rattle.std.proofs.Common.{◌≡◌, Option, Some, None, subst, refl, option_to_list, []}
use Rattle.std.specs.Prelude.{IfOk, IfSome, Result, Ok, Err, IfNone}
use Rattle.std.specs.Option.{option_or}
use Rattle.std.specs.List.{cons_option}

pub some_injective : {X : Type 0} (a b : X) → Some a ≡ Some b → a ≡ b
some_injective a b same = cc

pub none_is_not_some : {X : Type 0} (x : X) → None ≡ Some x → ⊥
none_is_not_some x same = cc

-- what is so of whatever is there
pub if_some_at : {X : Type 0} (P : X → Type 0) (there : Option X) (x : X) → there ≡ Some x → IfSome there P → P x
if_some_at P there x is all = subst (λ one. IfSome one P) is all

-- what is so of a value follows from what else is so of it
pub if_ok-weaker : {T E : Type 0} (result : Result T E) (P Q : T → Type 0) → ((value : T) → P value → Q value) → IfOk result P → IfOk result Q
if_ok-weaker (Ok value) P Q implies is = implies value is
if_ok-weaker (Err fault) P Q implies is = tt

pub option_or-none : {X : Type 0} (o : Option X) → option_or o None ≡ o
option_or-none None = refl
option_or-none (Some x) = refl

pub option_or-both_none : {X : Type 0} (a b : Option X) → option_or a b ≡ None → (a ≡ None) × (b ≡ None)
option_or-both_none None b none = (refl, none)
option_or-both_none (Some x) b none = cc

pub cons_option-none : {X : Type 0} (o : Option X) → cons_option o [] ≡ option_to_list o
cons_option-none None = refl
cons_option-none (Some x) = refl

pub where_none : {X : Type 0} (taken : Option X) (P : Type 0) → ((x : X) → taken ≡ Some x → ⊥) → IfNone taken P → P
where_none None P never here = here
where_none (Some x) P never here = absurd (never x refl)
