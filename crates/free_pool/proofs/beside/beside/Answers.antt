use Rattle.std.proofs.Common.{◌≡◌, rules, sym, subst}
use denote.Ref.{MutBor}
use denote.Param.Members.{Shared}
use Rattle.free_pool.specs.Beside.{GivesTwo}
use Rattle.free_pool.proofs.beside.beside.Goals as goal

left_there : {F S T : Type 0} (g : Shared F (MutBor S × (MutBor T × Unit {0})) (Unit {0} × (MutBor S × (MutBor T × Unit {0})))) (f : F) (x a b : S) (y c d : T)
    → GivesTwo g f x y a c → b ≡ a → d ≡ c → GivesTwo g f x y b d
left_there g f x a b y c d gives first second = subst (λ s. GivesTwo g f x y s d) (sym first) (subst (λ t. GivesTwo g f x y a t) (sym second) gives)

pub returns-clause-own : goal.returns-clause-own
returns-clause-own g c = left_there _ _ _ _ _ _ _ _ c.join_mut.ensures.1.met.1 (search rules) (search rules)
