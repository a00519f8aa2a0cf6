-- What is so of each pair of a list.
use Rattle.std.proofs.Common.{Bool, List, [], cond, false, true, ◌∷◌}
use Rattle.std.specs.List.{filter}
use Rattle.plain_laws.specs.Lists.{All-filter}
use Rattle.app_laws.specs.Order.{Pairwise}

pub Pairwise-filter : {X : Type 0} (R : X → X → Type 0) (test : X → Bool) (xs : List X) → Pairwise R xs → Pairwise R (filter test xs)
Pairwise-filter R test [] pairs = tt
Pairwise-filter R test (x ∷ xs) pairs = elim (test x) as (λ b. Pairwise R (cond b (x ∷ filter test xs) (filter test xs))) [
  | true ↦ (All-filter (R x) test xs pairs.0, Pairwise-filter R test xs pairs.1)
  | false ↦ Pairwise-filter R test xs pairs.1
]
