use Rattle.std.specs.Prelude.{◌≡◌, ℕ, zero, suc, ◌<◌, List, [], ◌∷◌, length}
use Rattle.std.specs.List.{AllByRecursion}
use Rattle.std.specs.Ordering.{nat_cmp}
use Rattle.std.specs.declared.cmp.Ordering.TheVariants.{Less}
use Rattle.std.proofs.Common.{arith, sym, subst, get_or, take}
use Rattle.plain_laws.specs.Orderings.{below_from_cmp}
use Rattle.mtx_reader.specs.Ascending.{IsAscendingBy}
use Rattle.gf2_eliminate.proofs.ones.OneSet.from_vec.Goals as goal

all_at : (P : ℕ → Type 0) (ns : List ℕ) (k : ℕ) → AllByRecursion P ns → k < length ns → P (get_or ns k 0)
all_at P [] k all below = absurd (omega (arith, below))
all_at P (n ∷ ns) zero all below = all.0
all_at P (n ∷ ns) (suc k) all below = all_at P ns k all.1 (omega (arith, below))

-- in an ascending list the numbers before one are less
less_before : (ns : List ℕ) (k : ℕ) → IsAscendingBy nat_cmp ns → k < length ns → AllByRecursion (λ other. other < get_or ns k 0) (take k ns)
less_before [] k up below = absurd (omega (arith, below))
less_before (n ∷ ns) zero up below = tt
less_before (n ∷ ns) (suc k) up below =
    (below_from_cmp n (get_or ns k 0) (all_at (λ other. nat_cmp n other ≡ Less) ns k up.0 (omega (arith, below))), less_before ns k up.1 (omega (arith, below)))

pub push-requires : goal.push-requires
push-requires c =
    let places = c.deref-place-items.result.now in
    let at = c.loop-place.place-index in
    subst (AllByRecursion (λ other. other < get_or places at 0)) (sym c.loop-place.invariant)
    (less_before places at (subst (IsAscendingBy nat_cmp) (sym c.deref-place-items.ensures.value) c.requires) c.loop-place-test.true)
