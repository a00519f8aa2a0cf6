-- Where a search in strides ends.
use Rattle.std.proofs.Common.{◌≡◌, ℕ, ◌-◌, ◌<◌, ◌≤◌, ◌⊎◌, inl, inr, Bool, true, false, List, [], length, get_or, refl, sym, ◌∙◌, ap, arith}
use Rattle.std.proofs.lemmas.Bool.{true≢false}
use Rattle.std.proofs.lemmas.List.{get_or_default}
use Rattle.std.specs.List.Sorted.{IsPartitionedBy, IsPartitionPoint}
use Rattle.task_order.specs.declared.task.Task.{Task}
use Rattle.task_order.specs.Blocks.{block_at}

passes_before : (p : List Task → Bool) (blocks : List (List Task)) (count : ℕ) → IsPartitionedBy p blocks → count ≤ length blocks → (count ≡ 0) ⊎ (p (block_at blocks (count - 1)) ≡ true)
    → (k : ℕ) (d : List Task) → k < count → p (get_or blocks k d) ≡ true
passes_before p blocks count parted inside (inl none) k d before = absurd (omega (arith, none, before))
passes_before p blocks count parted inside (inr last) k d before =
    parted k (count - 1) d (omega (arith, before)) (omega (arith, before, inside)) (ap p (get_or_default blocks (count - 1) d [] (omega (arith, before, inside))) ∙ last)

fails_from : (p : List Task → Bool) (blocks : List (List Task)) (count k : ℕ) (d : List Task) (test : Bool) → IsPartitionedBy p blocks → p (block_at blocks count) ≡ false → count ≤ k → k < length blocks
    → p (get_or blocks k d) ≡ test → test ≡ false
fails_from p blocks count k d true parted fails from inside is =
    absurd (true≢false (sym (parted count k d from inside is) ∙ ap p (get_or_default blocks count d [] (omega (arith, from, inside))) ∙ fails))
fails_from p blocks count k d false parted fails from inside is = refl

pub point_from_ends : (p : List Task → Bool) (blocks : List (List Task)) (count : ℕ) → IsPartitionedBy p blocks → count ≤ length blocks → (count ≡ 0) ⊎ (p (block_at blocks (count - 1)) ≡ true) → p (block_at blocks count) ≡ false
    → IsPartitionPoint (λ block. p block ≡ true) (λ block. p block ≡ false) blocks count
point_from_ends p blocks count parted inside last fails =
    (λ k d _ before. passes_before p blocks count parted inside last k d before, λ k d from below. fails_from p blocks count k d _ parted fails from below refl)
