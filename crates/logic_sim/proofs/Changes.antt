-- The changes that stimuli bring, one after another.
use Rattle.std.proofs.Common.{◌≡◌, ◌∙◌, ◌⊎◌, ℕ, ◌-◌, ◌<◌, List, [], ◌∷◌, ◌++◌, length, take, drop, get_or, ap, refl, sym, arith, inl, inr, append_assoc}
use Rattle.std.proofs.Math.Seq.{take-length}
use Rattle.std.proofs.lemmas.List.{append-nil}
use Rattle.task_order.specs.declared.start.Start.{Start}
use Rattle.logic_sim.specs.Circuit.{changes_at}
use Rattle.logic_sim.specs.Event.{change_at}

rest_of : (x : ℕ) (xs : List ℕ) → take (length (x ∷ xs) - 1) (drop 1 (x ∷ xs)) ≡ xs
rest_of x xs = let e : length (x ∷ xs) - 1 ≡ length xs = omega arith in rw e (take-length xs)

-- the first change, and then those of the other inputs
changes_first : (time : ℕ) (inputs values : List ℕ) → 0 < length inputs → 0 < length values →
    changes_at time inputs values
    ≡ change_at time (get_or inputs 0 0) (get_or values 0 0) ∷ changes_at time (take (length inputs - 1) (drop 1 inputs)) (take (length values - 1) (drop 1 values))
changes_first time [] values some more = absurd (omega arith)
changes_first time (input ∷ inputs) [] some more = absurd (omega arith)
changes_first time (input ∷ inputs) (value ∷ values) some more = rw (rest_of input inputs, rest_of value values) refl

-- one more change is made
pub change_more : (time : ℕ) (inputs values : List ℕ) (made pushed all : List Start) → 0 < length inputs → 0 < length values →
    pushed ≡ made ++ change_at time (get_or inputs 0 0) (get_or values 0 0) ∷ [] → made ++ changes_at time inputs values ≡ all →
    pushed ++ changes_at time (take (length inputs - 1) (drop 1 inputs)) (take (length values - 1) (drop 1 values)) ≡ all
change_more time inputs values made pushed all some more now so_far =
    let rest = changes_at time (take (length inputs - 1) (drop 1 inputs)) (take (length values - 1) (drop 1 values)) in
    ap (λ (z : List Start). z ++ rest) now
    ∙ append_assoc made (change_at time (get_or inputs 0 0) (get_or values 0 0) ∷ []) rest
    ∙ ap (λ (z : List Start). made ++ z) (sym (changes_first time inputs values some more))
    ∙ so_far

-- where inputs or values are at their end, no change is left
pub changes_end : (time : ℕ) (inputs values : List ℕ) (made all : List Start) → (length inputs ≡ 0) ⊎ (length values ≡ 0) →
    made ++ changes_at time inputs values ≡ all → made ≡ all
changes_end time inputs values made all ended so_far =
    sym (append-nil made) ∙ ap (λ (z : List Start). made ++ z) (sym (none inputs values ended)) ∙ so_far
  where
    none : (inputs values : List ℕ) → (length inputs ≡ 0) ⊎ (length values ≡ 0) → changes_at time inputs values ≡ []
    none [] values ended = refl
    none (input ∷ inputs) [] ended = refl
    none (input ∷ inputs) (value ∷ values) (inl e) = absurd (omega arith)
    none (input ∷ inputs) (value ∷ values) (inr e) = absurd (omega arith)
