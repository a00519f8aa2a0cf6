-- The first of several sets that writes a location, where its place is noted there.
use Rattle.std.proofs.Common.{◌≡◌, ℕ, zero, suc, ◌+◌, Bool, true, false, cond, List, [], ◌∷◌, length, Option, Some, None, refl, sym, ap, subst, ◌∙◌, arith}
use Rattle.std.specs.Prelude.{slice_get}
use Rattle.std.proofs.lemmas.Bool.{true≢false}
use Rattle.task_order.specs.declared.task.Task.{Task}
use Rattle.rw_sets.specs.Accesses.{Accesses, writes}
use Rattle.mark_rounds.specs.Pending.{writers_among}
use Rattle.mark_rounds.specs.Writers.{HaveFirstWriters, first_writer}

module _ (loc : ℕ) where
  -- the set at the place writes the location, and its task is the first of those whose sets do
  record IsFirst (tasks : List Task) (sets : List Accesses) (place : ℕ) : Type 0 where
    pub set : Accesses
    pub at : slice_get sets place ≡ Some set
    pub writing : writes set loc ≡ true
    pub first : slice_get (writers_among tasks sets loc) 0 ≡ slice_get tasks place

  first_is : (base found : ℕ) (tasks : List Task) (sets : List Accesses) → length sets ≡ length tasks → first_writer base sets loc ≡ Some found → (place : ℕ) × (found ≡ base + place) × IsFirst tasks sets place
  first_is base found tasks [] same is = absurd cc
  first_is base found [] (set ∷ sets) same is = absurd (omega (arith, same))
  first_is base found (task ∷ tasks) (set ∷ sets) same is = by_case (writes set loc) refl (first_is (suc base) found tasks sets (omega (arith, same)))
    where
      by_case : (b : Bool) → writes set loc ≡ b → (first_writer (suc base) sets loc ≡ Some found → (place : ℕ) × (found ≡ suc base + place) × IsFirst tasks sets place)
          → (place : ℕ) × (found ≡ base + place) × IsFirst (task ∷ tasks) (set ∷ sets) place
      by_case true writing later =
          let here : Some base ≡ Some found = sym (ap (λ b. cond b (Some base) (first_writer (suc base) sets loc)) writing) ∙ is in
          let place : base ≡ found = cc in (
            0,
            omega (arith, place),
            record {
              set = set;
              at = refl;
              writing = writing;
              first = ap (λ b. slice_get (cond b (task ∷ writers_among tasks sets loc) (writers_among tasks sets loc)) 0) writing;
            },
          )
      by_case false writing later =
          let rest = later (sym (ap (λ b. cond b (Some base) (first_writer (suc base) sets loc)) writing) ∙ is) in (
            suc rest.0,
            omega (arith, rest.1),
            record {
              set = rest.2.set;
              at = rest.2.at;
              writing = rest.2.writing;
              first = ap (λ b. slice_get (cond b (task ∷ writers_among tasks sets loc) (writers_among tasks sets loc)) 0) writing ∙ rest.2.first;
            },
          )

  nobody : (base : ℕ) (tasks : List Task) (sets : List Accesses) → first_writer base sets loc ≡ None → writers_among tasks sets loc ≡ []
  nobody base [] sets is = refl
  nobody base (task ∷ tasks) [] is = refl
  nobody base (task ∷ tasks) (set ∷ sets) is = by_case (writes set loc) refl (nobody (suc base) tasks sets)
    where
      by_case : (b : Bool) → writes set loc ≡ b → (first_writer (suc base) sets loc ≡ None → writers_among tasks sets loc ≡ []) → writers_among (task ∷ tasks) (set ∷ sets) loc ≡ []
      by_case true writing later = let wrong : Some base ≡ None = sym (ap (λ b. cond b (Some base) (first_writer (suc base) sets loc)) writing) ∙ is in absurd cc
      by_case false writing later =
          ap (λ b. cond b (task ∷ writers_among tasks sets loc) (writers_among tasks sets loc)) writing
          ∙ later (sym (ap (λ b. cond b (Some base) (first_writer (suc base) sets loc)) writing) ∙ is)

  somebody : (base place : ℕ) (set : Accesses) (sets : List Accesses) → slice_get sets place ≡ Some set → writes set loc ≡ true → first_writer base sets loc ≡ None → ⊥
  somebody base place set [] at writing is = absurd cc
  somebody base zero set (other ∷ sets) at writing is =
      let same : other ≡ set = cc in
      let wrong : Some base ≡ None = sym (ap (λ b. cond b (Some base) (first_writer (suc base) sets loc)) (ap (λ s. writes s loc) same ∙ writing)) ∙ is in
      absurd cc
  somebody base (suc place) set (other ∷ sets) at writing is = by_case (writes other loc) refl (somebody (suc base) place set sets at writing)
    where
      by_case : (b : Bool) → writes other loc ≡ b → (first_writer (suc base) sets loc ≡ None → ⊥) → ⊥
      by_case true writes_too later = let wrong : Some base ≡ None = sym (ap (λ b. cond b (Some base) (first_writer (suc base) sets loc)) writes_too) ∙ is in absurd cc
      by_case false reads later = later (sym (ap (λ b. cond b (Some base) (first_writer (suc base) sets loc)) reads) ∙ is)

  module _ (writers : List ℕ) (sets : List Accesses) (tasks : List Task) (same : length sets ≡ length tasks) (noted : HaveFirstWriters writers 0 sets) where
    abbrev first : Option Task
    first = slice_get (writers_among tasks sets loc) 0

    known : (rank found : ℕ) → slice_get writers loc ≡ Some rank → first_writer 0 sets loc ≡ Some found → IsFirst tasks sets rank
    known rank found at is =
        let place = first_is 0 found tasks sets same is in
        let here : Some found ≡ Some rank = sym (noted loc found is) ∙ at in
        let number : found ≡ rank = cc in
        subst (IsFirst tasks sets) (omega (arith, place.1, number)) place.2

    none_unless : ((found : ℕ) → first_writer 0 sets loc ≡ Some found → ⊥) → first ≡ None
    none_unless never = by_case (first_writer 0 sets loc) refl
      where
        by_case : (o : Option ℕ) → first_writer 0 sets loc ≡ o → first ≡ None
        by_case None is = ap (λ all. slice_get all 0) (nobody 0 tasks sets is)
        by_case (Some found) is = absurd (never found is)

    -- nothing stands there
    pub unless_noted : slice_get writers loc ≡ None → first ≡ None
    unless_noted none = none_unless (λ found is. let wrong : None ≡ Some found = sym none ∙ noted loc found is in absurd cc)

    -- what stands there is the place of no set
    pub unless_there : (rank : ℕ) → slice_get writers loc ≡ Some rank → slice_get sets rank ≡ None → first ≡ None
    unless_there rank at none = none_unless (λ found is. let place = known rank found at is in let wrong : None ≡ Some place.set = sym none ∙ place.at in absurd cc)

    -- or of one that doesn't write the location
    pub unless_writing : (rank : ℕ) (set : Accesses) → slice_get writers loc ≡ Some rank → slice_get sets rank ≡ Some set → writes set loc ≡ false → first ≡ None
    unless_writing rank set at there reads = none_unless (λ found is.
        let place = known rank found at is in
        let here : Some set ≡ Some place.set = sym there ∙ place.at in
        let one : set ≡ place.set = cc in
        true≢false (sym place.writing ∙ ap (λ s. writes s loc) (sym one) ∙ reads))

    -- it is the place of the first that does
    pub where_writing : (rank : ℕ) (set : Accesses) → slice_get writers loc ≡ Some rank → slice_get sets rank ≡ Some set → writes set loc ≡ true → first ≡ slice_get tasks rank
    where_writing rank set at there writing = by_case (first_writer 0 sets loc) refl
      where
        by_case : (o : Option ℕ) → first_writer 0 sets loc ≡ o → first ≡ slice_get tasks rank
        by_case None is = absurd (somebody 0 rank set sets there writing is)
        by_case (Some found) is = (known rank found at is).first
