-- What all seats together have, where one of them changes.
use Rattle.std.proofs.Common.{◌≡◌, ◌≢◌, ℕ, zero, suc, List, [], ◌∷◌, ◌++◌, Option, Some, None, set, refl, sym, ap, subst, ◌∙◌, arith, append_assoc}
use Rattle.std.specs.Prelude.{IsPermutation}
use Rattle.std.specs.List.{flat_map}
use Rattle.std.specs.Option.{option_or}
use Rattle.std.proofs.lemmas.List.Sorted.{IsPermutation-append_comm, IsPermutation-append_left, IsPermutation-append_right, IsPermutation-refl, IsPermutation-sym, IsPermutation-trans}
use mathlib.Core.Option.{some, some-injective, some-ne-none}
use lib.ListN.{get_elem?}
use Rattle.plain_laws.specs.Places.{at_inside, set_twice}
use Rattle.atomic_table.proofs.Lists.{set_here}
use Rattle.crew.specs.declared.answers.OverCause.{OverCause}
use Rattle.worker_gate.specs.declared.view.View.{View}
use Rattle.worker_gate.specs.Fits.{Sum}
use Rattle.worker_gate.specs.Hall.{IsAt, NoteOneMark, drained_by, noted, sum_of}
use Rattle.worker_gate.specs.Laws.{IsSameSum}
use Rattle.worker_gate.specs.Steps.{spent, with_others}
use Rattle.worker_gate.proofs.Places.{some_is_not_none}

-- ---- lists

pub same_permutes : {X : Type 0} (xs ys : List X) → xs ≡ ys → IsPermutation xs ys
same_permutes {X} xs ys same = subst (λ (zs : List X). IsPermutation xs zs) same (IsPermutation-refl xs)

swapped : {X : Type 0} (xs ys zs : List X) → IsPermutation (xs ++ (ys ++ zs)) (ys ++ (xs ++ zs))
swapped {X} xs ys zs =
    subst (λ (from : List X). IsPermutation from (ys ++ (xs ++ zs))) (append_assoc xs ys zs)
    (subst (λ (to : List X). IsPermutation ((xs ++ ys) ++ zs) to) (append_assoc ys xs zs)
    (IsPermutation-append_left zs (xs ++ ys) (ys ++ xs) (IsPermutation-append_comm xs ys)))

module _ {A X : Type 0} (f : A → List X) where
  -- what all tell is what one tells and what the others do
  pub told_apart : (none : A) → f none ≡ [] → (l : List A) (place : ℕ) (a : A) → get_elem? l place ≡ some a → IsPermutation (flat_map f l) (f a ++ flat_map f (set l place none))
  told_apart none empty [] place a at = absurd (some-ne-none a (sym at))
  told_apart none empty (x ∷ l) zero a at =
      same_permutes (f x ++ flat_map f l) (f a ++ (f none ++ flat_map f l))
      (ap (λ (y : A). f y ++ flat_map f l) (some-injective x a at) ∙ sym (ap (λ (told : List X). f a ++ (told ++ flat_map f l)) empty))
  told_apart none empty (x ∷ l) (suc place) a at =
      let rest = flat_map f (set l place none) in
      IsPermutation-trans (f x ++ flat_map f l) (f x ++ (f a ++ rest)) (f a ++ (f x ++ rest))
      (IsPermutation-append_right (f x) (flat_map f l) (f a ++ rest) (told_apart none empty l place a at))
      (swapped (f x) (f a) rest)

  pub told_same : (l : List A) (place : ℕ) (a b : A) → get_elem? l place ≡ some a → f b ≡ f a → flat_map f (set l place b) ≡ flat_map f l
  told_same [] place a b at same = refl
  told_same (x ∷ l) zero a b at same = ap (λ (told : List X). told ++ flat_map f l) (same ∙ sym (ap f (some-injective x a at)))
  told_same (x ∷ l) (suc place) a b at same = ap (λ (told : List X). f x ++ told) (told_same l place a b at same)

  -- who tells nothing may stand at the end
  pub told_end : (l : List A) (none : A) → f none ≡ [] → flat_map f (l ++ none ∷ []) ≡ flat_map f l
  told_end [] none empty = ap (λ (told : List X). told ++ []) empty
  told_end (x ∷ l) none empty = ap (λ (told : List X). f x ++ told) (told_end l none empty)

-- ---- marks

-- two of three may be exchanged where not both are there
marks_swapped : (a b c : Option OverCause) → (a ≢ None → b ≢ None → ⊥) → option_or a (option_or b c) ≡ option_or b (option_or a c)
marks_swapped None b c one = refl
marks_swapped (Some x) None c one = refl
marks_swapped (Some x) (Some y) c one = absurd (one (some_is_not_none x) (some_is_not_none y))

pub no_first : (over other : Option OverCause) → option_or over other ≡ None → over ≡ None
no_first None other is = refl
no_first (Some cause) other is = absurd (some_is_not_none cause is)

pub no_second : (over other : Option OverCause) → option_or over other ≡ None → other ≡ None
no_second None other is = is
no_second (Some cause) other is = absurd (some_is_not_none cause is)

pub same_back : {V : Type 0} {sum other : Sum V} → IsSameSum sum other → IsSameSum other sum
same_back {sum} {other} same = record {
  jobs = IsPermutation-sym sum.jobs other.jobs same.jobs;
  finished = IsPermutation-sym sum.finished other.finished same.finished;
  over = sym same.over;
  drained = sym same.drained;
}

module _ {S V : Type 0} where
  pub later_marks : (v : View S V) (views : List (View S V)) → NoteOneMark (v ∷ views) → NoteOneMark views
  later_marks v views one place other u w at too marked also =
      let same : suc place ≡ suc other = one (suc place) (suc other) u w at too marked also in omega (arith, same)

  pub noted_apart : (views : List (View S V)) (place : ℕ) (v : View S V) → NoteOneMark views → IsAt views place v → noted views ≡ option_or v.over (noted (set views place spent))
  noted_apart [] place v one at = absurd (some-ne-none v (sym at))
  noted_apart (u ∷ views) zero v one at = ap (λ (w : View S V). option_or w.over (noted views)) (some-injective u v at)
  noted_apart (u ∷ views) (suc place) v one at =
      ap (λ (over : Option OverCause). option_or u.over over) (noted_apart views place v (later_marks u views one) at)
      ∙ marks_swapped u.over v.over (noted (set views place spent))
      (λ marked also. let same : zero ≡ suc place = one zero (suc place) u v refl at marked also in absurd (omega (arith, same)))

  -- where nobody notes a mark, none does
  pub noted_by_none : (views : List (View S V)) (place : ℕ) (v : View S V) → noted views ≡ None → IsAt views place v → v.over ≡ None
  noted_by_none [] place v none at = absurd (some-ne-none v (sym at))
  noted_by_none (u ∷ views) zero v none at = sym (ap (λ (w : View S V). w.over) (some-injective u v at)) ∙ no_first u.over (noted views) none
  noted_by_none (u ∷ views) (suc place) v none at = noted_by_none views place v (no_second u.over (noted views) none) at

  pub noted_same : (views : List (View S V)) (place : ℕ) (v w : View S V) → IsAt views place v → w.over ≡ v.over → noted (set views place w) ≡ noted views
  noted_same [] place v w at same = refl
  noted_same (u ∷ views) zero v w at same = ap (λ (over : Option OverCause). option_or over (noted views)) (same ∙ sym (ap (λ (x : View S V). x.over) (some-injective u v at)))
  noted_same (u ∷ views) (suc place) v w at same = ap (λ (over : Option OverCause). option_or u.over over) (noted_same views place v w at same)

  pub noted_end : (views : List (View S V)) (v : View S V) → v.over ≡ None → noted (views ++ v ∷ []) ≡ noted views
  noted_end [] v none = ap (λ (over : Option OverCause). option_or over None) none
  noted_end (u ∷ views) v none = ap (λ (over : Option OverCause). option_or u.over over) (noted_end views v none)

  -- ---- drains

  pub drained_first : (views : List (View S V)) (v : View S V) → IsAt views 0 v → drained_by views ≡ v.drained
  drained_first [] v at = absurd (some-ne-none v (sym at))
  drained_first (u ∷ views) v at = ap (λ (w : View S V). w.drained) (some-injective u v at)

  pub drained_else : (views : List (View S V)) (place : ℕ) (w : View S V) → place ≢ 0 → drained_by (set views place w) ≡ drained_by views
  drained_else views zero w other = absurd (other refl)
  drained_else [] (suc place) w other = refl
  drained_else (u ∷ views) (suc place) w other = refl

  pub drained_same : (views : List (View S V)) (place : ℕ) (v w : View S V) → IsAt views place v → w.drained ≡ v.drained → drained_by (set views place w) ≡ drained_by views
  drained_same [] place v w at same = refl
  drained_same (u ∷ views) zero v w at same = same ∙ sym (ap (λ (x : View S V). x.drained) (some-injective u v at))
  drained_same (u ∷ views) (suc place) v w at same = refl

  pub drained_end : (views : List (View S V)) (v u : View S V) → IsAt views 0 u → drained_by (views ++ v ∷ []) ≡ drained_by views
  drained_end [] v u at = absurd (some-ne-none u (sym at))
  drained_end (x ∷ views) v u at = refl

  -- ---- sums

  -- what the others have
  abbrev pub others_of : List (View S V) → ℕ → Sum V
  others_of views place = record { jobs = flat_map (λ v. v.jobs) (set views place spent); finished = flat_map (λ v. v.finished) (set views place spent); over = noted (set views place spent); drained = drained_by views }

  pub sum_apart : (views : List (View S V)) (place : ℕ) (v : View S V) → NoteOneMark views → IsAt views place v → IsSameSum (sum_of views) (with_others v (others_of views place))
  sum_apart views place v one at = record {
    jobs = told_apart (λ (u : View S V). u.jobs) spent refl views place v at;
    finished = told_apart (λ (u : View S V). u.finished) spent refl views place v at;
    over = noted_apart views place v one at;
    drained = refl;
  }

  -- the sum where one seat has changed, by what it has now and what the others had
  pub sum_changed : (views : List (View S V)) (place : ℕ) (v w : View S V) → IsAt views place v → NoteOneMark (set views place w)
      → IsSameSum (with_others w (record (others_of views place) { drained = drained_by (set views place w) })) (sum_of (set views place w))
  sum_changed views place v w at one =
      same_back (subst (λ (others : List (View S V)). IsSameSum (sum_of (set views place w))
      (with_others w (record { jobs = flat_map (λ u. u.jobs) others; finished = flat_map (λ u. u.finished) others; over = noted others; drained = drained_by (set views place w) })))
      (set_twice views place w spent) (sum_apart (set views place w) place w one (set_here views place w (at_inside views place v at))))

  -- a change of one seat that leaves its jobs, keys, mark and number alone
  pub record IsQuiet (v w : View S V) : Type 0 where
    pub jobs : w.jobs ≡ v.jobs
    pub finished : w.finished ≡ v.finished
    pub over : w.over ≡ v.over
    pub drained : w.drained ≡ v.drained

  pub sum_same : (views : List (View S V)) (place : ℕ) (v w : View S V) → IsAt views place v → IsQuiet v w → sum_of (set views place w) ≡ sum_of views
  sum_same views place v w at quiet =
      let jobs = told_same (λ (u : View S V). u.jobs) views place v w at quiet.jobs in
      let finished = told_same (λ (u : View S V). u.finished) views place v w at quiet.finished in
      let over = noted_same views place v w at quiet.over in
      let drained = drained_same views place v w at quiet.drained in
      λ i. record { jobs = jobs i; finished = finished i; over = over i; drained = drained i }
