-- Sets of one location that is written, and bundles of them.
use Rattle.std.specs.Prelude.{◌≡◌, ℕ, ◌<◌, List, [], ◌∷◌, length, IsSome, IsTrue, refl}
use Rattle.std.proofs.Common.{arith, ap, sym, subst, inl, inr, ◌∙◌}
use Rattle.std.proofs.lemmas.Bool.{cases_eq, false≢true}
use Rattle.std.proofs.lemmas.Bool.Decides.{nat_tests}
use Rattle.task_order.specs.declared.task.Task.{Task}
use Rattle.rw_sets.specs.declared.access.Access.TheVariants.{Write}
use Rattle.rw_sets.specs.Accesses.{Accesses, IsAscending, IsInRange, access_at, allows_write, writes}
use Rattle.rw_sets.specs.AccessLaws.{access_first, access_other, ascending_cons, ascending_none}
use Rattle.cell_store.specs.declared.cell.Cell.TheVariants.{Home}
use Rattle.cell_store.specs.Cells.{cell_in, with_value}
use Rattle.cell_store.specs.Part.{Part}
use Rattle.hook_app.specs.Deeds.{Deeds}
use Rattle.hook_app.specs.Hooked.{AreValuesOf, set_at}
use Rattle.hook_app.specs.Kept.{IsAsked, bundle_with}

-- the set that writes one location
abbrev pub own_set : ℕ → Accesses
own_set loc = (loc, Write) ∷ []

pub own_named : (loc : ℕ) → IsSome (access_at (own_set loc) loc)
own_named loc = rw (access_first (loc, Write) [] loc refl) refl

pub own_written : (loc : ℕ) → IsTrue (writes (own_set loc) loc)
own_written loc = ap allows_write (access_first (loc, Write) [] loc refl)

pub own_ascending : (loc : ℕ) → IsAscending (own_set loc)
own_ascending loc = ascending_cons (loc, Write) [] tt ascending_none

pub own_in_range : (loc cells : ℕ) → loc < cells → IsInRange (own_set loc) cells
own_in_range loc cells below other named = elim (cases_eq loc other) [
  | inl is ↦ subst (λ l. l < cells) is below
  | inr differs ↦ absurd (false≢true (rw (access_other (loc, Write) [] other differs) at named))
]

module _ {V : Type 0} where
  -- the value of such a bundle is at its location
  pub own_value : (loc : ℕ) (value : V) → cell_in (bundle_with (own_set loc) (value ∷ [])) loc ≡ Home value
  own_value loc value = grind (arith, nat_tests)

  -- and another takes its place
  pub own_put : (loc : ℕ) (value new : V) → with_value (bundle_with (own_set loc) (value ∷ [])) loc new ≡ bundle_with (own_set loc) (new ∷ [])
  own_put loc value new = grind (arith, nat_tests)

-- ---- a task whose set is of one location

module _ {V : Type 0} (deeds : Deeds V) (sets : List Accesses) where
  -- its set has its location, and writes it
  pub asked_named : (task : Task) (bundle : Part V) → set_at sets task.body.at ≡ own_set task.body.at → IsAsked deeds sets task bundle → IsSome (access_at bundle.set task.body.at)
  asked_named task bundle own asked =
      subst (λ (set : Accesses). IsSome (access_at set task.body.at)) (sym (ap (λ (part : Part V). part.set) asked.is ∙ own)) (own_named task.body.at)

  pub asked_written : (task : Task) (bundle : Part V) → set_at sets task.body.at ≡ own_set task.body.at → IsAsked deeds sets task bundle → IsTrue (writes bundle.set task.body.at)
  asked_written task bundle own asked =
      subst (λ (set : Accesses). IsTrue (writes set task.body.at)) (sym (ap (λ (part : Part V). part.set) asked.is ∙ own)) (own_written task.body.at)

  -- there is one value
  pub one_value : (at : ℕ) (values : List V) → set_at sets at ≡ own_set at → AreValuesOf deeds (set_at sets at) values → (value : V) × (values ≡ value ∷ [])
  one_value at [] own are = absurd (let e : length (set_at sets at) ≡ 1 = ap length own in omega (arith, are.one_each, e))
  one_value at (value ∷ []) own are = (value, refl)
  one_value at (value ∷ other ∷ values) own are = absurd (let e : length (set_at sets at) ≡ 1 = ap length own in omega (arith, are.one_each, e))

module _ {V : Type 0} (sets : List Accesses) (at : ℕ) (own : set_at sets at ≡ own_set at) where
  -- what is found in its bundle is that value
  pub found_is : (bundle : Part V) (old found : V) → bundle ≡ bundle_with (set_at sets at) (old ∷ []) → cell_in bundle at ≡ Home found → found ≡ old
  found_is bundle old found is there =
      let same : Home found ≡ Home old = sym there ∙ ap (λ (part : Part V). cell_in part at) (is ∙ ap (λ (set : Accesses). bundle_with set (old ∷ [])) own) ∙ own_value at old in cc

  -- and where another is put there, the bundle has that one
  pub put_is : (bundle put : Part V) (old new : V) → bundle ≡ bundle_with (set_at sets at) (old ∷ []) → put ≡ with_value bundle at new → put ≡ bundle_with (set_at sets at) (new ∷ [])
  put_is bundle put old new is puts =
      puts ∙ ap (λ (part : Part V). with_value part at new) (is ∙ ap (λ (set : Accesses). bundle_with set (old ∷ [])) own) ∙ own_put at old new
      ∙ ap (λ (set : Accesses). bundle_with set (new ∷ [])) (sym own)
