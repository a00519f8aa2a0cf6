-- That a stored operator does the deeds.
use Rattle.std.specs.Prelude.{◌≡◌, ℕ, List, map, Result, MatchResult}
use Rattle.task_order.specs.declared.task.Task.{Task}
use Rattle.rw_sets.specs.Accesses.{Accesses}
use Rattle.cell_store.specs.Part.{Part}
use Rattle.cell_store.specs.Values.{homes}
use Rattle.app_laws.specs.declared.app.Effect.{Effect}
use Rattle.app_laws.specs.Execution.{Outcome}
use Rattle.app_laws.specs.Names.{start_of_task}
use Rattle.hook_app.specs.Deeds.{Deeds}
use Rattle.hook_app.specs.Hooked.{AreValuesOf, FitTogether, set_at}

-- the bundle with these values, in the order of the set
abbrev pub bundle_with : {V : Type 0} → Accesses → List V → Part V
bundle_with set values = record { set = set; cells = homes values }

-- what a deed leaves, as it is handed over: each child with the set of its number
abbrev pub effect_with : {V : Type 0} → List Accesses → Accesses → Outcome V → Effect V
effect_with sets set outcome = record {
  bundle = bundle_with set outcome.cells;
  children = map (λ child. record { prio = child.prio; body = child.body; set = set_at sets child.body.at }) outcome.children;
  text = outcome.text;
}

module _ {V : Type 0} (deeds : Deeds V) (sets : List Accesses) where
  -- what an operator is called with: a fit task, and a bundle of fit values of its set
  pub record IsAsked (task : Task) (bundle : Part V) : Type 0 where
    pub fit : deeds.is_fit_task task.key.prio task.body
    pub values : List V
    pub are_values : AreValuesOf deeds (set_at sets task.body.at) values
    pub is : bundle ≡ bundle_with (set_at sets task.body.at) values

  -- what it answers: the effect that the deed says, or the bundle as it was
  abbrev pub IsAnswered : Task → Part V → Result (Effect V) (Part V) → Type 0
  IsAnswered task bundle answer = (values : List V) → AreValuesOf deeds (set_at sets task.body.at) values → bundle ≡ bundle_with (set_at sets task.body.at) values →
      MatchResult answer
      (λ effect. effect ≡ effect_with sets (set_at sets task.body.at) (deeds.deed (start_of_task task) values))
      (λ back. back ≡ bundle)

  -- an operator may be called so, and then answers so
  pub record DoesDeeds (may : Task → Part V → Type 0) (gives : Task → Part V → Result (Effect V) (Part V) → Type 0) : Type 0 where
    pub callable : (task : Task) (bundle : Part V) → IsAsked task bundle → may task bundle
    pub does : (task : Task) (bundle : Part V) (answer : Result (Effect V) (Part V)) → IsAsked task bundle → gives task bundle answer → IsAnswered task bundle answer

-- the hook keeps its deed: all that the maker of a hooked application owes
pub record HookKeeps {V : Type 0} (deeds : Deeds V) (cells : ℕ) (sets : List Accesses) (ahead : ℕ) (may : Task → Part V → Type 0) (gives : Task → Part V → Result (Effect V) (Part V) → Type 0) : Type 0 where
  pub together : FitTogether deeds cells sets ahead
  pub does_deeds : DoesDeeds deeds sets may gives
