-- What a hook gets and gives, as parts of the application's cells.
use Rattle.std.proofs.Common.{◌≡◌, ℕ, List, [], ◌∷◌, length, map, refl, sym, ap, subst, ◌∙◌}
use Rattle.std.specs.Prelude.{Option, unwrap_or, option_map, Result, Ok, Err, IfOk, IfErr}
use Rattle.task_order.specs.declared.task.Task.{Task}
use Rattle.rw_sets.specs.Accesses.{Accesses, IsAscending, IsInRange}
use Rattle.rw_sets.specs.AccessLaws.{has_later}
use Rattle.cell_store.specs.declared.cell.Cell.TheVariants.{Home, Out}
use Rattle.cell_store.specs.Cells.{cell_at, part_of}
use Rattle.cell_store.specs.Laws.{HomesByLocation}
use Rattle.cell_store.specs.Part.{Part}
use Rattle.cell_store.specs.Values.{homes}
use Rattle.app_laws.specs.declared.app.Effect.{Effect}
use Rattle.app_laws.specs.Applications.{Application, IsEffect, IsFitTask, IsTaken, effect_of}
use Rattle.app_laws.specs.Names.{start_of_task}
use Rattle.hook_app.specs.Deeds.{Deeds}
use Rattle.hook_app.specs.Hooked.{AreFitCells, Hooked, hooked, set_at}
use Rattle.hook_app.specs.Kept.{IsAnswered, IsAsked, bundle_with, effect_with}
use Rattle.hook_app.specs.Lawful.{deed_done, set_in_range, values_taken}
use Rattle.hook_app.specs.Values.{KeepsRead, put_values, values_at}
use Rattle.hook_app.specs.ValueLaws.{found, length-put_values, named_first, values_at-put_values, values_first}

module _ {V : Type 0} where
  cells_at : (set : Accesses) (values : List V) → HomesByLocation V → IsInRange set (length values) → map (λ p. cell_at (homes values) p.0) set ≡ homes (values_at set values)
  cells_at [] values laws below = refl
  cells_at (p ∷ ps) values laws below =
      let here = found values p.0 (below p.0 (named_first p ps)) in
      let first : cell_at (homes values) p.0 ≡ Home here.0 = laws.each values p.0 ∙ ap (λ (value : Option V). unwrap_or (option_map Home value) Out) here.1 in
      let rest = cells_at ps values laws (λ loc named. below loc (has_later p ps loc named)) in
      (λ i. first i ∷ rest i) ∙ sym (ap homes (values_first p ps values here.0 here.1))

  -- the part that a set names is the bundle of its values
  pub part_of-values : (set : Accesses) (values : List V) → HomesByLocation V → IsInRange set (length values) → part_of (homes values) set ≡ bundle_with set (values_at set values)
  part_of-values set values laws below = λ i. record { set = set; cells = cells_at set values laws below i }

  part_of-new : (set : Accesses) (new values : List V) → HomesByLocation V → IsAscending set → IsInRange set (length values) → length new ≡ length set →
      KeepsRead set (values_at set values) new → part_of (homes (put_values set new values)) set ≡ bundle_with set new
  part_of-new set new values laws up below one_each kept =
      part_of-values set (put_values set new values) laws (subst (IsInRange set) (sym (length-put_values set new values)) below)
      ∙ ap (bundle_with set) (values_at-put_values set new values up below one_each kept)

module _ {V : Type 0} (deeds : Deeds V) (cells : ℕ) (sets : List Accesses) (ahead : ℕ) where
  -- the bundle of a fit task has the values of its set
  pub bundle_is : (task : Task) (values : List V) → HomesByLocation V → AreFitCells deeds cells sets ahead values → deeds.is_fit_task task.key.prio task.body →
      part_of (homes values) (set_at sets task.body.at) ≡ bundle_with (set_at sets task.body.at) (values_at (set_at sets task.body.at) values)
  bundle_is task values laws fit is-task =
      let set = set_at sets task.body.at in
      part_of-values set values laws (subst (IsInRange set) (sym fit.count) (set_in_range deeds cells sets ahead task fit.together is-task).below)

  -- what the deed says is what the application's operator makes of the task's part
  pub effect_is : (task : Task) (values : List V) → HomesByLocation V → AreFitCells deeds cells sets ahead values → deeds.is_fit_task task.key.prio task.body →
      effect_with sets (set_at sets task.body.at) (deeds.deed (start_of_task task) (values_at (set_at sets task.body.at) values)) ≡ effect_of (hooked deeds cells sets ahead) task values
  effect_is task values laws fit is-task =
      let set = set_at sets task.body.at in
      let range = set_in_range deeds cells sets ahead task fit.together is-task in
      let done = deed_done deeds cells sets ahead task values fit is-task in
      let outcome = deeds.deed (start_of_task task) (values_at set values) in
      let part = part_of-new set outcome.cells values laws range.ascending (subst (IsInRange set) (sym fit.count) range.below) done.new_values.one_each done.read_kept in
      let effect = effect_with sets set outcome in
      λ i. record effect { bundle = sym part i }

  -- a bundle that a fit task takes is one that its operator may be called with
  pub asked_with : (task : Task) (bundle : Part V) → HomesByLocation V → deeds.is_fit_task task.key.prio task.body → IsTaken (hooked deeds cells sets ahead) task bundle → IsAsked deeds sets task bundle
  asked_with task bundle laws is-task taken = record {
    fit = is-task;
    values = values_at (set_at sets task.body.at) taken.cells;
    are_values = values_taken deeds cells sets ahead task taken.cells taken.fit is-task;
    is = taken.is ∙ bundle_is task taken.cells laws taken.fit is-task;
  }

  -- and what it answers then is what the application's operator makes
  pub effect_from : (task : Task) (bundle : Part V) (answer : Result (Effect V) (Part V)) → HomesByLocation V → deeds.is_fit_task task.key.prio task.body → IsAnswered deeds sets task bundle answer
      → IfOk answer (IsEffect (hooked deeds cells sets ahead) task bundle)
  effect_from task bundle (Ok effect) laws is-task answered = λ values fit is.
      answered (values_at (set_at sets task.body.at) values) (values_taken deeds cells sets ahead task values fit is-task) (is ∙ bundle_is task values laws fit is-task)
      ∙ effect_is task values laws fit is-task
  effect_from task bundle (Err back) laws is-task answered = tt

  pub back_from : (task : Task) (bundle : Part V) (answer : Result (Effect V) (Part V)) → IsAsked deeds sets task bundle → IsAnswered deeds sets task bundle answer → IfErr answer (λ back. back ≡ bundle)
  back_from task bundle (Ok effect) asked answered = tt
  back_from task bundle (Err back) asked answered = answered asked.values asked.are_values asked.is

module _ {V D H : Type 0} (meaning : D → Deeds V) where
  abbrev app_of : Hooked D H → Application V
  app_of app = hooked (meaning app.deed) app.cells app.sets app.ahead

  -- the same of an application as it is held, where the task and its bundle are told of as it is seen
  pub asked_of : (held seen : Hooked D H) → held ≡ seen → (task : Task) (bundle : Part V) → HomesByLocation V → IsFitTask (app_of seen) task → IsTaken (app_of seen) task bundle
      → IsAsked (meaning held.deed) held.sets task bundle
  asked_of held seen is task bundle laws fit taken =
      asked_with (meaning held.deed) held.cells held.sets held.ahead task bundle laws (subst (λ (app : Hooked D H). IsFitTask (app_of app) task) (sym is) fit)
      (subst (λ (app : Hooked D H). IsTaken (app_of app) task bundle) (sym is) taken)

  pub effect_seen : (held seen : Hooked D H) → held ≡ seen → (task : Task) (bundle : Part V) (answer : Result (Effect V) (Part V)) → HomesByLocation V → IsFitTask (app_of seen) task
      → IsAnswered (meaning held.deed) held.sets task bundle answer → IfOk answer (IsEffect (app_of seen) task bundle)
  effect_seen held seen is task bundle answer laws fit answered =
      subst (λ (app : Hooked D H). IfOk answer (IsEffect (app_of app) task bundle)) is
      (effect_from (meaning held.deed) held.cells held.sets held.ahead task bundle answer laws (subst (λ (app : Hooked D H). IsFitTask (app_of app) task) (sym is) fit) answered)
