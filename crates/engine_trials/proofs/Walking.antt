-- The deed of walkers along arrows, and what their operator leaves.
use Rattle.std.proofs.Common.{◌≡◌, ◌+◌, ◌<◌, ◌≤◌, ◌^◌, ℕ, zero, suc, true, false, cond, List, [], ◌∷◌, length, map, refl, sym, ap, subst, ◌∙◌, arith, lit<}
use Rattle.std.specs.Prelude.{◌%◌, nat_lt, slice_index}
use Rattle.std.specs.List.{AllByRecursion}
use Rattle.std.proofs.lemmas.Bool.{cond_both}
use Rattle.std.proofs.lemmas.Bool.Decides.{nat_tests}
use Rattle.task_order.specs.declared.start.Start.{Start}
use Rattle.task_order.specs.declared.task.Body.{Body}
use Rattle.task_order.specs.declared.task.Task.{Task}
use Rattle.rw_sets.specs.Accesses.{Accesses}
use Rattle.cell_store.specs.declared.cell.Cell.TheVariants.{Home}
use Rattle.cell_store.specs.Cells.{cell_in, with_value}
use Rattle.cell_store.specs.Part.{Part}
use Rattle.app_laws.specs.declared.child.Child.{Child}
use Rattle.app_laws.specs.Names.{start_of_task}
use Rattle.hook_app.specs.Hooked.{AreValuesOf, FitTogether, IsFitDeed, set_at}
use Rattle.hook_app.specs.Kept.{bundle_with, effect_with}
use Rattle.hook_app.specs.OneLocation.{found_is, one_value, own_ascending, own_in_range, own_set, put_is}
use Rattle.hook_app.specs.Values.{KeepsRead}
use Rattle.engine_trials.specs.Walking.{AreArrows, next_steps, next_walkers, onward, place_sets, walking}

pub place_own : (at : ℕ) → at < 3 → set_at place_sets at ≡ own_set at
place_own zero below = refl
place_own (suc zero) below = refl
place_own (suc (suc zero)) below = refl
place_own (suc (suc (suc at))) below = absurd (omega arith)

leads_at : (arrows : List ℕ) (at : ℕ) → at < length arrows → AllByRecursion (λ place. place < 3) arrows → slice_index arrows at < 3
leads_at [] at below all = absurd (omega arith)
leads_at (place ∷ arrows) zero below all = all.0
leads_at (place ∷ arrows) (suc at) below all = leads_at arrows at (omega arith) all.1

-- an arrow leads to a place
pub arrow_leads : (arrows : List ℕ) (at : ℕ) → AreArrows arrows → at < 3 → slice_index arrows at < 3
arrow_leads arrows at are below = leads_at arrows at (omega (arith, are.count)) are.lead

step_fit : (arrows : List ℕ) (start : Start) (ahead : ℕ) (values : List ℕ) → AreArrows arrows → ahead ≤ 1 → start.body.at < 3 → AreValuesOf (walking arrows) (set_at place_sets start.body.at) values
    → IsFitDeed (walking arrows) place_sets ahead start values ((walking arrows).deed start values)
step_fit arrows start ahead values are_arrows near below are =
    let own = place_own start.body.at below in
    let one = one_value (walking arrows) place_sets start.body.at values own are in
    subst (λ (vs : List ℕ). IsFitDeed (walking arrows) place_sets ahead start vs ((walking arrows).deed start vs)) (sym one.1)
    (of_one one.0 own (subst (AreValuesOf (walking arrows) (set_at place_sets start.body.at)) one.1 are))
  where
    next : List Start
    next = record { prio = start.prio + 1; body = onward arrows start.body } ∷ []

    of_one : (value : ℕ) → set_at place_sets start.body.at ≡ own_set start.body.at → AreValuesOf (walking arrows) (set_at place_sets start.body.at) (value ∷ [])
        → IsFitDeed (walking arrows) place_sets ahead start (value ∷ []) ((walking arrows).deed start (value ∷ []))
    of_one value own of = record {
      new_values = record { one_each = of.one_each; fit = (omega arith, tt) };
      read_kept = subst (λ (set : Accesses). KeepsRead set (value ∷ []) (((value + start.body.arg) % 2 ^ 64) ∷ [])) (sym own) tt;
      children = cond_both (nat_lt start.prio 4) next [] (AllByRecursion (λ (child : Start). (child.body.at < 3) × (child.prio ≤ 4)))
          (λ more. ((arrow_leads arrows start.body.at are_arrows below, grind (arith, nat_tests, more)), tt)) (λ last. tt);
      few = cond_both (nat_lt start.prio 4) next [] (λ (children : List Start). length children < 2 ^ 32) (λ more. lit< tt) (λ last. lit< tt);
      lines = tt;
      late = cond_both (nat_lt start.prio 4) next [] (AllByRecursion (λ (child : Start). start.prio + ahead ≤ child.prio)) (λ more. (omega arith, tt)) (λ last. tt);
    }

pub walking_together : (arrows : List ℕ) (ahead : ℕ) → AreArrows arrows → ahead ≤ 1 → FitTogether (walking arrows) 3 place_sets ahead
walking_together arrows ahead are_arrows near = record {
  ascending = (own_ascending 0, (own_ascending 1, (own_ascending 2, tt)));
  below = (own_in_range 0 3 (omega arith), (own_in_range 1 3 (omega arith), (own_in_range 2 3 (omega arith), tt)));
  at_sets = λ prio body fit. fit.0;
  deeds_fit = λ start values fit are. step_fit arrows start ahead values are_arrows near fit.0 are;
}

handed_steps : (arrows : List ℕ) (prio : ℕ) (body : Body) → set_at place_sets (slice_index arrows body.at) ≡ own_set (slice_index arrows body.at)
    → map (λ (child : Start). record { prio = child.prio; body = child.body; set = set_at place_sets child.body.at }) (next_steps arrows prio body) ≡ next_walkers arrows prio body
handed_steps arrows prio body is =
    let start : Start = record { prio = prio + 1; body = onward arrows body } in
    let child : Child = record { prio = prio + 1; body = onward arrows body; set = own_set (slice_index arrows body.at) } in
    elim (nat_lt prio 4) as (λ more. map (λ (next : Start). record { prio = next.prio; body = next.body; set = set_at place_sets next.body.at }) (cond more (start ∷ []) []) ≡ cond more (child ∷ []) []) [
      | true ↦ (λ i. record { prio = prio + 1; body = onward arrows body; set = is i } ∷ [])
      | false ↦ refl
    ]

-- what is put, and the children, are the effect that the deed says
pub walked_effect : (arrows : List ℕ) (task : Task) (bundle put : Part ℕ) (children : List Child) (value sum : ℕ) (text values : List ℕ) → AreArrows arrows → task.body.at < 3
    → AreValuesOf (walking arrows) (set_at place_sets task.body.at) values → bundle ≡ bundle_with (set_at place_sets task.body.at) values
    → cell_in bundle task.body.at ≡ Home value → sum ≡ (value + task.body.arg) % 2 ^ 64 → put ≡ with_value bundle task.body.at sum
    → children ≡ next_walkers arrows task.key.prio task.body → text ≡ []
    → record { bundle = put; children = children; text = text } ≡ effect_with place_sets (set_at place_sets task.body.at) ((walking arrows).deed (start_of_task task) values)
walked_effect arrows task bundle put children value sum text values are_arrows below are is found sums puts are_children no_text =
    let at = task.body.at in
    let own = place_own at below in
    let one = one_value (walking arrows) place_sets at values own are in
    let is_one : bundle ≡ bundle_with (set_at place_sets at) (one.0 ∷ []) = is ∙ ap (bundle_with (set_at place_sets at)) one.1 in
    let value_is = found_is place_sets at own bundle one.0 value is_one found in
    let sum_is : sum ≡ (one.0 + task.body.arg) % 2 ^ 64 = sums ∙ ap (λ (v : ℕ). (v + task.body.arg) % 2 ^ 64) value_is in
    let put_there : put ≡ bundle_with (set_at place_sets at) (((one.0 + task.body.arg) % 2 ^ 64) ∷ []) =
    put_is place_sets at own bundle put one.0 sum is_one puts ∙ ap (λ (new : ℕ). bundle_with (set_at place_sets at) (new ∷ [])) sum_is in
    let all_handed = are_children ∙ sym (handed_steps arrows task.key.prio task.body (place_own (slice_index arrows at) (arrow_leads arrows at are_arrows below))) in
    let effect : record { bundle = put; children = children; text = text } ≡ effect_with place_sets (set_at place_sets at) ((walking arrows).deed (start_of_task task) (one.0 ∷ [])) =
    λ i. record { bundle = put_there i; children = all_handed i; text = no_text i } in
    effect ∙ ap (λ (vs : List ℕ). effect_with place_sets (set_at place_sets at) ((walking arrows).deed (start_of_task task) vs)) (sym one.1)
