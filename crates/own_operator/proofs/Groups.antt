-- The deed of the operator, and what it leaves.
use Rattle.std.proofs.Common.{◌≡◌, ◌+◌, ◌*◌, ◌/◌, ◌%◌, ◌<◌, ◌≤◌, ◌^◌, ℕ, true, false, cond, List, [], ◌∷◌, length, map, refl, sym, ap, subst, ◌∙◌, arith, lit<, add-one}
use Rattle.std.specs.Prelude.{Result, nat_lt}
use Rattle.std.specs.List.{AllByRecursion}
use Rattle.std.proofs.Math.Nat.{mod-eq_of_lt, mul_assoc, pow-suc}
use Rattle.std.proofs.lemmas.Bool.{cond_both}
use Rattle.std.proofs.lemmas.Bool.Decides.{nat_tests}
use Rattle.std.proofs.lemmas.List.FromFn.{get_or-map-range_with_len, length-map-range_with_len}
use Rattle.std.proofs.lemmas.Nat.{le-div, mod_below, mul-le, mul-mod_first}
use Rattle.plain_laws.specs.Ranges.{All-map-range}
use Rattle.task_order.specs.declared.start.Start.{Start}
use Rattle.task_order.specs.declared.task.Body.{Body}
use Rattle.task_order.specs.declared.task.Task.{Task}
use Rattle.rw_sets.specs.Accesses.{Accesses, IsAscending, IsInRange}
use Rattle.cell_store.specs.declared.cell.Cell.TheVariants.{Home}
use Rattle.cell_store.specs.Cells.{cell_in, with_value}
use Rattle.cell_store.specs.Part.{Part}
use Rattle.app_laws.specs.declared.app.Effect.{Effect}
use Rattle.app_laws.specs.declared.child.Child.{Child}
use Rattle.app_laws.specs.Names.{start_of_task}
use Rattle.hook_app.specs.Hooked.{AreValuesOf, FitTogether, IsFitDeed, set_at}
use Rattle.hook_app.specs.Kept.{HookKeeps, bundle_with, effect_with}
use Rattle.hook_app.specs.OneLocation.{found_is, one_value, own_ascending, own_in_range, own_set, put_is}
use Rattle.hook_app.specs.Values.{KeepsRead}
use Rattle.own_operator.specs.declared.mixer.Mixer.{Mixer}
use Rattle.own_operator.specs.Mixing.{IsMixer, end_of, first_at, group_sets, group_tasks, mixing, multiplied, next_children, next_starts}

-- ---- products

pub multiplied_none : (value : ℕ) → value < 2 ^ 64 → value ≡ multiplied value 0
multiplied_none value below =
    let alone : value * 13 ^ 0 ≡ value = omega arith in
    sym (ap (λ (product : ℕ). product % 2 ^ 64) alone ∙ mod-eq_of_lt below)

-- one factor more
pub multiplied_more : (value times : ℕ) → (multiplied value times * 13) % 2 ^ 64 ≡ multiplied value (times + 1)
multiplied_more value times =
    let factor : ℕ = 13 in
    mul-mod_first (value * factor ^ times) factor (2 ^ 64)
    ∙ ap (λ (product : ℕ). product % 2 ^ 64) (mul_assoc value (factor ^ times) factor ∙ ap (λ (power : ℕ). value * power) (sym (pow-suc factor times)))
    ∙ ap (multiplied value) (sym (add-one times))

-- ---- the sets and the first tasks

pub own_at : (groups at : ℕ) → at < groups → set_at (group_sets groups) at ≡ own_set at
own_at groups at below = get_or-map-range_with_len own_set 0 groups at at [] below (omega arith)

-- all tasks come before the end, the first ones too
first_before_end : (mixer : Mixer) (at : ℕ) → IsMixer mixer → at % mixer.lookahead < end_of mixer
first_before_end mixer at is =
    let within = mod_below at mixer.lookahead (omega (arith, is.lookahead.0)) in
    let some : 1 ≤ mixer.tasks / mixer.groups = le-div 1 mixer.tasks mixer.groups (omega (arith, is.groups.0)) (omega (arith, is.groups.1, is.tasks.0)) in
    let once : mixer.lookahead * 1 ≤ end_of mixer = mul-le mixer.lookahead 1 mixer.lookahead (mixer.tasks / mixer.groups) (omega arith) some in
    omega (arith, within, once)

mixed_fit : (mixer : Mixer) (start : Start) (values : List ℕ) → start.body.at < mixer.groups → AreValuesOf (mixing mixer) (set_at (group_sets mixer.groups) start.body.at) values
    → IsFitDeed (mixing mixer) (group_sets mixer.groups) mixer.lookahead start values ((mixing mixer).deed start values)
mixed_fit mixer start values below are =
    let own = own_at mixer.groups start.body.at below in
    let one = one_value (mixing mixer) sets start.body.at values own are in
    subst (λ (vs : List ℕ). IsFitDeed (mixing mixer) sets mixer.lookahead start vs ((mixing mixer).deed start vs)) (sym one.1)
    (of_one one.0 own (subst (AreValuesOf (mixing mixer) (set_at sets start.body.at)) one.1 are))
  where
    sets : List Accesses
    sets = group_sets mixer.groups

    next : List Start
    next = record { prio = start.prio + mixer.lookahead; body = start.body } ∷ []

    of_one : (value : ℕ) → set_at sets start.body.at ≡ own_set start.body.at → AreValuesOf (mixing mixer) (set_at sets start.body.at) (value ∷ [])
        → IsFitDeed (mixing mixer) sets mixer.lookahead start (value ∷ []) ((mixing mixer).deed start (value ∷ []))
    of_one value own of =
        let follows = nat_lt (start.prio + mixer.lookahead) (end_of mixer) in record {
          new_values = record { one_each = of.one_each; fit = (omega arith, tt) };
          read_kept = subst (λ (set : Accesses). KeepsRead set (value ∷ []) (multiplied value mixer.times ∷ [])) (sym own) tt;
          children = cond_both follows next [] (AllByRecursion (λ (child : Start). (child.body.at < mixer.groups) × (child.prio < end_of mixer)))
              (λ more. ((below, grind (arith, nat_tests, more)), tt)) (λ last. tt);
          few = cond_both follows next [] (λ (children : List Start). length children < 2 ^ 32) (λ more. lit< tt) (λ last. lit< tt);
          lines = tt;
          late = cond_both follows next [] (AllByRecursion (λ (child : Start). start.prio + mixer.lookahead ≤ child.prio)) (λ more. (omega arith, tt)) (λ last. tt);
        }

-- the sets, the deed and the lookahead belong together
pub mixing_together : (mixer : Mixer) → FitTogether (mixing mixer) mixer.groups (group_sets mixer.groups) mixer.lookahead
mixing_together mixer = record {
  ascending = All-map-range IsAscending own_set 0 mixer.groups (λ n below. own_ascending n);
  below = All-map-range (λ (set : Accesses). IsInRange set mixer.groups) own_set 0 mixer.groups (λ n below. own_in_range n mixer.groups (omega (arith, below)));
  at_sets = λ prio body fit. let e = length-map-range_with_len own_set 0 mixer.groups in omega (arith, fit.0, e);
  deeds_fit = λ start values fit are. mixed_fit mixer start values fit.0 are;
}

-- what keeps the deed does so by any name of the sets and the lookahead
pub keeps_named : (mixer : Mixer) (sets : List Accesses) (ahead : ℕ) (may : Task → Part ℕ → Type 0) (gives : Task → Part ℕ → Result (Effect ℕ) (Part ℕ) → Type 0)
    → sets ≡ group_sets mixer.groups → ahead ≡ mixer.lookahead → HookKeeps (mixing mixer) mixer.groups (group_sets mixer.groups) mixer.lookahead may gives
    → HookKeeps (mixing mixer) mixer.groups sets ahead may gives
keeps_named mixer sets ahead may gives are is keeps =
    subst (λ (own : List Accesses). HookKeeps (mixing mixer) mixer.groups own ahead may gives) (sym are)
    (subst (λ (later : ℕ). HookKeeps (mixing mixer) mixer.groups (group_sets mixer.groups) later may gives) (sym is) keeps)

-- the first tasks are fit for an application that does the deed of that mixer
pub first_fit : (mixer does : Mixer) (tasks : List Start) → IsMixer mixer → does ≡ mixer → tasks ≡ group_tasks mixer.lookahead mixer.groups
    → AllByRecursion (λ (start : Start). (start.body.at < does.groups) × (start.prio < end_of does)) tasks
first_fit mixer does tasks is same are =
    subst (λ (m : Mixer). AllByRecursion (λ (start : Start). (start.body.at < m.groups) × (start.prio < end_of m)) tasks) (sym same)
    (subst (AllByRecursion (λ (start : Start). (start.body.at < mixer.groups) × (start.prio < end_of mixer))) (sym are)
    (All-map-range (λ (start : Start). (start.body.at < mixer.groups) × (start.prio < end_of mixer)) (first_at mixer.lookahead) 0 mixer.groups
    (λ n below. (omega (arith, below), first_before_end mixer n is))))

pub first_few : (mixer : Mixer) (tasks : List Start) → IsMixer mixer → tasks ≡ group_tasks mixer.lookahead mixer.groups → length tasks < 2 ^ 32
first_few mixer tasks is are = let e = ap length are ∙ length-map-range_with_len (first_at mixer.lookahead) 0 mixer.groups in omega (arith, e, is.groups.1)

-- ---- what the operator leaves

handed_next : (mixer : Mixer) (prio : ℕ) (body : Body) → set_at (group_sets mixer.groups) body.at ≡ own_set body.at
    → map (λ (next : Start). record { prio = next.prio; body = next.body; set = set_at (group_sets mixer.groups) next.body.at }) (next_starts mixer prio body) ≡ next_children mixer prio body
handed_next mixer prio body is =
    let sets = group_sets mixer.groups in
    let later = prio + mixer.lookahead in
    let start : Start = record { prio = later; body = body } in
    let child : Child = record { prio = later; body = body; set = own_set body.at } in
    elim (nat_lt later (end_of mixer)) as (λ more. map (λ (next : Start). record { prio = next.prio; body = next.body; set = set_at sets next.body.at }) (cond more (start ∷ []) []) ≡ cond more (child ∷ []) []) [
      | true ↦ (λ i. record { prio = later; body = body; set = is i } ∷ [])
      | false ↦ refl
    ]

pub mixed_effect : (mixer : Mixer) (task : Task) (bundle put : Part ℕ) (children : List Child) (value product : ℕ) (text values : List ℕ) → task.body.at < mixer.groups
    → AreValuesOf (mixing mixer) (set_at (group_sets mixer.groups) task.body.at) values → bundle ≡ bundle_with (set_at (group_sets mixer.groups) task.body.at) values
    → cell_in bundle task.body.at ≡ Home value → product ≡ multiplied value mixer.times → put ≡ with_value bundle task.body.at product
    → children ≡ next_children mixer task.key.prio task.body → text ≡ []
    → record { bundle = put; children = children; text = text }
    ≡ effect_with (group_sets mixer.groups) (set_at (group_sets mixer.groups) task.body.at) ((mixing mixer).deed (start_of_task task) values)
mixed_effect mixer task bundle put children value product text values below are is found products puts are_children no_text =
    let sets = group_sets mixer.groups in
    let at = task.body.at in
    let own = own_at mixer.groups at below in
    let one = one_value (mixing mixer) sets at values own are in
    let is_one : bundle ≡ bundle_with (set_at sets at) (one.0 ∷ []) = is ∙ ap (bundle_with (set_at sets at)) one.1 in
    let value_is = found_is sets at own bundle one.0 value is_one found in
    let product_is : product ≡ multiplied one.0 mixer.times = products ∙ ap (λ (v : ℕ). multiplied v mixer.times) value_is in
    let put_there : put ≡ bundle_with (set_at sets at) (multiplied one.0 mixer.times ∷ []) =
    put_is sets at own bundle put one.0 product is_one puts ∙ ap (λ (new : ℕ). bundle_with (set_at sets at) (new ∷ [])) product_is in
    let all_handed = are_children ∙ sym (handed_next mixer task.key.prio task.body own) in
    let effect : record { bundle = put; children = children; text = text } ≡ effect_with sets (set_at sets at) ((mixing mixer).deed (start_of_task task) (one.0 ∷ [])) =
    λ i. record { bundle = put_there i; children = all_handed i; text = no_text i } in
    effect ∙ ap (λ (vs : List ℕ). effect_with sets (set_at sets at) ((mixing mixer).deed (start_of_task task) vs)) (sym one.1)
