-- What a passing task leaves.
use Rattle.std.proofs.Common.{◌≡◌, ◌<◌, ◌-◌, ℕ, true, false, cond, List, [], ◌∷◌, length, map, arith, refl, sym, ◌∙◌}
use Rattle.std.specs.Prelude.{◌==◌, slice_set}
use Rattle.task_order.specs.declared.task.Body.{Body}
use Rattle.task_order.specs.declared.task.Task.{Task}
use Rattle.cell_store.specs.Part.{Part}
use Rattle.cell_store.specs.Cells.{part_of, with_value}
use Rattle.cell_store.specs.Values.{homes}
use Rattle.cell_store.specs.Laws.{HomesByLocation}
use Rattle.app_laws.specs.declared.child.Child.{Child}
use Rattle.app_laws.specs.Applications.{handed, effect_of}
use Rattle.small_apps.specs.declared.trails.Trail.{Trail}
use Rattle.small_apps.specs.Lawful.{place_of-ascending}
use Rattle.small_apps.specs.Trails.{place_of, follower, follower_of, followers, followers_of, trails}

-- whatever the cells, the followers are handed over with the set of their place
handed_followers : (cells : List Trail) (prio : ℕ) (body : Body) → map (handed trails cells) (followers prio body) ≡ followers_of prio body
handed_followers cells prio body =
    let more = follower prio body 0 ∷ follower prio body (body.arg - 1) ∷ [] in
    let more_of = follower_of prio body 0 ∷ follower_of prio body (body.arg - 1) ∷ [] in
    elim (body.arg == 0) as (λ last. map (handed trails cells) (cond last [] more) ≡ cond last [] more_of) [
      | true ↦ refl
      | false ↦ refl
    ]

-- the bundle with the task's path in it, and its followers, are what the operator makes
pub passed : (task : Task) (cells : List Trail) {bundle put : Part Trail} {path text : List ℕ} {children : List Child} → HomesByLocation Trail → length cells ≡ 2 → task.body.at < 2
    → bundle ≡ part_of (homes cells) (place_of task.body) → put ≡ with_value bundle task.body.at (record { path = path }) → path ≡ task.key.path
    → children ≡ followers_of task.key.prio task.body → text ≡ []
    → record { bundle = put; children = children; text = text } ≡ effect_of trails task cells
passed task cells {bundle} {put} {path} {text} {children} values fit below is puts path_is children_are no_text =
    let set = place_of task.body in
    let now = slice_set cells task.body.at (record { path = task.key.path }) in
    let bundle_is : put ≡ part_of (homes now) set =
    puts
    ∙ (λ i. with_value (is i) task.body.at (record { path = path_is i }))
    ∙ values.written cells set task.body.at (record { path = task.key.path }) (place_of-ascending task.body) (omega (arith, fit)) in
    let all_handed : children ≡ map (handed trails now) (followers task.key.prio task.body) =
    children_are ∙ sym (handed_followers now task.key.prio task.body) in
    λ i. record { bundle = bundle_is i; children = all_handed i; text = no_text i }
