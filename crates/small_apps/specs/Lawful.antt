-- The laws of places where tasks leave their paths.
use Rattle.std.specs.Prelude.{◌≡◌, ◌≢◌, ◌==◌, ℕ, zero, suc, ◌<◌, ◌≤◌, ◌^◌, List, [], ◌∷◌, length, slice_get, slice_set, IsSome, IsFalse, refl}
use Rattle.std.specs.List.{AllByRecursion}
use Rattle.std.proofs.Common.{arith, lit<, ◌∙◌, subst}
use Rattle.std.proofs.lemmas.Bool.{cond_both}
use Rattle.std.proofs.lemmas.Bool.Decides.{nat_tests}
use Rattle.std.proofs.lemmas.List.{length-set}
use Rattle.plain_laws.specs.Lists.{All-filter, get-set_other}
use Rattle.task_order.specs.declared.start.Start.{Start}
use Rattle.task_order.specs.declared.task.Body.{Body}
use Rattle.task_order.specs.declared.task.Task.{Task}
use Rattle.rw_sets.specs.Accesses.{IsAscending, Conflicts, access_at, writes}
use Rattle.rw_sets.specs.AccessLaws.{ascending_cons, ascending_none}
use Rattle.rw_sets.specs.LookupLaws.{merges_hold_both}
use Rattle.app_laws.specs.Applications.{set_in, CellsAreCounted, SetsAreInRange, ActsAreFit, SetsAreLocal, ActsAreLocal, ChildrenComeNoEarlier, SetsStayWithin, WalksAreTrue, IsSafeAlone, SafeTasksStaySafe, IsLawful}
use Rattle.app_laws.specs.Execution.{children_from}
use Rattle.small_apps.specs.declared.trails.Trail.{Trail}
use Rattle.small_apps.specs.Trails.{place_of, follower, followers, trails}

get-set_alike : (cells others : List Trail) (place loc : ℕ) (trail : Trail) → slice_get cells loc ≡ slice_get others loc
    → slice_get (slice_set cells place trail) loc ≡ slice_get (slice_set others place trail) loc
get-set_alike [] [] place loc trail same = refl
get-set_alike [] (other ∷ others) place zero trail same = cc
get-set_alike [] (other ∷ others) zero (suc loc) trail same = same
get-set_alike [] (other ∷ others) (suc place) (suc loc) trail same = get-set_alike [] others place loc trail same
get-set_alike (cell ∷ cells) [] place zero trail same = cc
get-set_alike (cell ∷ cells) [] zero (suc loc) trail same = same
get-set_alike (cell ∷ cells) [] (suc place) (suc loc) trail same = get-set_alike cells [] place loc trail same
get-set_alike (cell ∷ cells) (other ∷ others) zero zero trail same = refl
get-set_alike (cell ∷ cells) (other ∷ others) zero (suc loc) trail same = same
get-set_alike (cell ∷ cells) (other ∷ others) (suc place) zero trail same = same
get-set_alike (cell ∷ cells) (other ∷ others) (suc place) (suc loc) trail same = get-set_alike cells others place loc trail same

pub place_of-ascending : (body : Body) → IsAscending (place_of body)
place_of-ascending body = ascending_cons _ [] tt ascending_none

place_named : (body : Body) (loc : ℕ) → IsSome (access_at (place_of body) loc) → body.at ≡ loc
place_named body loc named = grind (arith, nat_tests)

place_unwritten : (body : Body) (loc : ℕ) → IsFalse (writes (place_of body) loc) → loc ≢ body.at
place_unwritten body loc unwritten is = grind (arith, nat_tests)

cells_are_counted : CellsAreCounted trails
cells_are_counted cells fit = fit

sets_are_in_range : SetsAreInRange trails
sets_are_in_range task cells fit below = record {
  ascending = place_of-ascending task.body;
  below = λ loc named. subst (λ l. l < 2) (place_named task.body loc named) below;
}

-- where each follower has it
each_follower : (P : Start → Type 0) (prio : ℕ) (body : Body) → ((arg : ℕ) → P (follower prio body arg)) → AllByRecursion P (followers prio body)
each_follower P prio body each = cond_both (body.arg == 0) [] _ (AllByRecursion P) (λ last. tt) (λ more. (each _, (each _, tt)))

acts_are_fit : ActsAreFit trails
acts_are_fit task cells fit below = record {
  cells = length-set cells task.body.at (record { path = task.key.path }) ∙ fit;
  children = each_follower (λ start. start.body.at < 2) task.key.prio task.body (λ arg. below);
  few = cond_both (task.body.arg == 0) [] _ (λ (children : List Start). length children < 2 ^ 32) (λ last. lit< tt) (λ more. lit< tt);
  lines = tt;
}

sets_are_local : SetsAreLocal trails
sets_are_local task cells others fit fit-others below agree = refl

acts_are_local : ActsAreLocal trails
acts_are_local = record {
  unchanged = λ task cells fit below loc unwritten. get-set_other cells task.body.at loc (record { path = task.key.path }) (place_unwritten task.body loc unwritten);
  determined = λ task cells others fit fit-others below agree. record {
    cells = λ loc named. get-set_alike cells others task.body.at loc (record { path = task.key.path }) (agree loc named);
    children = refl;
    text = refl;
  };
}

children_come_no_earlier : ChildrenComeNoEarlier trails
children_come_no_earlier task cells fit below = each_follower (λ child. task.key.prio ≤ child.prio) task.key.prio task.body (λ arg. omega arith)

sets_stay_within : SetsStayWithin trails
sets_stay_within task other cells fit below other-below differs =
    (merges_hold_both (place_of other.body) (place_of task.body) (place_of-ascending other.body) (place_of-ascending task.body)).0

walks_are_true : WalksAreTrue trails
walks_are_true task cells values fit below agrees = refl

safe_alone : IsSafeAlone trails
safe_alone task below = refl

-- followers pass at the same place
followers_apart : (acted task : Task) (cells : List Trail) → ¬ Conflicts (place_of acted.body) (place_of task.body)
    → AllByRecursion (λ child. ¬ Conflicts (set_in trails cells child) (set_in trails cells task)) (children_from acted.key 0 (followers acted.key.prio acted.body))
followers_apart acted task cells apart =
    cond_both (acted.body.arg == 0) [] _
    (λ (starts : List Start). AllByRecursion (λ child. ¬ Conflicts (set_in trails cells child) (set_in trails cells task)) (children_from acted.key 0 starts))
    (λ last. tt) (λ more. (apart, (apart, tt)))

safe_tasks_stay_safe : SafeTasksStaySafe trails
safe_tasks_stay_safe task acted before after cells fit below fit-others ascending earlier safe apart = record {
  apart = All-filter _ _ _ (followers_apart acted task (trails.act acted cells).cells apart);
  safe = refl;
}

pub are_lawful : IsLawful trails
are_lawful = record {
  cells_are_counted = cells_are_counted;
  sets_are_in_range = sets_are_in_range;
  acts_are_fit = acts_are_fit;
  sets_are_local = sets_are_local;
  acts_are_local = acts_are_local;
  children_come_no_earlier = children_come_no_earlier;
  sets_stay_within = sets_stay_within;
  walks_are_true = walks_are_true;
  safe_alone = safe_alone;
  safe_tasks_stay_safe = safe_tasks_stay_safe;
}
