-- What a horizon tells stays so where a task comes, goes or gets another path, and its signal is stale.
use Rattle.std.proofs.Common.{◌≡◌, ◌≢◌, ◌∙◌, ℕ, ◌-◌, ◌<◌, ◌≤◌, Bool, true, false, List, [], ◌∷◌, ◌++◌, length, map, set, get_or, replicate, Result, Ok, Err, ap, sym, refl, subst, inl, inr, arith, length-set}
use Rattle.std.specs.Prelude.{◌==◌, ◌&&◌, ◌||◌, nat_lt, IfOk}
use Rattle.std.specs.List.{list_any}
use Rattle.std.specs.Ordering.{is_lt}
use Rattle.std.proofs.lemmas.Bool.{cases_eq, false≢true, ne_eqb}
use Rattle.std.proofs.lemmas.List.{get_or-set_other, get_or-set_same, length-replicate}
use Rattle.kdg_text.specs.declared.NoRoom.{NoRoom}
use Rattle.task_order.specs.declared.task.Body.{Body}
use Rattle.task_order.specs.declared.task.Task.{Task}
use Rattle.task_order.specs.Key.{key_cmp}
use Rattle.task_order.specs.TaskList.{put_in}
use Rattle.app_laws.specs.Applications.{IgnoresNames}
use Rattle.app_laws.specs.Names.{renamed}
use Rattle.logic_sim.specs.declared.horizon.Horizon.{Horizon}
use Rattle.logic_sim.specs.Distance.{moment_of}
use Rattle.logic_sim.specs.Event.{Simulation, delay_of}
use Rattle.logic_sim.specs.Horizon.{IsKept, IsSettled, Tells, comes_at, never}
use Rattle.logic_sim.specs.Laws.{either}
use Rattle.logic_sim.proofs.Refreshing.{nothing_known}

any_put_in : (p : Task → Bool) (task : Task) (tasks : List Task) → p task ≡ false → list_any p (put_in task tasks) ≡ list_any p tasks
any_put_in p task [] fails = rw fails refl
any_put_in p task (other ∷ tasks) fails =
    either (λ (all : List Task). list_any p all ≡ list_any p (other ∷ tasks)) (is_lt (key_cmp other.key task.key)) (other ∷ put_in task tasks) (task ∷ other ∷ tasks)
    (ap (λ (b : Bool). p other || b) (any_put_in p task tasks fails)) (ap (λ (b : Bool). b || list_any p (other ∷ tasks)) fails)

any_without : (p : Task → Bool) (before : List Task) (task : Task) (after : List Task) → p task ≡ false → list_any p (before ++ task ∷ after) ≡ list_any p (before ++ after)
any_without p [] task after fails = ap (λ (b : Bool). b || list_any p after) fails
any_without p (first ∷ before) task after fails = ap (λ (b : Bool). p first || b) (any_without p before task after fails)

-- a task that is not at the signal
elsewhere : (c : Simulation) (task : Task) (signal limit : ℕ) → signal ≢ task.body.at → (task.body.at == signal && nat_lt (moment_of c task.key.prio task.body) limit) ≡ false
elsewhere c task signal limit differs = ap (λ (b : Bool). b && nat_lt (moment_of c task.key.prio task.body) limit) (ne_eqb task.body.at signal (λ e. differs (sym e)))

settled_still : (c : Simulation) (near entries : List ℕ) (tasks new : List Task) (signal : ℕ) → ((limit : ℕ) → comes_at c new signal limit ≡ comes_at c tasks signal limit) → IsSettled c near entries tasks signal → IsSettled c near entries new signal
settled_still c near entries tasks new signal same settled = record {
  by_drivers = settled.by_drivers;
  by_all = λ limit early. settled.by_all limit early ∙ ap (λ (b : Bool). b || nat_lt (get_or entries signal 0) (limit - delay_of c signal)) (sym (same limit));
}

touched : (c : Simulation) (near entries : List ℕ) (stale : List Bool) (tasks new : List Task) (at : ℕ) → ((signal : ℕ) → signal ≢ at → (limit : ℕ) → comes_at c new signal limit ≡ comes_at c tasks signal limit)
    → IsKept c near entries stale tasks → IsKept c near entries (set stale at true) new
touched c near entries stale tasks new at same kept = record {
  near_count = kept.near_count;
  entry_count = kept.entry_count;
  stale_count = length-set stale at true ∙ kept.stale_count;
  settled = λ signal below fresh. elim (cases_eq signal at) [
    | inl here ↦
        let waits : get_or (set stale at true) signal false ≡ true = ap (λ (s : ℕ). get_or (set stale at true) s false) here ∙ get_or-set_same stale at true false (omega (arith, below, here, kept.stale_count)) in
        absurd (false≢true (sym fresh ∙ waits))
    | inr differs ↦
        settled_still c near entries tasks new signal (same signal differs) (kept.settled signal below (sym (get_or-set_other stale at signal true false differs) ∙ fresh))
  ];
}

-- a task came
pub told_of_new : (c : Simulation) (near entries : List ℕ) (stale : List Bool) (body : Body) (task : Task) (tasks : List Task) → task.body ≡ body → IsKept c near entries stale tasks → IsKept c near entries (set stale body.at true) (put_in task tasks)
told_of_new c near entries stale body task tasks is kept =
    subst (λ (b : Body). IsKept c near entries (set stale b.at true) (put_in task tasks)) is
    (touched c near entries stale tasks (put_in task tasks) task.body.at
    (λ signal differs limit. any_put_in (λ other. other.body.at == signal && nat_lt (moment_of c other.key.prio other.body) limit) task tasks (elsewhere c task signal limit differs)) kept)

-- a task went
pub told_of_others : (c : Simulation) (near entries : List ℕ) (stale : List Bool) (body : Body) (task : Task) (before after : List Task) → task.body ≡ body → IsKept c near entries stale (before ++ task ∷ after)
    → IsKept c near entries (set stale body.at true) (before ++ after)
told_of_others c near entries stale body task before after is kept =
    subst (λ (b : Body). IsKept c near entries (set stale b.at true) (before ++ after)) is
    (touched c near entries stale (before ++ task ∷ after) (before ++ after) task.body.at
    (λ signal differs limit. sym (any_without (λ other. other.body.at == signal && nat_lt (moment_of c other.key.prio other.body) limit) before task after (elsewhere c task signal limit differs))) kept)

-- tasks got other paths
renamed_come : (c : Simulation) (name : List ℕ → List ℕ) (tasks : List Task) (signal limit : ℕ) → comes_at c (map (renamed name) tasks) signal limit ≡ comes_at c tasks signal limit
renamed_come c name [] signal limit = refl
renamed_come c name (task ∷ tasks) signal limit = ap (λ (b : Bool). task.body.at == signal && nat_lt (moment_of c task.key.prio task.body) limit || b) (renamed_come c name tasks signal limit)

pub told_under_names : (c : Simulation) (horizon : Horizon) → IgnoresNames (Tells c horizon)
told_under_names c horizon tasks name has_name naming have kept = record {
  near_count = kept.near_count;
  entry_count = kept.entry_count;
  stale_count = kept.stale_count;
  settled = λ signal below fresh. settled_still c horizon.near.items horizon.entries.items tasks (map (renamed name) tasks) signal (renamed_come c name tasks signal) (kept.settled signal below fresh);
}

-- a new horizon
pub new_tells : (c : Simulation) (count : ℕ) (result : Result Horizon NoRoom) → count ≡ length c.deck.signals → IfOk result (λ horizon. horizon.near.items ≡ replicate count never) → IfOk result (λ horizon. length horizon.entries.items ≡ count)
    → IfOk result (λ horizon. horizon.stale ≡ replicate count true) → IfOk result (λ horizon. (tasks : List Task) → Tells c horizon tasks)
new_tells c count (Ok horizon) is near entries stale = λ tasks.
    subst (λ (waits : List Bool). IsKept c horizon.near.items horizon.entries.items waits tasks) (sym (stale ∙ ap (λ (n : ℕ). replicate n true) is))
    (nothing_known c horizon.near.items horizon.entries.items tasks (ap length near ∙ length-replicate count never ∙ is) (entries ∙ is))
new_tells c count (Err error) is near entries stale = tt
