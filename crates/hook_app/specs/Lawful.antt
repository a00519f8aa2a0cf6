-- The laws of hooked applications, from the condition that the parts belong together.
use Rattle.std.specs.Prelude.{◌≡◌, ◌+◌, ◌<◌, ◌≤◌, ℕ, suc, true, List, [], ◌∷◌, ◌++◌, length, nat_lt, refl}
use Rattle.std.specs.List.{AllByRecursion, list_all}
use Rattle.std.specs.Ordering.{nat_cmp}
use Rattle.std.specs.declared.cmp.Ordering.TheVariants.{Greater}
use Rattle.std.proofs.Common.{arith, sym, subst, ◌∙◌, Bool}
use Rattle.std.proofs.lemmas.Bool.{and_parts, and_from}
use Rattle.std.proofs.lemmas.Bool.Decides.{nat_tests}
use Rattle.std.proofs.lemmas.List.Folds.{list_all-append, list_all-map}
use Rattle.plain_laws.specs.Lists.{All-get_or, All-middle, All-weaker}
use Rattle.task_order.specs.declared.key.Key.{Key}
use Rattle.task_order.specs.declared.start.Start.{Start}
use Rattle.task_order.specs.declared.task.Task.{Task}
use Rattle.rw_sets.specs.Accesses.{Accesses, IsAscending, IsInRange as IsBelow}
use Rattle.rw_sets.specs.LookupLaws.{merges_hold_both}
use Rattle.app_laws.specs.Applications.{AgreeOn, IsInRange, IsSameOutcome, tasks_before, CellsAreCounted, SetsAreInRange, ActsAreFit, SetsAreLocal, ActsAreLocal, ActsIgnorePaths, ChildrenComeNoEarlier, SetsStayWithin, WalksAreTrue, FixedSetsAreKnown, IsSafeAlone, SafeTasksStaySafe, SafetyIgnoresPaths, IsLawful, PathsAreIgnored}
use Rattle.app_laws.specs.Execution.{Outcome, children_from}
use Rattle.app_laws.specs.Names.{renamed, start_of_task}
use Rattle.hook_app.specs.Deeds.{Deeds}
use Rattle.hook_app.specs.Hooked.{AreFitCells, AreValuesOf, IsFitDeed, FitTogether, acted, hooked, is_ahead, set_at}
use Rattle.hook_app.specs.Values.{put_values, values_at}
use Rattle.hook_app.specs.ValueLaws.{length-put_values, length-values_at, put_values-alike, put_values-elsewhere, put_values-fit, values_at-alike, values_at-fit}

-- children that come late enough are after a key
none_before : (key parent : Key) (ahead number : ℕ) (starts : List Start) → key.prio < parent.prio + ahead
    → AllByRecursion (λ (child : Start). parent.prio + ahead ≤ child.prio) starts → tasks_before key (children_from parent number starts) ≡ []
none_before key parent ahead number [] far late = refl
none_before key parent ahead number (child ∷ starts) far late =
    let after : nat_cmp child.prio key.prio ≡ Greater = grind (arith, nat_tests, late.0) in
    rw after (none_before key parent ahead (suc number) starts far late.1)

module _ {V : Type 0} (deeds : Deeds V) (cells : ℕ) (sets : List Accesses) (ahead : ℕ) where
  -- a set of a fit task names locations that there are, in order
  pub set_in_range : (task : Task) → FitTogether deeds cells sets ahead → deeds.is_fit_task task.key.prio task.body → IsInRange (hooked deeds cells sets ahead) (set_at sets task.body.at)
  set_in_range task together is-task =
      let at = together.at_sets task.key.prio task.body is-task in record {
        ascending = All-get_or IsAscending sets task.body.at [] at together.ascending;
        below = All-get_or (λ set. IsBelow set cells) sets task.body.at [] at together.below;
      }

  -- its values are what its deed works on
  pub values_taken : (task : Task) (values : List V) → AreFitCells deeds cells sets ahead values → deeds.is_fit_task task.key.prio task.body →
      AreValuesOf deeds (set_at sets task.body.at) (values_at (set_at sets task.body.at) values)
  values_taken task values fit is-task =
      let range = set_in_range task fit.together is-task in
      let below : IsBelow (set_at sets task.body.at) (length values) = subst (IsBelow (set_at sets task.body.at)) (sym fit.count) range.below in record {
        one_each = length-values_at (set_at sets task.body.at) values below;
        fit = values_at-fit deeds.is_fit_value (set_at sets task.body.at) values below fit.fit;
      }

  pub deed_done : (task : Task) (values : List V) → AreFitCells deeds cells sets ahead values → deeds.is_fit_task task.key.prio task.body →
      IsFitDeed deeds sets ahead (start_of_task task) (values_at (set_at sets task.body.at) values) (deeds.deed (start_of_task task) (values_at (set_at sets task.body.at) values))
  deed_done task values fit is-task = fit.together.deeds_fit (start_of_task task) _ is-task (values_taken task values fit is-task)

  cells_are_counted : CellsAreCounted (hooked deeds cells sets ahead)
  cells_are_counted values fit = fit.count

  sets_are_in_range : SetsAreInRange (hooked deeds cells sets ahead)
  sets_are_in_range task values fit is-task = set_in_range task fit.together is-task

  acts_are_fit : ActsAreFit (hooked deeds cells sets ahead)
  acts_are_fit task values fit is-task =
      let set = set_at sets task.body.at in
      let done = deed_done task values fit is-task in
      let new = (deeds.deed (start_of_task task) (values_at set values)).cells in record {
        cells = record {
          together = fit.together;
          count = length-put_values set new values ∙ fit.count;
          fit = put_values-fit deeds.is_fit_value set new values done.new_values.fit fit.fit;
        };
        children = done.children;
        few = done.few;
        lines = done.lines;
      }

  sets_are_local : SetsAreLocal (hooked deeds cells sets ahead)
  sets_are_local task values others fit fit-others is-task agree = refl

  acted-alike : (set : Accesses) (start : Start) (values others : List V) → AgreeOn set values others →
      IsSameOutcome (hooked deeds cells sets ahead) set (acted deeds set start values) (acted deeds set start others)
  acted-alike set start values others agree =
      let made : List V → Outcome V = λ taken. let outcome = deeds.deed start taken in record { cells = put_values set outcome.cells others; children = outcome.children; text = outcome.text } in
      subst (λ (taken : List V). IsSameOutcome (hooked deeds cells sets ahead) set (acted deeds set start values) (made taken)) (values_at-alike set values others agree) (record {
        cells = λ loc named. put_values-alike set (deeds.deed start (values_at set values)).cells values others loc (agree loc named);
        children = refl;
        text = refl;
      })

  acts_are_local : ActsAreLocal (hooked deeds cells sets ahead)
  acts_are_local = record {
    unchanged = λ task values fit is-task loc unwritten.
        put_values-elsewhere (set_at sets task.body.at) _ values loc (set_in_range task fit.together is-task).ascending unwritten;
    determined = λ task values others fit fit-others is-task agree. acted-alike (set_at sets task.body.at) (start_of_task task) values others agree;
  }

  children_come_no_earlier : ChildrenComeNoEarlier (hooked deeds cells sets ahead)
  children_come_no_earlier task values fit is-task =
      All-weaker (λ (child : Start). task.key.prio + ahead ≤ child.prio) (λ (child : Start). task.key.prio ≤ child.prio) (λ child late. omega (arith, late)) _ (deed_done task values fit is-task).late

  sets_stay_within : SetsStayWithin (hooked deeds cells sets ahead)
  sets_stay_within task other values fit is-task is-other apart =
      (merges_hold_both (set_at sets other.body.at) (set_at sets task.body.at)
      (set_in_range other fit.together is-other).ascending (set_in_range task fit.together is-task).ascending).0

  walks_are_true : WalksAreTrue (hooked deeds cells sets ahead)
  walks_are_true task all values fit is-task agrees = refl

  pub fixed_sets_are_known : FixedSetsAreKnown (hooked deeds cells sets ahead)
  fixed_sets_are_known task all values fit is-task = refl

  safe_alone : IsSafeAlone (hooked deeds cells sets ahead)
  safe_alone task is-task = refl

  safe_tasks_stay_safe : SafeTasksStaySafe (hooked deeds cells sets ahead)
  safe_tasks_stay_safe task acting before after values fit is-task are-others ascending earlier safe apart =
      rw (none_before task.key acting.key ahead 0 _ far done.late) (record { apart = tt; safe = others-safe })
    where
      comes_late : Task → Bool
      comes_late other = nat_lt task.key.prio (other.key.prio + ahead)

      done : IsFitDeed deeds sets ahead (start_of_task acting) (values_at (set_at sets acting.body.at) values) (deeds.deed (start_of_task acting) (values_at (set_at sets acting.body.at) values))
      done = deed_done acting values fit (All-middle (λ (other : Task). deeds.is_fit_task other.key.prio other.body) before acting after are-others)

      parts : (list_all comes_late before ≡ true) × (list_all comes_late (acting ∷ after) ≡ true)
      parts = and_parts (list_all comes_late before) (list_all comes_late (acting ∷ after)) (sym (list_all-append comes_late before (acting ∷ after)) ∙ safe)

      acting-parts : (comes_late acting ≡ true) × (list_all comes_late after ≡ true)
      acting-parts = and_parts (comes_late acting) (list_all comes_late after) parts.1

      far : task.key.prio < acting.key.prio + ahead
      far = grind (arith, nat_tests, acting-parts.0)

      others-safe : is_ahead ahead task (before ++ after) ≡ true
      others-safe = list_all-append comes_late before after ∙ and_from (list_all comes_late before) (list_all comes_late after) parts.0 acting-parts.1

  acts_ignore_paths : ActsIgnorePaths (hooked deeds cells sets ahead)
  acts_ignore_paths task path values fit is-task = refl

  safety_ignores_paths : SafetyIgnoresPaths (hooked deeds cells sets ahead)
  safety_ignores_paths task earlier name has_name naming have_names is-task are-earlier =
      list_all-map (λ other. nat_lt task.key.prio (other.key.prio + ahead)) (renamed name) earlier

  pub paths_are_ignored : PathsAreIgnored (hooked deeds cells sets ahead)
  paths_are_ignored = record { acts = acts_ignore_paths; safety = safety_ignores_paths }

  pub are_lawful : IsLawful (hooked deeds cells sets ahead)
  are_lawful = record {
    cells_are_counted = cells_are_counted;
    sets_are_in_range = sets_are_in_range;
    acts_are_fit = acts_are_fit;
    sets_are_local = sets_are_local;
    acts_are_local = acts_are_local;
    children_come_no_earlier = children_come_no_earlier;
    sets_stay_within = sets_stay_within;
    walks_are_true = walks_are_true;
    safe_alone = safe_alone;
    safe_tasks_stay_safe = safe_tasks_stay_safe;
  }
