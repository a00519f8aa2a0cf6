-- What the first visits to vertices leave in the first round of a level.
use Rattle.std.specs.Prelude.{◌≡◌, ◌≢◌, ℕ, suc, ◌==◌, true, false, not, List, [], ◌∷◌, ◌++◌, length}
use Rattle.std.specs.List.{AllByRecursion}
use Rattle.std.specs.declared.cmp.Ordering.TheVariants.{Less}
use Rattle.std.specs.Ordering.{is_eq}
use Rattle.std.proofs.Common.{arith, ap, sym, subst, ◌∙◌, inl, inr, append_assoc, append-nil}
use Rattle.std.proofs.lemmas.Bool.{cases_Bool, cond-false, cond-true, false≢true, or_cases}
use Rattle.std.proofs.lemmas.Bool.Decides.{nat_tests}
use Rattle.std.proofs.lemmas.List.Elements.{filter-append}
use Rattle.plain_laws.specs.Lists.{All-append, All-joined, All-weaker}
use Rattle.task_order.specs.declared.key.Key.{Key}
use Rattle.task_order.specs.declared.start.Start.{Start}
use Rattle.task_order.specs.declared.task.Task.{Task}
use Rattle.task_order.specs.Key.{child_key, key_cmp}
use Rattle.task_order.specs.TaskList.{IsAscending, IsNewKey, has_key, put_all, without}
use Rattle.app_laws.specs.Execution.{children_from}
use Rattle.commuting.specs.States.{after_tasks, state_of}
use Rattle.mtx_reader.specs.declared.pattern.Pattern.{Pattern}
use Rattle.mtx_reader.specs.Patterns.{IsPattern}
use Rattle.level_walk.specs.declared.level.Level.{Level}
use Rattle.level_walk.specs.Walks.{vertex_count}
use Rattle.level_search.specs.Basis.{Basis}
use Rattle.level_search.proofs.Acting.{AreVisitsAt, IsBeforeChildren, IsVisitAt, act, before_children, cells_after, children_after, children_last, lower_before}
use Rattle.level_search.proofs.Firsts.{ascending_without, earlier_front, firsts, is_seen, later_behind, others}
use Rattle.level_search.proofs.OneVisit.{all_children, cells_stay, children_are, prios_are}
use Rattle.level_search.proofs.Places.{IsSet, idle, keeps_set, sets}

-- visits at a level, of which some were skipped, with tasks at the next level behind them
pub record IsUnderWay (pattern : Pattern) (level : ℕ) (skipped tasks later : List Task) : Type 0 where
  pub skipped_at : AllByRecursion (λ task. task.key.prio ≡ level) skipped
  pub visits : AllByRecursion (IsVisitAt pattern level) tasks
  pub late : AllByRecursion (λ task. task.key.prio ≡ suc level) later
  pub ascending : IsAscending (skipped ++ tasks)

-- ---- a task leaves the others

module _ (basis : Basis) where
  -- a task leaves its place in a list of other keys
  without_task : (front : List Task) (task : Task) (rest : List Task) → IsNewKey task.key front → IsNewKey task.key rest → without task.key (front ++ task ∷ rest) ≡ front ++ rest
  without_task front task rest new-front new-rest =
      let Stays = λ (other : Task). not (has_key task.key other) in
      let leaves : Stays task ≡ false = ap (λ o. not (is_eq o)) (basis.equal task.key) in
      filter-append Stays front (task ∷ rest)
      ∙ (λ i. basis.new_key task.key front new-front i ++ (cond-false (Stays task) (task ∷ without task.key rest) (without task.key rest) leaves ∙ basis.new_key task.key rest new-rest) i)

  module _ (pattern : Pattern) (level : ℕ) (skipped : List Task) (task : Task) (tasks later : List Task) (under_way : IsUnderWay pattern level skipped (task ∷ tasks) later) where
    -- the first of the visits that are left leaves its place
    pub taken_out : without task.key (skipped ++ (task ∷ tasks ++ later)) ≡ skipped ++ (tasks ++ later)
    taken_out =
        let new-front : IsNewKey task.key skipped =
        All-weaker (λ (other : Task). key_cmp other.key task.key ≡ Less) (λ other. other.key ≢ task.key) (λ other less. basis.irreflexive other.key task.key less) skipped (earlier_front skipped task tasks under_way.ascending) in
        let new-tasks : IsNewKey task.key tasks =
        All-weaker (λ (other : Task). key_cmp task.key other.key ≡ Less) (λ other. other.key ≢ task.key) (λ other less same. basis.irreflexive task.key other.key less (sym same)) tasks (later_behind skipped task tasks under_way.ascending) in
        let new-later : IsNewKey task.key later =
        All-weaker (λ (other : Task). other.key.prio ≡ suc level) (λ other. other.key ≢ task.key) (λ other at same. let e = ap (λ (key : Key). key.prio) same in absurd (omega (arith, at, e, under_way.visits.0.at_level))) later under_way.late in
        without_task skipped task (tasks ++ later) new-front (All-append (λ (other : Task). other.key ≢ task.key) tasks later new-tasks new-later)

    -- where the first of them is skipped
    pub skips : IsUnderWay pattern level (skipped ++ task ∷ []) tasks later
    skips = record {
      skipped_at = All-append (λ (other : Task). other.key.prio ≡ level) skipped (task ∷ []) under_way.skipped_at (under_way.visits.0.at_level, tt);
      visits = under_way.visits.1;
      late = under_way.late;
      ascending = subst IsAscending (sym (append_assoc skipped (task ∷ []) tasks)) under_way.ascending;
    }

    -- where it leaves
    pub leaves : IsUnderWay pattern level skipped tasks later
    leaves = record {
      skipped_at = under_way.skipped_at;
      visits = under_way.visits.1;
      late = under_way.late;
      ascending = ascending_without skipped task tasks under_way.ascending;
    }

    -- and where others come behind then
    pub leaves_for : (children : List Task) → AllByRecursion (λ child. child.key.prio ≡ suc level) children → IsUnderWay pattern level skipped tasks (later ++ children)
    leaves_for children next = record {
      skipped_at = leaves.skipped_at;
      visits = leaves.visits;
      late = All-append (λ (other : Task). other.key.prio ≡ suc level) later children under_way.late next;
      ascending = leaves.ascending;
    }

-- ---- children

-- at one level they come before the children of later tasks
children_before : (level : ℕ) (parent other : Key) → parent.prio ≡ other.prio → length parent.path ≡ length other.path → key_cmp parent other ≡ Less
    → (number : ℕ) (starts : List Start) → AllByRecursion (λ start. start.prio ≡ suc level) starts → AllByRecursion (IsBeforeChildren other (suc level)) (children_from parent number starts)
children_before level parent other same long less number [] all = tt
children_before level parent other same long less number (start ∷ starts) all = (
  (λ place. subst (λ (prio : ℕ). key_cmp (child_key parent number prio) (child_key other place (suc level)) ≡ Less) (sym all.0) (before_children parent other same long less number place (suc level))),
  children_before level parent other same long less (suc number) starts all.1,
)

-- ---- the first round

-- each vertex that was seen has a level
abbrev pub SeenAreSet : List ℕ → List Level → Type 0
SeenAreSet seen cells = (place : ℕ) → is_seen (suc place) seen ≡ true → IsSet cells place

same_place : (a b : ℕ) → (suc a == suc b) ≡ true → a ≡ b
same_place a b is = grind (arith, nat_tests)

-- one vertex more is seen, and has a level
seen_more : (seen : List ℕ) (at : ℕ) (before after : List Level) → SeenAreSet seen before → ((place : ℕ) → IsSet before place → IsSet after place) → IsSet after at → SeenAreSet (suc at ∷ seen) after
seen_more seen at before after set keep here place was = elim (or_cases (suc at == suc place) (is_seen (suc place) seen) was) [
  | inl same ↦ subst (IsSet after) (same_place at place same) here
  | inr there ↦ keep place (set place there)
]

module _ (pattern : Pattern) (is-pattern : IsPattern pattern) (basis : Basis) (level : ℕ) where
  -- the first visits act, and leave the others and the children
  pub after_firsts : (seen : List ℕ) (skipped tasks later : List Task) (cells : List Level) → IsUnderWay pattern level skipped tasks later
      → AllByRecursion (λ task. AllByRecursion (IsBeforeChildren task.key (suc level)) later) tasks → length cells ≡ vertex_count pattern → SeenAreSet seen cells
      → after_tasks (act pattern) (firsts seen tasks) (state_of cells (skipped ++ (tasks ++ later)))
      ≡ state_of (cells_after pattern tasks cells) (skipped ++ (others seen tasks ++ (later ++ children_after pattern tasks cells)))
  after_firsts seen skipped [] later cells under_way before count set = ap (λ (ts : List Task). state_of cells (skipped ++ ts)) (sym (append-nil later))
  after_firsts seen skipped (task ∷ tasks) later cells under_way before count set = elim (cases_Bool (is_seen (suc task.body.at) seen)) [
    | inl was ↦
        let seen-next = suc task.body.at ∷ seen in
        let first-left : firsts seen (task ∷ tasks) ≡ firsts seen-next tasks = cond-true (is_seen (suc task.body.at) seen) (firsts seen-next tasks) (task ∷ firsts seen-next tasks) was in
        let others-left : task ∷ others seen-next tasks ≡ others seen (task ∷ tasks) = sym (cond-true (is_seen (suc task.body.at) seen) (task ∷ others seen-next tasks) (others seen-next tasks) was) in
        let here : IsSet cells task.body.at = set task.body.at was in
        let outcome = sym (idle pattern task cells under_way.visits.0.visit here) in
        let rest = after_firsts seen-next (skipped ++ task ∷ []) tasks later cells (skips basis pattern level skipped task tasks later under_way) before.1 count (seen_more seen task.body.at cells cells set (λ place it. it) here) in
        (λ i. after_tasks (act pattern) (first-left i) (state_of cells (sym (append_assoc skipped (task ∷ []) (tasks ++ later)) i)))
        ∙ rest
        ∙ ap (λ (ts : List Task). state_of (cells_after pattern tasks cells) ts) (append_assoc skipped (task ∷ []) (others seen-next tasks ++ (later ++ children_after pattern tasks cells)))
        ∙ (λ i. state_of (cells_after pattern tasks (outcome i).cells)
        (skipped ++ (others-left i ++ (later ++ (children_from task.key 0 (outcome i).children ++ children_after pattern tasks (outcome i).cells)))))
    | inr not ↦
        let seen-next = suc task.body.at ∷ seen in
        let visit = under_way.visits.0 in
        let cells-next = (act pattern task cells).cells in
        let starts = (act pattern task cells).children in
        let children = children_from task.key 0 starts in
        let state = state_of cells (skipped ++ (task ∷ tasks ++ later)) in
        let first-acts : firsts seen (task ∷ tasks) ≡ task ∷ firsts seen-next tasks = cond-false (is_seen (suc task.body.at) seen) (firsts seen-next tasks) (task ∷ firsts seen-next tasks) not in
        let others-left : others seen-next tasks ≡ others seen (task ∷ tasks) = sym (cond-false (is_seen (suc task.body.at) seen) (task ∷ others seen-next tasks) (others seen-next tasks) not) in
        let next : AllByRecursion (λ (start : Start). start.prio ≡ suc level) starts = prios_are pattern level starts (children_are pattern is-pattern level task cells visit count) in
        let next-children : AllByRecursion (λ child. child.key.prio ≡ suc level) children =
        all_children task.key (λ (child : Task). child.key.prio ≡ suc level) (λ (start : Start). start.prio ≡ suc level) (λ number start at. at) 0 starts next in
        let low : AllByRecursion (IsBeforeChildren task.key (suc level)) skipped =
        All-weaker (λ (other : Task). other.key.prio ≡ level) (IsBeforeChildren task.key (suc level)) (λ other at. lower_before task.key (suc level) other (omega (arith, at))) skipped under_way.skipped_at in
        let low-too : AllByRecursion (IsBeforeChildren task.key (suc level)) tasks =
        All-weaker (IsVisitAt pattern level) (IsBeforeChildren task.key (suc level)) (λ other it. lower_before task.key (suc level) other (omega (arith, it.at_level))) tasks under_way.visits.1 in
        let all-before : AllByRecursion (IsBeforeChildren task.key (suc level)) (skipped ++ (tasks ++ later)) =
        All-append (IsBeforeChildren task.key (suc level)) skipped (tasks ++ later) low (All-append (IsBeforeChildren task.key (suc level)) tasks later low-too before.0) in
        let pending : put_all children (without task.key (skipped ++ (task ∷ tasks ++ later))) ≡ skipped ++ (tasks ++ (later ++ children)) =
        ap (put_all children) (taken_out basis pattern level skipped task tasks later under_way)
        ∙ children_last basis task.key 0 starts (suc level) (skipped ++ (tasks ++ later)) next all-before
        ∙ append_assoc skipped (tasks ++ later) children ∙ ap (λ (ts : List Task). skipped ++ ts) (append_assoc tasks later children) in
        let children-before : AllByRecursion (λ other. AllByRecursion (IsBeforeChildren other.key (suc level)) children) tasks =
        All-joined (λ (other : Task). key_cmp task.key other.key ≡ Less) (IsVisitAt pattern level) (λ other. AllByRecursion (IsBeforeChildren other.key (suc level)) children)
        (λ other less it. children_before level task.key other.key (visit.at_level ∙ sym it.at_level) (visit.deep ∙ sym it.deep) less 0 starts next)
        tasks (later_behind skipped task tasks under_way.ascending) under_way.visits.1 in
        let before-next : AllByRecursion (λ other. AllByRecursion (IsBeforeChildren other.key (suc level)) (later ++ children)) tasks =
        All-joined (λ (other : Task). AllByRecursion (IsBeforeChildren other.key (suc level)) later) (λ other. AllByRecursion (IsBeforeChildren other.key (suc level)) children)
        (λ other. AllByRecursion (IsBeforeChildren other.key (suc level)) (later ++ children)) (λ other old new. All-append (IsBeforeChildren other.key (suc level)) later children old new) tasks before.1 children-before in
        let rest = after_firsts seen-next skipped tasks (later ++ children) cells-next (leaves_for basis pattern level skipped task tasks later under_way children next-children) before-next
        (cells_stay pattern is-pattern task cells ∙ count)
        (seen_more seen task.body.at cells cells-next set (keeps_set pattern task cells visit.visit count) (sets pattern task cells visit.visit count)) in
        ap (λ (ts : List Task). after_tasks (act pattern) ts state) first-acts
        ∙ ap (λ (ts : List Task). after_tasks (act pattern) (firsts seen-next tasks) (state_of cells-next ts)) pending
        ∙ rest
        ∙ (λ i. state_of (cells_after pattern tasks cells-next) (skipped ++ (others-left i ++ append_assoc later children (children_after pattern tasks cells-next) i)))
  ]

  -- what the first round leaves
  pub after_first_round : (tasks : List Task) (cells : List Level) → AreVisitsAt pattern level tasks → length cells ≡ vertex_count pattern
      → after_tasks (act pattern) (firsts [] tasks) (state_of cells tasks) ≡ state_of (cells_after pattern tasks cells) (others [] tasks ++ children_after pattern tasks cells)
  after_first_round tasks cells visits count =
      let under_way : IsUnderWay pattern level [] tasks [] = record { skipped_at = tt; visits = visits.each; late = tt; ascending = visits.ascending } in
      ap (λ (ts : List Task). after_tasks (act pattern) (firsts [] tasks) (state_of cells ts)) (sym (append-nil tasks))
      ∙ after_firsts [] [] tasks [] cells under_way (none_behind tasks) count (λ place was. absurd (false≢true was))
    where
      none_behind : (ts : List Task) → AllByRecursion (λ task. AllByRecursion (IsBeforeChildren task.key (suc level)) []) ts
      none_behind [] = tt
      none_behind (task ∷ ts) = (tt, none_behind ts)
