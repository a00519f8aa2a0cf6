-- The laws of meshes.
use Rattle.std.specs.Prelude.{◌≡◌, ◌≢◌, ◌⊎◌, ℕ, pos, zero, suc, ◌+◌, ◌<◌, ◌≤◌, ◌^◌, Bool, true, List, [], ◌∷◌, length, nat_le, slice_get, slice_set, refl, All}
use Rattle.std.specs.List.{AllByRecursion, filter}
use Rattle.std.proofs.Common.{arith, inl, inr, lit<, sym, ap, ◌∙◌, subst}
use Rattle.std.proofs.lemmas.Bool.{cond_both}
use Rattle.std.proofs.lemmas.Bool.Decides.{nat_tests}
use Rattle.std.proofs.lemmas.List.{length-set}
use Rattle.std.proofs.lemmas.List.Elements.{All-get_or, All-set}
use Rattle.std.proofs.lemmas.Option.{slice_get-get_or, same_Some}
use Rattle.plain_laws.specs.Lists.{All-filter, get-set_other}
use Rattle.task_order.specs.declared.start.Start.{Start}
use Rattle.task_order.specs.declared.task.Body.{Body}
use Rattle.task_order.specs.declared.task.Task.{Task}
use Rattle.rw_sets.specs.Accesses.{Conflicts}
use Rattle.rw_sets.specs.LookupLaws.{merges_hold_both}
use Rattle.app_laws.specs.Applications.{AgreeOn, set_in, CellsAreCounted, SetsAreInRange, ActsAreFit, SetsAreLocal, IsSameOutcome, ActsAreLocal, ActsIgnorePaths, ChildrenComeNoEarlier, SetsStayWithin, WalksAreTrue, FixedSetsAreKnown, IsSafeAlone, SafeTasksStaySafe, SafetyIgnoresPaths, PathsAreIgnored, IsLawful}
use Rattle.app_laws.specs.Execution.{children_from}
use Rattle.spring_mesh.specs.declared.file.MeshFile.{MeshFile}
use Rattle.spring_mesh.specs.declared.file.MeshNode.{MeshNode}
use Rattle.spring_mesh.specs.declared.file.Spring.{Spring}
use Rattle.spring_mesh.specs.LineForms.{latest}
use Rattle.spring_mesh.specs.Files.{IsNode, IsMass, IsSpring, IsMesh}
use Rattle.spring_mesh.specs.Motion.{brought_to, first_after, second_after}
use Rattle.spring_mesh.specs.Meaning.{IsFitCells, IsFitTask, node_at, no_node, mass_at, spring_at, no_spring, ends_of, first_stepped, second_stepped, with_ends, next_steps, step_of, mesh_steps}
use Rattle.spring_mesh.specs.Bounds.{brought_to-fits, first_after-fits, second_after-fits}
use Rattle.spring_mesh.specs.Ends.{ends_of-ascending, first-named, second-named, end_from_named, unwritten-apart}

get-set_alike : (cells others : List MeshNode) (place loc : ℕ) (node : MeshNode) → slice_get cells loc ≡ slice_get others loc
    → slice_get (slice_set cells place node) loc ≡ slice_get (slice_set others place node) loc
get-set_alike [] [] place loc node same = refl
get-set_alike [] (other ∷ others) place zero node same = cc
get-set_alike [] (other ∷ others) zero (suc loc) node same = same
get-set_alike [] (other ∷ others) (suc place) (suc loc) node same = get-set_alike [] others place loc node same
get-set_alike (cell ∷ cells) [] place zero node same = cc
get-set_alike (cell ∷ cells) [] zero (suc loc) node same = same
get-set_alike (cell ∷ cells) [] (suc place) (suc loc) node same = get-set_alike cells [] place loc node same
get-set_alike (cell ∷ cells) (other ∷ others) zero zero node same = refl
get-set_alike (cell ∷ cells) (other ∷ others) zero (suc loc) node same = same
get-set_alike (cell ∷ cells) (other ∷ others) (suc place) zero node same = same
get-set_alike (cell ∷ cells) (other ∷ others) (suc place) (suc loc) node same = get-set_alike cells others place loc node same

same_node : (cells others : List MeshNode) (loc : ℕ) → loc < length cells → loc < length others → slice_get cells loc ≡ slice_get others loc → node_at cells loc ≡ node_at others loc
same_node cells others loc below below-others same =
    same_Some (node_at cells loc) (node_at others loc) (sym (slice_get-get_or cells loc no_node below) ∙ same ∙ slice_get-get_or others loc no_node below-others)

pub in_time : (time end : ℕ) → nat_le time end ≡ true → time ≤ end
in_time time end test = grind (arith, nat_tests)

module _ (file : MeshFile) where
  pub spring_at-fits : (number : ℕ) → IsMesh file → number < length file.springs → IsSpring (length file.nodes) (spring_at file number)
  spring_at-fits number is below = All-get_or (IsSpring (length file.nodes)) file.springs number no_spring below is.springs

  pub node_at-fits : (cells : List MeshNode) (number : ℕ) → All IsNode cells → number < length cells → IsNode (node_at cells number)
  node_at-fits cells number all below = All-get_or IsNode cells number no_node below all

  pub mass_at-fits : (number : ℕ) → IsMesh file → number < length file.nodes → IsMass (mass_at file number)
  mass_at-fits number is below = All-get_or IsMass file.masses number (pos 0) (omega (arith, is.mass_count, below)) is.masses

  pub cells_are_counted : CellsAreCounted (mesh_steps file)
  cells_are_counted cells fit = fit.count

  end_below : (cells : List MeshNode) (number loc : ℕ) → IsFitCells file cells → number < length file.springs → ((spring_at file number).a ≡ loc) ⊎ ((spring_at file number).b ≡ loc) → loc < length file.nodes
  end_below cells number loc fit below (inl is) = let spring = spring_at-fits number fit.file below in subst (λ l. l < length file.nodes) is spring.a
  end_below cells number loc fit below (inr is) = let spring = spring_at-fits number fit.file below in subst (λ l. l < length file.nodes) is spring.b

  pub sets_are_in_range : SetsAreInRange (mesh_steps file)
  sets_are_in_range task cells fit step = record {
    ascending = ends_of-ascending (spring_at file task.body.at);
    below = λ loc named. end_below cells task.body.at loc fit step.at_spring (end_from_named (spring_at file task.body.at) loc named);
  }

  pub first-fits : (time : ℕ) (spring : Spring) (cells : List MeshNode) → IsFitCells file cells → time ≤ latest → spring.a < length file.nodes → IsNode (first_stepped file time spring cells)
  first-fits time spring cells fit late below =
      first_after-fits spring (mass_at file spring.a) (brought_to time (node_at cells spring.a)) (brought_to time (node_at cells spring.b))
      (brought_to-fits time (node_at cells spring.a) (node_at-fits cells spring.a fit.nodes (omega (arith, fit.count, below))) late)

  pub second-fits : (time : ℕ) (spring : Spring) (cells : List MeshNode) → IsFitCells file cells → time ≤ latest → spring.b < length file.nodes → IsNode (second_stepped file time spring cells)
  second-fits time spring cells fit late below =
      second_after-fits spring (mass_at file spring.b) (brought_to time (node_at cells spring.a)) (brought_to time (node_at cells spring.b))
      (brought_to-fits time (node_at cells spring.b) (node_at-fits cells spring.b fit.nodes (omega (arith, fit.count, below))) late)

  stepped_fit : (spring : Spring) (first second : MeshNode) (cells : List MeshNode) → IsFitCells file cells → IsNode first → IsNode second → IsFitCells file (with_ends spring first second cells)
  stepped_fit spring first second cells fit first-is second-is = record {
    file = fit.file;
    count = length-set (slice_set cells spring.a first) spring.b second ∙ length-set cells spring.a first ∙ fit.count;
    nodes = All-set IsNode (slice_set cells spring.a first) spring.b second second-is (All-set IsNode cells spring.a first first-is fit.nodes);
  }

  next_fit : (time : ℕ) (body : Body) (spring : Spring) → IsFitTask file time body → AllByRecursion (λ start. IsFitTask file start.prio start.body) (next_steps file.end time body spring)
  next_fit time body spring step =
      cond_both (nat_le (time + spring.h) file.end) _ [] (AllByRecursion (λ (start : Start). IsFitTask file start.prio start.body))
      (λ early. (record { kind = step.kind; at_spring = step.at_spring; no_arg = step.no_arg; in_time = in_time (time + spring.h) file.end early }, tt))
      (λ late. tt)

  pub acts_are_fit : ActsAreFit (mesh_steps file)
  acts_are_fit task cells fit step =
      let spring = spring_at file task.body.at in
      let is = spring_at-fits task.body.at fit.file step.at_spring in
      let early : task.key.prio ≤ latest = omega (arith, step.in_time, fit.file.end) in
      record {
        cells = stepped_fit spring (first_stepped file task.key.prio spring cells) (second_stepped file task.key.prio spring cells) cells fit
            (first-fits task.key.prio spring cells fit early is.a) (second-fits task.key.prio spring cells fit early is.b);
        children = next_fit task.key.prio task.body spring step;
        few = cond_both (nat_le (task.key.prio + spring.h) file.end) _ [] (λ (children : List Start). length children < 2 ^ 32) (λ early. lit< tt) (λ late. lit< tt);
        lines = tt;
      }

  pub sets_are_local : SetsAreLocal (mesh_steps file)
  sets_are_local task cells others fit fit-others step agree = refl

  elsewhere : (spring : Spring) (first second : MeshNode) (cells : List MeshNode) (loc : ℕ) → (loc ≢ spring.a) × (loc ≢ spring.b) → slice_get (with_ends spring first second cells) loc ≡ slice_get cells loc
  elsewhere spring first second cells loc apart = get-set_other (slice_set cells spring.a first) spring.b loc second apart.1 ∙ get-set_other cells spring.a loc first apart.0

  alike : (spring : Spring) (first second : MeshNode) (cells others : List MeshNode) (loc : ℕ) → slice_get cells loc ≡ slice_get others loc
      → slice_get (with_ends spring first second cells) loc ≡ slice_get (with_ends spring first second others) loc
  alike spring first second cells others loc same =
      get-set_alike (slice_set cells spring.a first) (slice_set others spring.a first) spring.b loc second (get-set_alike cells others spring.a loc first same)

  -- a step depends on nothing but the ends
  first_alike : (time : ℕ) (spring : Spring) (cells others : List MeshNode) → node_at cells spring.a ≡ node_at others spring.a → node_at cells spring.b ≡ node_at others spring.b
      → first_stepped file time spring cells ≡ first_stepped file time spring others
  first_alike time spring cells others first-same second-same =
      ap (λ a. first_after spring (mass_at file spring.a) (brought_to time a) (brought_to time (node_at cells spring.b))) first-same
      ∙ ap (λ b. first_after spring (mass_at file spring.a) (brought_to time (node_at others spring.a)) (brought_to time b)) second-same

  second_alike : (time : ℕ) (spring : Spring) (cells others : List MeshNode) → node_at cells spring.a ≡ node_at others spring.a → node_at cells spring.b ≡ node_at others spring.b
      → second_stepped file time spring cells ≡ second_stepped file time spring others
  second_alike time spring cells others first-same second-same =
      ap (λ a. second_after spring (mass_at file spring.b) (brought_to time a) (brought_to time (node_at cells spring.b))) first-same
      ∙ ap (λ b. second_after spring (mass_at file spring.b) (brought_to time (node_at others spring.a)) (brought_to time b)) second-same

  stepped_alike : (time : ℕ) (body : Body) (spring : Spring) (cells others : List MeshNode) → AgreeOn (ends_of spring) cells others
      → node_at cells spring.a ≡ node_at others spring.a → node_at cells spring.b ≡ node_at others spring.b
      → IsSameOutcome (mesh_steps file) (ends_of spring) (step_of file time body spring cells) (step_of file time body spring others)
  stepped_alike time body spring cells others agree first-same second-same =
      record {
        cells = λ loc named. alike spring (first_stepped file time spring cells) (second_stepped file time spring cells) cells others loc (agree loc named)
            ∙ ap (λ node. slice_get (with_ends spring node (second_stepped file time spring cells) others) loc) (first_alike time spring cells others first-same second-same)
            ∙ ap (λ node. slice_get (with_ends spring (first_stepped file time spring others) node others) loc) (second_alike time spring cells others first-same second-same);
        children = refl;
        text = refl;
      }

  pub acts_are_local : ActsAreLocal (mesh_steps file)
  acts_are_local = record {
    unchanged = λ task cells fit step loc unwritten.
        let spring = spring_at file task.body.at in
        elsewhere spring (first_stepped file task.key.prio spring cells) (second_stepped file task.key.prio spring cells) cells loc (unwritten-apart spring loc unwritten);
    determined = λ task cells others fit fit-others step agree.
        let spring = spring_at file task.body.at in
        let is = spring_at-fits task.body.at fit.file step.at_spring in
        stepped_alike task.key.prio task.body spring cells others agree
        (same_node cells others spring.a (omega (arith, fit.count, is.a)) (omega (arith, fit-others.count, is.a)) (agree spring.a (first-named spring)))
        (same_node cells others spring.b (omega (arith, fit.count, is.b)) (omega (arith, fit-others.count, is.b)) (agree spring.b (second-named spring)));
  }

  pub acts_ignore_paths : ActsIgnorePaths (mesh_steps file)
  acts_ignore_paths task path cells fit step = refl

  pub children_come_no_earlier : ChildrenComeNoEarlier (mesh_steps file)
  children_come_no_earlier task cells fit step =
      let spring = spring_at file task.body.at in
      cond_both (nat_le (task.key.prio + spring.h) file.end) _ [] (AllByRecursion (λ (child : Start). task.key.prio ≤ child.prio)) (λ early. (omega arith, tt)) (λ late. tt)

  pub sets_stay_within : SetsStayWithin (mesh_steps file)
  sets_stay_within task other cells fit step other-step apart =
      (merges_hold_both (ends_of (spring_at file other.body.at)) (ends_of (spring_at file task.body.at))
      (ends_of-ascending (spring_at file other.body.at)) (ends_of-ascending (spring_at file task.body.at))).0

  pub walks_are_true : WalksAreTrue (mesh_steps file)
  walks_are_true task cells values fit step agrees = refl

  pub fixed_sets_are_known : FixedSetsAreKnown (mesh_steps file)
  fixed_sets_are_known task cells values fit step = refl

  pub safe_alone : IsSafeAlone (mesh_steps file)
  safe_alone task step = refl

  -- a spring's next step has the set of the one before
  next_apart : (acted task : Task) (cells : List MeshNode) → ¬ Conflicts (ends_of (spring_at file acted.body.at)) (ends_of (spring_at file task.body.at))
      → AllByRecursion (λ child. ¬ Conflicts (set_in (mesh_steps file) cells child) (set_in (mesh_steps file) cells task))
      (children_from acted.key 0 (next_steps file.end acted.key.prio acted.body (spring_at file acted.body.at)))
  next_apart acted task cells apart =
      cond_both (nat_le (acted.key.prio + (spring_at file acted.body.at).h) file.end) _ []
      (λ (starts : List Start). AllByRecursion (λ child. ¬ Conflicts (set_in (mesh_steps file) cells child) (set_in (mesh_steps file) cells task)) (children_from acted.key 0 starts))
      (λ early. (apart, tt)) (λ late. tt)

  pub safe_tasks_stay_safe : SafeTasksStaySafe (mesh_steps file)
  safe_tasks_stay_safe task acted before after cells fit step fit-others ascending earlier safe apart = record {
    apart = All-filter _ _ _ (next_apart acted task ((mesh_steps file).act acted cells).cells apart);
    safe = refl;
  }

  pub safety_ignores_paths : SafetyIgnoresPaths (mesh_steps file)
  safety_ignores_paths task earlier name has_name naming named step fit-others = refl

  pub paths_are_ignored : PathsAreIgnored (mesh_steps file)
  paths_are_ignored = record { acts = acts_ignore_paths; safety = safety_ignores_paths }

  pub are_lawful : IsLawful (mesh_steps file)
  are_lawful = record {
    cells_are_counted = cells_are_counted;
    sets_are_in_range = sets_are_in_range;
    acts_are_fit = acts_are_fit;
    sets_are_local = sets_are_local;
    acts_are_local = acts_are_local;
    children_come_no_earlier = children_come_no_earlier;
    sets_stay_within = sets_stay_within;
    walks_are_true = walks_are_true;
    safe_alone = safe_alone;
    safe_tasks_stay_safe = safe_tasks_stay_safe;
  }
