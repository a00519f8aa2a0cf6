use Rattle.std.proofs.Common.{rules, ◌≡◌, ◌≢◌, ◌∙◌, List, [], ◌∷◌, slice_get, Option, Some, None, refl, sym, ap, subst}
use Rattle.run_laws.specs.Jobs.{Job}
use Rattle.crew.specs.Jobs.{MayRun}
use Rattle.graph_update.specs.Engine.{SomeRuns, progress_of, EngineState}
use Rattle.run_laws.specs.Events.{IsClaimed, clear_nodes}
use Rattle.run_laws.specs.Sound.{IsSound}
use Rattle.graph_update.proofs.ClearClaims.{claimed, clear_after, has_node, kept_after, may_run, picked_home, some_nodes, some_runs, sound_after}
use Rattle.graph_update.proofs.FixedSets.{fixed_started}
use Rattle.graph_update.proofs.ReadyIds.{chosen, left_are_ready, same_pick}
use Rattle.graph_update.proofs.Sources.{kept_covered}
use Rattle.graph_update.proofs.Touched.{told_started}
use Rattle.graph_update.proofs.engine.Engine.claim_among.Goals as goal

none_where_not : {X : Type 0} (found : Option X) → ((x : X) → found ≡ Some x → ⊥) → found ≡ None
none_where_not None never = refl
none_where_not (Some x) never = absurd (never x refl)

pub returns-in-Some-clause-answer : goal.returns-in-Some-clause-answer
returns-in-Some-clause-answer g c =
    let same = c.self.view_is ∙ c.settle_for.ensures in
    let over = subst (λ (state : EngineState g.row.A.Denot g.row.A-Val.Denot). state.progress.over ≡ Some c.in-Some.cause) same c.in-Some.is in
    (c.args.pick, same_pick c.args.among.now c.args.pick, (over, ap (λ (state : EngineState g.row.A.Denot g.row.A-Val.Denot). state.progress) c.settle_for.ensures))

pub returns-then-is_empty-clause-answer : goal.returns-then-is_empty-clause-answer
returns-then-is_empty-clause-answer g c =
    let same = c.self.view_is ∙ c.settle_for.ensures in
    let over = subst (λ (state : EngineState g.row.A.Denot g.row.A-Val.Denot). state.progress.over ≡ None) same (none_where_not c.self.inside.tally.over c.in_default.not-Some) in
    let ended : c.args.self.now.progress.nodes ≡ [] = search rules in
    (c.args.pick, same_pick c.args.among.now c.args.pick, (over, ended, ap (λ (state : EngineState g.row.A.Denot g.row.A-Val.Denot). state.progress) c.settle_for.ensures))

pub returns-in_default-picked-clause-some_runs : goal.returns-in_default-picked-clause-some_runs
returns-in_default-picked-clause-some_runs g c =
    let app = g.A.App.meaning c.self.inside.app.now in
    let none = chosen app c.self.inside.agenda.graph c.look.new.self c.args.among.now c.args.pick None c.in_ok-look.ensures.ready c.in_ok-look.ensures.enough c.in_default-picked.ensures.id in
    subst (λ (state : EngineState g.row.A.Denot g.row.A-Val.Denot). SomeRuns state.progress.nodes) (c.self.view_is ∙ c.settle_for.ensures)
    (some_runs (c.basis.ensures c.self.inside.app.now) _ c.self.invariant.0.jobs c.self.invariant.0.values c.self.invariant.0.sound (some_nodes c.self.inside.agenda.graph c.is_empty.result c.is_empty.ensures c.if-is_empty.false) none.2)

pub returns-in_default-picked-clause-answer : goal.returns-in_default-picked-clause-answer
returns-in_default-picked-clause-answer g c =
    let app = g.A.App.meaning c.self.inside.app.now in
    let inside = progress_of c.self.inside.store c.self.inside.agenda.graph c.self.inside.tally in
    let none = chosen app c.self.inside.agenda.graph c.look.new.self c.args.among.now c.args.pick None c.in_ok-look.ensures.ready c.in_ok-look.ensures.enough c.in_default-picked.ensures.id in (
      none.0,
      none.1,
      subst (λ (state : EngineState g.row.A.Denot g.row.A-Val.Denot). (state.progress.over ≡ None) × (state.progress.nodes ≢ []) × (clear_nodes (g.A.App.meaning state.app) state.progress.nodes ≡ []) × (inside ≡ state.progress)) (c.self.view_is ∙ c.settle_for.ensures) (
        none_where_not c.self.inside.tally.over c.in_default.not-Some,
        some_nodes c.self.inside.agenda.graph c.is_empty.result c.is_empty.ensures c.if-is_empty.false,
        none.2,
        refl,
      ),
    )

pub look-requires-clause-graph : goal.look-requires-clause-graph
look-requires-clause-graph g c κs within = c.self.invariant.0.sound.keys_and_counts.graph

pub look-requires-clause-covered : goal.look-requires-clause-covered
look-requires-clause-covered g c κs within = kept_covered (g.A.App.meaning c.self.inside.app.now) _ c.self.invariant.0

pub task-requires : goal.task-requires
task-requires g c =
    let one = chosen (g.A.App.meaning c.self.inside.app.now) c.self.inside.agenda.graph c.look.new.self c.args.among.now c.args.pick (Some c.in-Some-picked.node) c.in_ok-look.ensures.ready c.in_ok-look.ensures.enough c.in-Some-picked.ensures.id in
    has_node (c.basis.ensures c.self.inside.app.now) _ c.self.invariant.0.jobs c.self.invariant.0.values c.self.invariant.0.sound one.0 c.in-Some-picked.node one.2

pub take-requires-after_bounds : goal.take-requires-after_bounds
take-requires-after_bounds g c κs within =
    let one = chosen (g.A.App.meaning c.self.inside.app.now) c.self.inside.agenda.graph c.look.new.self c.args.among.now c.args.pick (Some c.in-Some-picked.node) c.in_ok-look.ensures.ready c.in_ok-look.ensures.enough c.in-Some-picked.ensures.id in
    picked_home (c.basis.ensures c.self.inside.app.now) _ c.self.invariant.0.jobs c.self.invariant.0.values c.self.invariant.0.sound one.0 c.in-Some-picked.node one.2
    c.set.result.now c.set.ensures

pub invariant_of-self-2 : goal.invariant_of-self-2
invariant_of-self-2 g c =
    let one = chosen (g.A.App.meaning c.self.inside.app.now) c.self.inside.agenda.graph c.look.new.self c.args.among.now c.args.pick (Some c.in-Some-picked.node) c.in_ok-look.ensures.ready c.in_ok-look.ensures.enough c.in-Some-picked.ensures.id in
    let app = g.A.App.meaning c.self.inside.app.now in
    let at = c.in-Some-picked.ensures.id ∙ ap (slice_get c.look.new.self.ids.items) (sym c.in-Some-picked.ensures.place) in (
      kept_after (c.basis.ensures c.self.inside.app.now) _ c.self.invariant.0 one.0 c.in-Some-picked.node one.2
          c.task.result.now c.in_ok-task.task c.set.result.now c.in_ok-bundle.bundle c.take.new.self c.mark_running.new.self
          c.task.ensures c.in_ok-task.ensures c.set.ensures c.in_ok-bundle.ensures.bundle c.in_ok-bundle.ensures.ok c.mark_running.ensures.marked,
      record {
        clear = left_are_ready app c.self.inside.agenda.graph c.mark_running.new.self c.in-Some-picked.node c.in-Some-picked.place c.look.new.self c.take-2.new.self c.self.invariant.0.sound.keys_and_counts.graph
            (clear_after (c.basis.ensures c.self.inside.app.now) _ c.self.invariant.0 one.0 c.in-Some-picked.node one.2
            c.task.result.now c.in_ok-task.task c.set.result.now c.in_ok-bundle.bundle c.take.new.self c.mark_running.new.self
            c.task.ensures c.in_ok-task.ensures c.set.ensures c.in_ok-bundle.ensures.bundle c.in_ok-bundle.ensures.ok c.mark_running.ensures.marked)
            c.in_ok-look.ensures.ready (sym at) c.take-2.ensures.ids c.take-2.ensures.current;
        fixed = fixed_started app c.in-Some-picked.node c.self.inside.agenda.graph c.mark_running.new.self c.mark_running.ensures.marked c.self.invariant.1.fixed;
        told = told_started (g.A.App.tells c.self.inside.app.now c.look.new.horizon) (c.basis.ensures c.self.inside.app.now).lower.starts_keep_tasks c.in-Some-picked.node c.self.inside.agenda.graph c.mark_running.new.self c.mark_running.ensures.marked c.in_ok-look.ensures.told;
      },
    )

pub returns-clause-answer : goal.returns-clause-answer
returns-clause-answer g c =
    let one = chosen (g.A.App.meaning c.self.inside.app.now) c.self.inside.agenda.graph c.look.new.self c.args.among.now c.args.pick (Some c.in-Some-picked.node) c.in_ok-look.ensures.ready c.in_ok-look.ensures.enough c.in-Some-picked.ensures.id in (
      one.0,
      one.1,
      subst (λ (state : EngineState g.row.A.Denot g.row.A-Val.Denot). (state.progress.over ≡ None) × IsClaimed (g.A.App.meaning state.app) state.progress one.0
          (progress_of c.take.new.self c.mark_running.new.self c.self.inside.tally) (record { node = c.in-Some-picked.node; task = c.in_ok-task.task; bundle = c.in_ok-bundle.bundle })) (c.self.view_is ∙ c.settle_for.ensures) (
            none_where_not c.self.inside.tally.over c.in_default.not-Some,
            claimed (c.basis.ensures c.self.inside.app.now) _ c.self.invariant.0 one.0 c.in-Some-picked.node one.2
                c.task.result.now c.in_ok-task.task c.set.result.now c.in_ok-bundle.bundle c.take.new.self c.mark_running.new.self
                c.task.ensures c.in_ok-task.ensures c.set.ensures c.in_ok-bundle.ensures.bundle c.in_ok-bundle.ensures.ok c.mark_running.ensures.marked,
          ),
    )

pub returns-clause-sound : goal.returns-clause-sound
returns-clause-sound g c =
    let one = chosen (g.A.App.meaning c.self.inside.app.now) c.self.inside.agenda.graph c.look.new.self c.args.among.now c.args.pick (Some c.in-Some-picked.node) c.in_ok-look.ensures.ready c.in_ok-look.ensures.enough c.in-Some-picked.ensures.id in
    subst (λ (state : EngineState g.row.A.Denot g.row.A-Val.Denot). (jobs : List (Job g.row.A-Val.Denot)) (values : List g.row.A-Val.Denot) → IsSound (g.A.App.meaning state.app) state.progress jobs values
    → IsSound (g.A.App.meaning state.app) (progress_of c.take.new.self c.mark_running.new.self c.self.inside.tally) ((record { node = c.in-Some-picked.node; task = c.in_ok-task.task; bundle = c.in_ok-bundle.bundle }) ∷ jobs) values) (c.self.view_is ∙ c.settle_for.ensures)
    (sound_after (c.basis.ensures c.self.inside.app.now) _ c.self.invariant.0 one.0 c.in-Some-picked.node one.2
    c.task.result.now c.in_ok-task.task c.set.result.now c.in_ok-bundle.bundle c.take.new.self c.mark_running.new.self
    c.task.ensures c.in_ok-task.ensures c.set.ensures c.in_ok-bundle.ensures.bundle c.in_ok-bundle.ensures.ok c.mark_running.ensures.marked)

pub returns-clause-may_run : goal.returns-clause-may_run
returns-clause-may_run g c =
    let one = chosen (g.A.App.meaning c.self.inside.app.now) c.self.inside.agenda.graph c.look.new.self c.args.among.now c.args.pick (Some c.in-Some-picked.node) c.in_ok-look.ensures.ready c.in_ok-look.ensures.enough c.in-Some-picked.ensures.id in
    subst (λ (state : EngineState g.row.A.Denot g.row.A-Val.Denot). MayRun (g.A.App.meaning state.app) (record { node = c.in-Some-picked.node; task = c.in_ok-task.task; bundle = c.in_ok-bundle.bundle })) (c.self.view_is ∙ c.settle_for.ensures)
    (may_run (c.basis.ensures c.self.inside.app.now) _ c.self.invariant.0 one.0 c.in-Some-picked.node one.2
    c.task.result.now c.in_ok-task.task c.set.result.now c.in_ok-bundle.bundle c.take.new.self c.mark_running.new.self
    c.task.ensures c.in_ok-task.ensures c.set.ensures c.in_ok-bundle.ensures.bundle c.in_ok-bundle.ensures.ok c.mark_running.ensures.marked)
