use Rattle.std.proofs.Common.{◌≡◌, List, ◌++◌, ◌∷◌, [], Some, refl, sym, subst}
use Rattle.std.specs.Prelude.{option_to_list}
use Rattle.task_order.specs.declared.key.Key.{Key}
use Rattle.kdg_graph.specs.Node.{Node}
use Rattle.kdg_graph.specs.Nodes.{HasNode, task_at}
use Rattle.graph_update.specs.Engine.{EngineState}
use Rattle.run_laws.specs.Moves.{Moved}
use Rattle.free_pool.specs.Acted.{job_of}
use Rattle.free_pool.proofs.Acts.{acted_drains_none, acted_moves, has_node, not_none, stuck_moves}
use Rattle.free_pool.proofs.acting.act_there.Goals as goal

pub task-requires : goal.task-requires
task-requires g c =
    let old = c.args.engine.now in
    subst (λ (nodes : List Node). HasNode nodes c.args.node) (sym c.graph.ensures.nodes)
    (has_node (g.A.App.meaning old.app) c.node_laws.ensures.have_ids old.progress.nodes c.args.node c.graph.ensures.kept.sound.keys_and_counts.graph c.requires.clear)

pub returns-in-Ok-clause-act : goal.returns-in-Ok-clause-act
returns-in-Ok-clause-act g c =
    let old = c.args.engine.now in
    let now = c.act.new.self.progress in
    let laws = c.move_laws.ensures in
    let found : task_at old.progress.nodes c.args.node ≡ Some c.task.result.now =
    subst (λ (nodes : List Node). task_at nodes c.args.node ≡ Some c.task.result.now) c.graph.ensures.nodes c.task.ensures in (
      c.of-key.result,
      c.push_reserved.ensures.items,
      λ had. subst (λ (key : Key). Moved (g.A.App.meaning old.app) old.progress had now had (key ∷ [])) (sym c.of-key.ensures)
          (acted_moves (g.A.App.meaning old.app) old.progress c.args.node now c.node_laws.ensures.have_ids c.graph.ensures.kept.sound.keys_and_counts.graph (laws.claims old.app) (laws.ends old.app) (laws.follow old.app)
          c.requires.not_over c.in-Ok.ensures.acted c.task.result.now found had),
    )

pub returns-in-Ok-clause-drained : goal.returns-in-Ok-clause-drained
returns-in-Ok-clause-drained g c =
    acted_drains_none (g.A.App.meaning c.args.engine.now.app) c.args.engine.now.progress c.args.node c.act.new.self.progress c.join_laws.ensures.one c.join_laws.ensures.length c.in-Ok.ensures.acted

pub returns-clause-act : goal.returns-clause-act
returns-clause-act g c =
    let old = c.args.engine.now in
    let now = c.act.new.self.progress in
    let laws = c.move_laws.ensures in
    let some = not_none now.over c.over.result c.is_none.result c.over.ensures c.is_none.ensures c.if-is_none.false in (
      refl,
      λ had. subst (λ (e : EngineState g.row.A.Denot g.row.A-Val.Denot). Moved (g.A.App.meaning old.app) old.progress had now (option_to_list (job_of e.progress c.args.node) ++ had) []) (sym c.of-before.ensures)
          (stuck_moves (g.A.App.meaning old.app) old.progress c.args.node now c.node_laws.ensures.have_ids c.graph.ensures.kept.sound.keys_and_counts.graph (laws.claims old.app) (laws.follow old.app)
          c.requires.not_over (laws.refusals old.app) (laws.gives_up old.app) c.in-Err-2.field-0 c.in-Err-2.ensures.fault some had),
      some,
    )
