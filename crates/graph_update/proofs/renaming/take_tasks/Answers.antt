use Rattle.std.proofs.Common.{List, [], ◌∷◌, length, sym, ap, subst, ◌<◌, ◌++◌, ◌∙◌}
use Rattle.task_order.specs.declared.task.Task.{Task}
use Rattle.kdg_graph.specs.Node.{Node}
use Rattle.kdg_graph.specs.Nodes.{tasks_of}
use Rattle.graph_update.proofs.TakenTasks.{fewer, least_taken, one_more}
use Rattle.graph_update.proofs.renaming.take_tasks.Goals as goal

pub loop-node-smaller : goal.loop-node-smaller
loop-node-smaller c =
    let at = c.loop-node in
    let taken = least_taken c.in-Some.node c.new.result.items c.new.ensures.items at.fresh.items at.invariant.no_fresh c.in-Ok.task at.graph c.rewrite.new.self
    c.in-Some.ensures.graph c.in-Some.ensures.least c.in-Ok.ensures.task c.in-Ok.ensures.ok in
    subst (λ (nodes : List Node). length nodes < length at.graph) (sym c.settle-in-Some.ensures.same) (fewer at.graph c.rewrite.new.self c.in-Ok.task taken)

pub loop-node-preserved : goal.loop-node-preserved
loop-node-preserved c =
    let at = c.loop-node in
    let taken = least_taken c.in-Some.node c.new.result.items c.new.ensures.items at.fresh.items at.invariant.no_fresh c.in-Ok.task at.graph c.rewrite.new.self
    c.in-Some.ensures.graph c.in-Some.ensures.least c.in-Ok.ensures.task c.in-Ok.ensures.ok in
    record {
      all = ap (λ (tasks : List Task). tasks ++ tasks_of c.settle-in-Some.new.self) c.in_ok-push.ensures.items
          ∙ ap (λ (nodes : List Node). (at.tasks.items ++ c.in-Ok.task ∷ []) ++ tasks_of nodes) c.settle-in-Some.ensures.same
          ∙ one_more at.tasks.items (tasks_of c.args.graph.now) at.graph c.rewrite.new.self c.in-Ok.task at.invariant.all taken;
      no_fresh = c.in-Ok.ensures.none_left;
    }
