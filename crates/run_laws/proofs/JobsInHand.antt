-- The jobs in hand may run.
use Rattle.std.proofs.Common.{◌≡◌, sym, ap, subst, ◌∙◌}
use Rattle.plain_laws.specs.Members.{all_at, in_map}
use Rattle.cell_store.specs.Cells.{part_of}
use Rattle.cell_store.specs.Values.{homes}
use Rattle.kdg_graph.specs.Node.{Node}
use Rattle.kdg_graph.specs.Nodes.{tasks_of}
use Rattle.app_laws.specs.Applications.{Application, IsFitTask, set_in}
use Rattle.run_laws.specs.Basis.{Basis}
use Rattle.run_laws.specs.Jobs.{Job}
use Rattle.run_laws.specs.Laws.{JobsMayRun}
use Rattle.run_laws.specs.Sound.{Covers, IsOfNode}

module _ {V : Type 0} {app : Application V} (basis : Basis app) where
  -- each of the jobs of a sound execution may run
  pub jobs_may_run : JobsMayRun app
  jobs_may_run progress jobs values job sound has =
      let found = all_at (IsOfNode app progress.nodes) jobs job sound.outs_match.named has in
      let bundle = all_at (λ (one : Job V). one.bundle ≡ part_of (homes values) one.bundle.set) jobs job sound.whole.bundles has in
      let node = found.0 in
      let there = (basis.lower.keys_find progress.nodes job.task.key node found.1).0 in
      let covers = all_at (Covers app progress.cells values) progress.nodes node sound.recorded_covers there in
      let fit = all_at (IsFitTask app) (tasks_of progress.nodes) node.task sound.ready.tasks (in_map (λ (n : Node). n.task) progress.nodes node there) in
      let set : job.bundle.set ≡ set_in app values job.task = sym found.2.set ∙ covers.running found.2.running ∙ ap (set_in app values) found.2.task in
      record {
        fit = subst (IsFitTask app) found.2.task fit;
        taken = record { cells = values; fit = sound.ready.cells; is = bundle ∙ ap (part_of (homes values)) set };
      }
