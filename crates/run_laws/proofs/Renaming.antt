-- An execution whose pending tasks become first tasks.
use Rattle.std.proofs.Common.{◌≡◌, List, length, ap, subst, ◌∙◌, arith}
use Rattle.task_order.specs.declared.start.Start.{Start}
use Rattle.kdg_graph.specs.Node.{Node}
use Rattle.kdg_graph.specs.Nodes.{tasks_of}
use Rattle.app_laws.specs.Applications.{Application}
use Rattle.app_laws.specs.Names.{AreListed}
use Rattle.app_laws.specs.RenamingLaws.{as_many_listed}
use Rattle.run_laws.specs.Basis.{Basis}
use Rattle.run_laws.specs.Answers.{AreFirstNodes}
use Rattle.run_laws.specs.Progress.{Progress}
use Rattle.run_laws.specs.Renaming.{RenamingsKeepSound}
use Rattle.run_laws.proofs.AtRest.{at_rest, home_values}
use Rattle.run_laws.proofs.Beginnings.{first_nodes_are_sound}
use Rattle.app_laws.specs.ListedLaws.{listed_fit}
use Rattle.run_laws.proofs.FinishTasks.{length-mapped}

-- as many first tasks as nodes
pub as_many_first : (nodes : List Node) (first : List Start) → AreListed (tasks_of nodes) first → length first ≡ length nodes
as_many_first nodes first listed = as_many_listed (tasks_of nodes) first listed ∙ length-mapped (λ (node : Node). node.task) nodes

module _ {V : Type 0} {app : Application V} (basis : Basis app) where
  pub renamings_keep_sound : RenamingsKeepSound app
  renamings_keep_sound old now values sound is =
      let counts = sound.keys_and_counts in
      let fit = listed_fit app (tasks_of old.nodes) is.first is.listed sound.ready.tasks in
      let are = subst (λ cells. AreFirstNodes app cells is.first now.nodes) (home_values basis old values sound) is.nodes in
      let home = ap (λ (progress : Progress V). progress.cells) is.after ∙ (at_rest basis old values sound).cells in
      let empty = ap (λ (progress : Progress V). progress.log) is.after in
      let created = ap (λ (progress : Progress V). progress.created) is.after in
      let ended = ap (λ (progress : Progress V). progress.ended) is.after in
      let limit = ap (λ (progress : Progress V). progress.limit) is.after in
      let many = as_many_first old.nodes is.first is.listed in
      first_nodes_are_sound basis values is.first now sound.ready.cells fit are home empty
      (omega (arith, created, ended, many, counts.created)) (omega (arith, created, limit, counts.within))
