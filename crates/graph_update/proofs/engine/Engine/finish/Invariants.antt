use Rattle.run_laws.specs.Acting.{task_named}
use Rattle.graph_update.proofs.engine.Engine.finish.Given as goal

-- only what is handed over can be named here, so the task is the one that the graph has
abbrev pub ghost-end_running : goal.ghost-end_running
ghost-end_running g a = task_named a.self.now.progress.nodes a.node
