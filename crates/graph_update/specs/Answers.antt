-- What the calls of the engine tell and leave as it is.
use Rattle.std.specs.Prelude.{◌≡◌, ◌≢◌, [], length, filter, Some, None}
use Rattle.app_laws.specs.Applications.{Application}
use Rattle.graph_update.specs.declared.answers.Counts.{Counts}
use Rattle.graph_update.specs.declared.answers.Upcoming.{Upcoming}
use Rattle.graph_update.specs.declared.answers.Upcoming.TheVariants as upcoming
use Rattle.run_laws.specs.Events.{IsOfClear, clear_nodes}
use Rattle.run_laws.specs.Progress.{Progress}

-- the numbers of created tasks, ended tasks, nodes and running nodes
abbrev pub counts_of : {V : Type 0} → Progress V → Counts
counts_of progress = record {
  created = progress.created;
  ended = progress.ended;
  nodes = length progress.nodes;
  running = length (filter (λ node. node.running) progress.nodes);
}

-- what comes next: the over mark where one stands; else that all has ended where there is no node; else that none is clear where that
-- is so; else the id of a clear node
abbrev pub IsUpcoming : {V : Type 0} → Application V → Progress V → Upcoming → Type 0
IsUpcoming app now (upcoming.Over cause) = now.over ≡ Some cause
IsUpcoming app now upcoming.Ended = (now.over ≡ None) × (now.nodes ≡ [])
IsUpcoming app now upcoming.NotYet = (now.over ≡ None) × (now.nodes ≢ []) × (clear_nodes app now.nodes ≡ [])
IsUpcoming app now (upcoming.Clear id) = (now.over ≡ None) × IsOfClear app now.nodes id
