-- The jobs of an execution, whose tasks are named by nodes of a graph.
use Rattle.kdg_graph.specs.declared.node_id.NodeId.{NodeId}
use Rattle.crew.specs.declared.answers.Claim as claim
use Rattle.crew.specs.declared.answers.FinishFault as fault
use Rattle.crew.specs.declared.job.Done as done
use Rattle.crew.specs.declared.job.Job as job

abbrev pub Job : Type 0 → Type 0
Job V = job.Job NodeId V

abbrev pub Done : Type 0 → Type 0
Done V = done.Done NodeId V

abbrev pub Claim : Type 0 → Type 0
Claim V = claim.Claim NodeId V

abbrev pub FinishFault : Type 0 → Type 0
FinishFault V = fault.FinishFault NodeId V
