use Rattle.mark_rounds.proofs.Sources.{free_nodes_are_sources}
use Rattle.mark_rounds.proofs.laws.marked_source_laws.Goals as goal

pub returns : goal.returns
returns c = free_nodes_are_sources c.earlier_laws.ensures.turned c.earlier_laws.ensures.equal c.node_laws.ensures.have_ids c.source_laws.ensures.unblocked c.free_laws.ensures
