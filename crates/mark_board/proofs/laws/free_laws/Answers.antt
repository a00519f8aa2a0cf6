use Rattle.mark_board.proofs.RankedSets.{free_ranks}
use Rattle.mark_board.proofs.laws.free_laws.Goals as goal

pub returns : goal.returns
returns c = free_ranks c.lookup_laws.ensures.find_pairs
