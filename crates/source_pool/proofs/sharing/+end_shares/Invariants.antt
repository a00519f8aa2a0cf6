use Rattle.std.proofs.Common.{length}
use Rattle.source_pool.proofs.sharing.+end_shares.Given as goal

abbrev pub decreases-end_shares : goal.decreases-end_shares
decreases-end_shares g a = length a.shares.now
