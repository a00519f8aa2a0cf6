use Rattle.std.proofs.Common.{length}
use Rattle.source_pool.proofs.sharing.+give_out.Given as goal

abbrev pub decreases-give_out : goal.decreases-give_out
decreases-give_out g a = length a.shares.now
