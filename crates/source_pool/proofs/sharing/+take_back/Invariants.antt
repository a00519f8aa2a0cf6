use Rattle.std.proofs.Common.{length}
use Rattle.source_pool.proofs.sharing.+take_back.Given as goal

abbrev pub decreases-take_back : goal.decreases-take_back
decreases-take_back g a = length a.shares.now
