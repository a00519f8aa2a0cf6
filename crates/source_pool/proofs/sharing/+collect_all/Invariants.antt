use Rattle.std.proofs.Common.{length}
use Rattle.source_pool.proofs.sharing.+collect_all.Given as goal

abbrev pub decreases-collect_all : goal.decreases-collect_all
decreases-collect_all g a = length a.shares.now
