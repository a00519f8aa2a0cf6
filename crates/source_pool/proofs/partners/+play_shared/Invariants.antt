use Rattle.std.proofs.Common.{length}
use Rattle.source_pool.proofs.partners.+play_shared.Given as goal

abbrev pub decreases-play_shared : goal.decreases-play_shared
decreases-play_shared g a = length a.others.now
