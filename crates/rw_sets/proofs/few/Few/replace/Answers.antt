use Rattle.rw_sets.proofs.InPlace.{take_set}
use Rattle.rw_sets.proofs.few.Few.replace.Goals as goal

pub returns : goal.returns
returns c = take_set _ _ _ _ c.requires
