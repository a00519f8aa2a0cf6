-- The pairs of a set as they are stored.
use Rattle.std.specs.Prelude.{take}
use Rattle.rw_sets.specs.Accesses.{Accesses}
use Rattle.rw_sets.specs.declared.few.Few.{Few}
use Rattle.rw_sets.specs.declared.pairs.Pairs.{Pairs}
use Rattle.rw_sets.specs.declared.pairs.Pairs.TheVariants.{InPlace, InMemory}

abbrev pub items_of : Few → Accesses
items_of few = take few.len few.pairs

abbrev pub pairs_of : Pairs → Accesses
pairs_of (InPlace few) = items_of few
pairs_of (InMemory pairs) = pairs.items
