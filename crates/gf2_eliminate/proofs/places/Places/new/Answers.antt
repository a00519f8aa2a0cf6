use Rattle.std.proofs.Common.{ap}
use Rattle.gf2_eliminate.specs.Ones.{places_left}
use Rattle.gf2_eliminate.proofs.places.Places.new.Goals as goal

pub returns : goal.returns
returns c = ap (places_left c.args.words.now c.args.first) c.word_at.ensures
