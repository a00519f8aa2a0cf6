use Rattle.std.proofs.Common.{arith, sym}
use Rattle.std.proofs.lemmas.List.{get_or_past}
use Rattle.gf2_eliminate.proofs.places.word_at.Goals as goal

pub returns-else-at-words : goal.returns-else-at-words
returns-else-at-words c = sym (get_or_past c.args.words.now c.args.at 0 (omega arith))
