use Rattle.bench_reader.proofs.Sound.{result-sound}
use Rattle.bench_reader.proofs.reader.read_deck.Goals as goal

pub returns-clause-deck : goal.returns-clause-deck
returns-clause-deck c = result-sound c.args.input.now c.deck_in.result c.deck_in.ensures
