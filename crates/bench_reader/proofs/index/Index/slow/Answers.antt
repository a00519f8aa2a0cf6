use Rattle.bench_reader.proofs.Tables.{Puts-from_updates}
use Rattle.bench_reader.proofs.index.Index.slow.Goals as goal

pub returns-clause-ok : goal.returns-clause-ok
returns-clause-ok c = Puts-from_updates c.args.self.now.delays c.insert.new.self c.args.name.now _ c.in_ok-insert.ensures.updates
