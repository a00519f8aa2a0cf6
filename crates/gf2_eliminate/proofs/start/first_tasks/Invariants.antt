use Rattle.std.specs.Prelude.{◌≡◌, map}
use Rattle.mtx_reader.specs.Ascending.{numbers_from}
use Rattle.gf2_eliminate.specs.Start.{start_task}
use Rattle.gf2_eliminate.proofs.start.first_tasks.Given as goal

abbrev pub invariant-loop-column : goal.invariant-loop-column
invariant-loop-column l = l.starts ≡ map start_task (numbers_from 0 l.column)
