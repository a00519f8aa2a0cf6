use Rattle.std.specs.Prelude.{◌≡◌, map}
use Rattle.mtx_reader.specs.Ascending.{numbers_from}
use Rattle.gf2_eliminate.specs.Start.{empty_line}
use Rattle.gf2_eliminate.proofs.start.empty_lines.Given as goal

abbrev pub invariant-loop-loc : goal.invariant-loop-loc
invariant-loop-loc l = l.lines.items ≡ map (empty_line l.rows) (numbers_from 0 l.loc)
