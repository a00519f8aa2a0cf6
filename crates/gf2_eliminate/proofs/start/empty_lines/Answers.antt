use Rattle.gf2_eliminate.specs.Start.{empty_line}
use Rattle.gf2_eliminate.proofs.Printing.{line_more}
use Rattle.gf2_eliminate.proofs.start.empty_lines.Goals as goal

pub loop-loc-preserved : goal.loop-loc-preserved
loop-loc-preserved c = line_more (empty_line c.args.rows) c.loop-loc.loc c.loop-loc.lines.items c.push.new.self.items c.empty_line.result c.loop-loc.invariant c.in_ok-push.ensures.items c.empty_line.ensures
