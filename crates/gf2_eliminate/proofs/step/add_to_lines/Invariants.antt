use Rattle.gf2_eliminate.proofs.Adding.{IsLeft}
use Rattle.gf2_eliminate.proofs.step.add_to_lines.Given as goal

abbrev pub invariant-loop-number : goal.invariant-loop-number
invariant-loop-number g l = IsLeft g.C.Lines.held g.C.Lines.has_line g.C.Lines.put_at l.before l.numbers l.added l.fn.cells l.cells l.number-iterator
