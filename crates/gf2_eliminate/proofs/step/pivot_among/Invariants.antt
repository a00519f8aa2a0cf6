use Rattle.std.specs.Prelude.{◌≡◌}
use Rattle.std.specs.List.{AllByRecursion}
use Rattle.gf2_eliminate.specs.Plans.{pivot_among, HasRow}
use Rattle.gf2_eliminate.proofs.step.pivot_among.Given as goal

-- the rows that were passed are used
abbrev pub invariant-loop-row : goal.invariant-loop-row
invariant-loop-row g l = record {
  passed : pivot_among (g.C.Lines.held l.cells) l.holders ≡ pivot_among (g.C.Lines.held l.cells) l.row-iterator;
  there : AllByRecursion (HasRow (g.C.Lines.has_line l.cells)) l.row-iterator;
}
