use Rattle.std.specs.Prelude.{◌+◌, ◌-◌}
use Rattle.gf2_eliminate.proofs.Covering.{AreAdded}
use Rattle.gf2_eliminate.proofs.cover.include_new_columns.Given as goal

abbrev pub invariant-loop-row : goal.invariant-loop-row
invariant-loop-row l = AreAdded l.pattern l.column l.store l.initial.columns l.columns l.from

abbrev pub decreases-loop-row : goal.decreases-loop-row
decreases-loop-row l = l.pattern.rows + 1 - l.from
