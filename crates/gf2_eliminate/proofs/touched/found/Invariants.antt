use Rattle.std.specs.Prelude.{◌≡◌, ◌+◌, ◌-◌, ◌||◌, ◌==◌, ℕ, take}
use Rattle.std.specs.List.{list_any}
use Rattle.std.specs.Ordering.{nat_cmp}
use Rattle.mtx_reader.specs.Ascending.{IsAscendingBy}
use Rattle.gf2_eliminate.specs.Lines.{has}
use Rattle.gf2_eliminate.specs.Touched.{ones_at}
use Rattle.gf2_eliminate.proofs.touched.found.Given as goal

abbrev pub invariant-loop-row : goal.invariant-loop-row
invariant-loop-row l = record {
  ascending : IsAscendingBy nat_cmp l.found;
  each : (n : ℕ) → has l.found n ≡ (l.column + 1 == n || list_any (λ row. has (ones_at l.store (row - 1)) n) (take l.row-index l.rows));
}
