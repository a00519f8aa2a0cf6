use Rattle.std.proofs.Common.{◌≡◌, ◌-◌, ◌^◌, min, length, sum_by, take}
use Rattle.source_pool.proofs.performing.cells_in.Given as goal

abbrev pub invariant-loop-number : goal.invariant-loop-number
invariant-loop-number g l = l.cells ≡ min (sum_by (λ job. length job.bundle.set) (take l.number l.jobs.items)) (2 ^ 64 - 1)
