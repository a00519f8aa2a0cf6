use Rattle.std.proofs.Common.{◌≡◌}
use Rattle.work_desk.proofs.servers.Servers.serve.Given as goal

abbrev pub invariant-loop : goal.invariant-loop
invariant-loop g l = l.servers ≡ l.fn.self
