use Rattle.cell_store.proofs.Exchanges.{Exchanging}
use Rattle.cell_store.proofs.exchange.exchange_many.Given as goal

abbrev pub invariant-loop-i : goal.invariant-loop-i
invariant-loop-i g l = Exchanging l.fn.home l.set l.fn.held l.i l.home l.held
