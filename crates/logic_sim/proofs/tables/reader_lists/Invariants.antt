use Rattle.logic_sim.specs.Tables.{ListsReaders}
use Rattle.logic_sim.proofs.tables.reader_lists.Given as goal

-- the gates so far are listed
abbrev pub invariant-loop-number : goal.invariant-loop-number
invariant-loop-number l = ListsReaders l.signals l.number l.table.items
