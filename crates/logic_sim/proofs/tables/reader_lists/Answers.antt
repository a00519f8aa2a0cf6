use Rattle.std.proofs.Common.{ℕ, ◌<◌, All, List, length, sym, subst}
use Rattle.logic_sim.proofs.Readers.{ListsReaders-none, ListsReaders-earlier, ListsReaders-more, wired_watched}
use Rattle.logic_sim.proofs.tables.reader_lists.Goals as goal

pub loop-number-init : goal.loop-number-init
loop-number-init c = rw c.in_ok-table.ensures (ListsReaders-none c.args.signals.now)

pub add_reader-requires : goal.add_reader-requires
add_reader-requires c = record {
  in_range = subst (λ (n : ℕ). All (λ number. number < n) c.watched_by.result.now) (sym c.loop-number.invariant.count)
      (subst (λ (watched : List ℕ). All (λ number. number < length c.args.signals.now) watched) (sym c.watched_by.ensures)
      (wired_watched c.args.signals.now c.loop-number.number c.index-signals-number.result c.requires.wired c.loop-number-test.true c.index-signals-number.is));
  earlier = ListsReaders-earlier c.args.signals.now c.loop-number.number c.loop-number.table.items c.loop-number.invariant;
}

pub loop-number-preserved : goal.loop-number-preserved
loop-number-preserved c =
    ListsReaders-more c.args.signals.now c.loop-number.number c.index-signals-number.result c.watched_by.result.now c.loop-number.table.items c.add_reader.new.table.items c.loop-number-test.true c.index-signals-number.is
    (sym c.watched_by.ensures) c.loop-number.invariant c.in_ok-add_reader.ensures
