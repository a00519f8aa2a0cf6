use Rattle.std.proofs.Common.{◌≡◌, length}
use Rattle.mtx_reader.proofs.Settling.{IsSettledTo}
use Rattle.mtx_reader.proofs.pattern.keep_odd.Given as goal

abbrev pub invariant-loop-next : goal.invariant-loop-next
invariant-loop-next l = record {
  to_the_end : l.next-end ≡ length l.fn.places.items;
  settled : IsSettledTo l.fn.places.items l.places.items l.kept l.next;
}
