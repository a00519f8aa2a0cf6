use Rattle.std.proofs.Common.{◌≡◌}
use Rattle.free_pool.proofs.Leading.{IsLeading}
use Rattle.free_pool.proofs.lead.work_counted.Given as goal

abbrev pub invariant-loop : goal.invariant-loop
invariant-loop g l = record {
  leading : IsLeading g.A.App.meaning g.K.Sink.contents g.K.Sink.faults l.fn.post.hall.now l.fn.post.seat l.fn.outlet l.fn.out l.seat l.hand.dones.items l.outlet l.out;
  room : g.K.Sink.room l.out ≡ g.K.Sink.room l.fn.out;
}
