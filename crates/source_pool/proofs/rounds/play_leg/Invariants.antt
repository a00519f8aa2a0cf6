use Rattle.std.proofs.Common.{◌≡◌, ◌+◌, ◌-◌, ◌≤◌}
use Rattle.source_pool.specs.Runs.{state_at_rest}
use Rattle.source_pool.specs.Streams.{IsOnLeg}
use Rattle.text_outlet.specs.Sending.{TellsMore}
use Rattle.source_pool.proofs.rounds.play_leg.Given as goal

abbrev pub ghost-play_round : goal.ghost-play_round
ghost-play_round g a = record { start = g.start; state = state_at_rest a.engine.now.progress; text = a.outlet.now.told }

abbrev pub invariant-loop-engine : goal.invariant-loop-engine
invariant-loop-engine g l = record {
  app : l.engine.app ≡ l.fn.engine.app;
  leg : IsOnLeg (g.A.App.meaning l.fn.engine.app) g.start l.outlet.has_failed l.rounds l.engine.progress l.outlet.told;
  few : g.start.ended + l.rounds ≤ l.engine.progress.ended;
  tells : TellsMore g.K.Sink.contents g.K.Sink.faults l.fn.outlet l.fn.out l.outlet l.out l.outlet.told;
  room : g.K.Sink.room l.out ≡ g.K.Sink.room l.fn.out;
  partners : l.lists.partners ≡ l.fn.lists.partners;
}

abbrev pub decreases-loop-engine : goal.decreases-loop-engine
decreases-loop-engine g l = l.engine.progress.limit - l.engine.progress.ended
