use Rattle.std.proofs.Common.{◌≡◌, ◌+◌, ◌-◌, ◌≤◌, true, List, [], ℕ}
use Rattle.source_pool.specs.Legs.{BeginsAtRest, GoesOnFrom}
use Rattle.text_outlet.specs.Sending.{TellsMore}
use Rattle.source_pool.proofs.rounds.counted_rounds.Given as goal

abbrev pub ghost-play_leg : goal.ghost-play_leg
ghost-play_leg g a = a.engine.now.progress

abbrev pub invariant-loop-steps : goal.invariant-loop-steps
invariant-loop-steps g l = record {
  app : l.engine.app ≡ l.fn.engine.app;
  rest : BeginsAtRest (g.A.App.meaning l.fn.engine.app) l.engine.progress;
  goes_on : (told : List ℕ) × TellsMore g.K.Sink.contents g.K.Sink.faults l.fn.outlet l.fn.out l.outlet l.out told × GoesOnFrom (g.A.App.meaning l.fn.engine.app) g.start told l.rounds l.engine.progress;
  none_left : l.outlet.has_failed ≡ true → l.engine.progress.log ≡ [];
  few : l.rounds + g.start.ended ≤ l.engine.progress.ended;
  room : g.K.Sink.room l.out ≡ g.K.Sink.room l.fn.out;
  partners : l.lists.partners ≡ l.fn.lists.partners;
}

abbrev pub decreases-loop-steps : goal.decreases-loop-steps
decreases-loop-steps g l = l.engine.progress.limit - l.engine.progress.ended
