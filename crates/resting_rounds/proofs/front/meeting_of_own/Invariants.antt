use Rattle.std.proofs.Common.{◌≡◌, ◌-◌, ◌&&◌, ℕ, false, IsTrue}
use Rattle.std.specs.Prelude.{IfSome, IfNone}
use Rattle.cell_store.specs.Values.{values_of}
use Rattle.resting_rounds.specs.Front.{IsFront}
use Rattle.resting_rounds.specs.Waiting.{tasks_of}
use Rattle.resting_rounds.proofs.front.meeting_of_own.Given as goal

abbrev pub invariant-loop-met : goal.invariant-loop-met
invariant-loop-met g l = record {
  front : IsFront (g.A.App.meaning l.app) (g.A.Resting.covers l.app) (values_of l.store) (tasks_of l.waiting) l.place l.front;
  own : l.front.own ≡ l.fn.front.own;
  both : IfSome l.met (λ loc. IsTrue (g.A.Resting.covers l.app l.front.own loc && g.A.Resting.covers l.app l.front.sets.cover loc));
  none : IfNone l.met ((loc : ℕ) → IsTrue (g.A.Resting.covers l.app l.front.own loc) → g.A.Resting.covers l.app l.front.sets.cover loc ≡ false);
}

abbrev pub decreases-loop-met : goal.decreases-loop-met
decreases-loop-met g l = l.place - l.front.sets.count
