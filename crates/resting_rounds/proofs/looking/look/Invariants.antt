use Rattle.cell_store.specs.Values.{values_of}
use Rattle.resting_rounds.specs.Found.{IsFound}
use Rattle.resting_rounds.specs.Front.{IsFront}
use Rattle.resting_rounds.specs.Waiting.{first_tasks, state_in, tasks_of}
use Rattle.resting_rounds.proofs.looking.look.Given as goal

abbrev pub invariant-loop-place : goal.invariant-loop-place
invariant-loop-place g l = record {
  front : IsFront (g.A.App.meaning l.app) (g.A.Resting.covers l.app) (values_of l.store) (tasks_of l.waiting) l.place l.front;
  found : IsFound (g.A.App.meaning l.app) (g.A.Resting.covers l.app) (state_in l.store l.waiting) (first_tasks l.place l.waiting) l.found;
}
