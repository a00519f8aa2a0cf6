use Rattle.cell_store.specs.Values.{values_of}
use Rattle.resting_rounds.specs.Waiting.{state_in, tasks_of}
use Rattle.resting_rounds.proofs.looking.look.Goals as goal

pub loop-place-init : goal.loop-place-init
loop-place-init g c = record {
  front = c.restart.ensures (values_of c.args.store.now) (tasks_of c.args.waiting.now);
  found = c.forget.ensures (state_in c.args.store.now c.args.waiting.now);
}
