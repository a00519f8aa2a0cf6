use Rattle.std.proofs.Common.{◌<◌, length, arith}
use Rattle.std.specs.Prelude.{slice_index_or}
use Rattle.plain_laws.specs.Lists.{All-found}
use Rattle.app_laws.specs.Applications.{IsFitTask}
use Rattle.resting_rounds.specs.Waiting.{tasks_of}
use Rattle.resting_rounds.proofs.Gathering.{one_core_more, task_at}
use Rattle.resting_rounds.proofs.Meetings.{in_range}
use Rattle.resting_rounds.proofs.front.gather_cores.Goals as goal

pub core-core-requires : goal.core-core-requires
core-core-requires g c =
    let app = g.A.App.meaning c.args.app.now in
    let waiting = c.args.waiting.now in
    let count = c.loop-cores.cores.count in
    let task = (slice_index_or waiting count c.index-waiting-cores.result).task.now in
    let below : count < length waiting = omega arith in
    (task.key.prio, All-found (IsFitTask app) (tasks_of waiting) count task c.requires.fit (task_at waiting count c.index-waiting-cores.result below))

pub put-requires : goal.put-requires
put-requires g c =
    let app = g.A.App.meaning c.args.app.now in
    let waiting = c.args.waiting.now in
    let count = c.loop-cores.cores.count in
    let task = (slice_index_or waiting count c.index-waiting-cores.result).task.now in
    let below : count < length waiting = omega arith in
    let fit = All-found (IsFitTask app) (tasks_of waiting) count task c.requires.fit (task_at waiting count c.index-waiting-cores.result below) in
    in_range app (c.basis.ensures c.args.app.now) c.requires.some_cells.0 c.requires.some_cells.1 task fit c.core-core.result (c.core-core.ensures c.requires.some_cells.0 c.requires.some_cells.1)

pub loop-cores-preserved : goal.loop-cores-preserved
loop-cores-preserved g c =
    let app = g.A.App.meaning c.args.app.now in
    let waiting = c.args.waiting.now in
    let old = c.loop-cores.cores in
    let task = (slice_index_or waiting old.count c.index-waiting-cores.result).task.now in
    let below : old.count < length waiting = omega arith in
    one_core_more app (g.A.Resting.covers c.args.app.now) (tasks_of waiting) c.args.place old c.put.new.cover task c.core-core.result c.loop-cores.invariant c.loop-cores-test.true
    (task_at waiting old.count c.index-waiting-cores.result below) c.core-core.ensures c.in_ok-put.ensures
