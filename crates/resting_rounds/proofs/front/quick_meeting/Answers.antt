use Rattle.std.proofs.Common.{arith, sym, ◌∙◌}
use Rattle.std.proofs.lemmas.Option.{slice_get_within}
use Rattle.plain_laws.specs.Lists.{All-found}
use Rattle.cell_store.specs.Values.{values_of}
use Rattle.app_laws.specs.Applications.{IsFitTask}
use Rattle.resting_rounds.specs.Waiting.{tasks_of}
use Rattle.resting_rounds.proofs.Gathering.{as_many_tasks, cores_tell, gathered_tells}
use Rattle.resting_rounds.proofs.front.quick_meeting.Goals as goal

pub returns-then-has-clause-met : goal.returns-then-has-clause-met
returns-then-has-clause-met g c =
    let cells = values_of c.args.store.now in
    gathered_tells (g.A.App.meaning c.args.app.now) (g.A.Resting.covers c.args.app.now) (tasks_of c.args.waiting.now) c.args.place cells c.args.front.now.sets c.args.task.now c.core-core.result
    c.requires.front.sets (c.core-core.ensures cells c.requires.cells) (sym c.has.ensures ∙ c.if-has.true)

pub gather_cores-requires-clause-within : goal.gather_cores-requires-clause-within
gather_cores-requires-clause-within g c =
    let below = slice_get_within (tasks_of c.args.waiting.now) c.args.place c.args.task.now c.requires.there in
    let many = as_many_tasks c.args.waiting.now in
    omega (arith, below, many)

pub common-requires-clause-fit : goal.common-requires-clause-fit
common-requires-clause-fit g c =
    (c.args.task.now.key.prio, All-found (IsFitTask (g.A.App.meaning c.args.app.now)) (tasks_of c.args.waiting.now) c.args.place c.args.task.now c.requires.fit c.requires.there)

pub returns-clause-met : goal.returns-clause-met
returns-clause-met g c =
    cores_tell (g.A.App.meaning c.args.app.now) (g.A.Resting.covers c.args.app.now) (tasks_of c.args.waiting.now) c.args.place (values_of c.args.store.now) c.gather_cores.new.cores c.args.task.now c.common.result
    c.requires.cells c.in_ok-gather_cores.ensures c.common.ensures.in_set c.common.ensures.in_cover
