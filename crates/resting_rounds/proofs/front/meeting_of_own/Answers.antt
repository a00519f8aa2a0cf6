use Rattle.std.proofs.Common.{◌<◌, length, arith, subst, sym}
use Rattle.std.specs.Prelude.{slice_index_or, take}
use Rattle.plain_laws.specs.Lists.{All-take, All-found}
use Rattle.cell_store.specs.Values.{values_of}
use Rattle.app_laws.specs.Applications.{IsFitTask}
use Rattle.resting_rounds.specs.Sets.{HasSet}
use Rattle.resting_rounds.specs.Waiting.{tasks_of}
use Rattle.resting_rounds.proofs.Gathering.{not_none, one_set_more, own_tells, task_at}
use Rattle.resting_rounds.proofs.front.meeting_of_own.Goals as goal

pub gather-requires-clause-fit : goal.gather-requires-clause-fit
gather-requires-clause-fit g c =
    let app = g.A.App.meaning c.args.app.now in
    let waiting = c.args.waiting.now in
    let count = c.loop-met.front.sets.count in
    let task = (slice_index_or waiting count c.index-waiting-front.result).task.now in
    let below : count < length waiting = omega arith in
    (task.key.prio, All-found (IsFitTask app) (tasks_of waiting) count task c.requires.fit (task_at waiting count c.index-waiting-front.result below))

pub gather-requires-clause-others : goal.gather-requires-clause-others
gather-requires-clause-others g c =
    let tasks = tasks_of c.args.waiting.now in
    let count = c.loop-met.front.sets.count in
    (take count tasks, All-take (IsFitTask (g.A.App.meaning c.args.app.now)) count tasks c.requires.fit, c.loop-met.invariant.front.sets.sets)

pub loop-met-preserved : goal.loop-met-preserved
loop-met-preserved g c =
    let app = g.A.App.meaning c.args.app.now in
    let waiting = c.args.waiting.now in
    let old = c.loop-met.front.sets in
    let task = (slice_index_or waiting old.count c.index-waiting-front.result).task.now in
    let below : old.count < length waiting = omega arith in
    record {
      front = record {
        sets = one_set_more app (g.A.Resting.covers c.args.app.now) (tasks_of waiting) c.args.place (values_of c.args.store.now) old c.gather.new.cover task c.loop-met.invariant.front.sets c.if-front-place.true
            (task_at waiting old.count c.index-waiting-front.result below) c.in_ok-gather.ensures;
        cores = c.loop-met.invariant.front.cores;
      };
      own = c.loop-met.invariant.own;
      both = c.shared-met-in-loop-met.ensures.both;
      none = c.shared-met-in-loop-met.ensures.none;
    }

pub returns-after-loop-met-clause-answer : goal.returns-after-loop-met-clause-answer
returns-after-loop-met-clause-answer g c = λ task own.
    let app = g.A.App.meaning c.args.app.now in
    let covers = g.A.Resting.covers c.args.app.now in
    let cells = values_of c.args.store.now in
    own_tells app covers (tasks_of c.args.waiting.now) c.args.place cells c.loop-met.front.sets c.loop-met.front.own task c.loop-met.met c.loop-met.invariant.front.sets
    (subst (λ cover. HasSet app (covers cover) cells task) (sym c.loop-met.invariant.own) own) c.loop-met.invariant.both c.loop-met.invariant.none
    (λ none. absurd (not_none c.loop-met.met c.loop-met-test.ensures none))
