use Rattle.std.proofs.Common.{◌≡◌, Some, subst, sym}
use Rattle.std.specs.Prelude.{slice_get, IfNone}
use Rattle.task_order.specs.declared.task.Task.{Task}
use Rattle.cell_store.specs.Values.{values_of}
use Rattle.resting_rounds.specs.declared.waiting.Waiting.{Waiting}
use Rattle.resting_rounds.specs.Sets.{HasSet, IsMeeting}
use Rattle.resting_rounds.specs.Waiting.{first_tasks, state_in, tasks_of}
use Rattle.resting_rounds.proofs.Finding.{meeting_clear, meeting_rests, same_there}
use Rattle.resting_rounds.proofs.Gathering.{task_at}
use Rattle.resting_rounds.proofs.looking.resting_at.Goals as goal

pub meeting-requires-clause-there : goal.meeting-requires-clause-there
meeting-requires-clause-there g c κs within =
    let waiting = c.args.waiting.now in
    let one = c.index-waiting-place.result in
    subst (λ (w : Waiting). slice_get (tasks_of waiting) c.args.place ≡ Some w.task.now) (sym c.index-waiting-place.is) (task_at waiting c.args.place one c.requires.within)

pub returns-clause-rests : goal.returns-clause-rests
returns-clause-rests g c = λ task there.
    let app = g.A.App.meaning c.args.app.now in
    let waiting = c.args.waiting.now in
    let one = c.index-waiting-place.result in
    let here = subst (λ (w : Waiting). slice_get (tasks_of waiting) c.args.place ≡ Some w.task.now) (sym c.index-waiting-place.is) (task_at waiting c.args.place one c.requires.within) in
    let same = same_there (tasks_of waiting) c.args.place one.task.now task here there in
    meeting_rests app (c.basis.ensures c.args.app.now) (state_in c.args.store.now waiting) c.requires.ready c.args.place task there c.in_ok-met.met
    (subst (λ (t : Task). IsMeeting app (values_of c.args.store.now) (first_tasks c.args.place waiting) t c.in_ok-met.met) same c.in_ok-met.ensures.answer)

pub returns-clause-clear : goal.returns-clause-clear
returns-clause-clear g c = λ task there.
    let app = g.A.App.meaning c.args.app.now in
    let waiting = c.args.waiting.now in
    let one = c.index-waiting-place.result in
    let here = subst (λ (w : Waiting). slice_get (tasks_of waiting) c.args.place ≡ Some w.task.now) (sym c.index-waiting-place.is) (task_at waiting c.args.place one c.requires.within) in
    let same = same_there (tasks_of waiting) c.args.place one.task.now task here there in
    meeting_clear app (c.basis.ensures c.args.app.now) (state_in c.args.store.now waiting) c.requires.ready c.args.place task there c.in_ok-met.met
    (subst (λ (t : Task). IsMeeting app (values_of c.args.store.now) (first_tasks c.args.place waiting) t c.in_ok-met.met) same c.in_ok-met.ensures.answer)

pub returns-clause-own : goal.returns-clause-own
returns-clause-own g c = λ task there.
    let app = g.A.App.meaning c.args.app.now in
    let waiting = c.args.waiting.now in
    let one = c.index-waiting-place.result in
    let here = subst (λ (w : Waiting). slice_get (tasks_of waiting) c.args.place ≡ Some w.task.now) (sym c.index-waiting-place.is) (task_at waiting c.args.place one c.requires.within) in
    let same = same_there (tasks_of waiting) c.args.place one.task.now task here there in
    subst (λ (t : Task). IfNone c.in_ok-met.met (HasSet app (g.A.Resting.covers c.args.app.now c.meeting.new.front.own) (values_of c.args.store.now) t)) same c.in_ok-met.ensures.own
