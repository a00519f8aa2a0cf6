use Rattle.std.proofs.Common.{◌∙◌, List, ◌++◌, Option, sym, subst, ap}
use Rattle.std.specs.Prelude.{IfOk}
use Rattle.graph_update.specs.Engine.{EngineState}
use Rattle.run_laws.specs.Jobs.{Job}
use Rattle.free_pool.specs.Acted.{jobs_stuck, keys_acted}
use Rattle.free_pool.specs.declared.acting.Stuck.{Stuck}
use Rattle.free_pool.specs.Streams.{HasDrainedAt}
use Rattle.free_pool.specs.Turns.{AreDone, MayEnd, jobs_left, keys_ended}
use Rattle.free_pool.proofs.InTurn.{done_in_turn, jobs_after, may_end, same_number, same_unjoined, still_seated, turn_found, turn_jobs}
use Rattle.free_pool.proofs.LeadInTurn.{TellingLaws, told_where}
use Rattle.free_pool.proofs.lead_turn.take_lead_turn.Goals as goal

pub work_and_drain-turned-requires-clause-may_end : goal.work_and_drain-turned-requires-clause-may_end
work_and_drain-turned-requires-clause-may_end g c κs within =
    subst (λ (e : EngineState g.row.A.Denot g.row.A-Val.Denot). MayEnd (g.A.App.meaning e.app) e.progress c.args.hand.now.dones.items) (sym c.engine.ensures.value)
    (may_end c.args.hall.now c.args.seat c.enter-turn.result c.requires.seated c.enter-turn.ensures c.args.hand.now.dones.items c.requires.done)

pub returns-clause-seated : goal.returns-clause-seated
returns-clause-seated g c =
    let turn = c.enter-turn.result in
    let works = c.work_and_drain-turned in
    let ended = works.result.0.turned.ended in
    let engine = works.new.engine in
    let hand = works.new.hand in
    let jobs = jobs_stuck works.result.1 ++ jobs_left turn.view.jobs ended hand.jobs.items in
    let keys = keys_ended turn.view.jobs ended ++ keys_acted hand.acted.items in
    let found = turn_found c.args.hall.now c.args.seat turn c.requires.seated c.enter-turn.ensures in
    still_seated c.args.hall.now c.args.seat turn c.requires.seated c.enter-turn.ensures engine jobs keys c.leave_as.result
    c.leave_as.ensures.hall (c.leave_as.ensures.view turn.engine found)

pub returns-clause-number : goal.returns-clause-number
returns-clause-number g c =
    let turn = c.enter-turn.result in
    let works = c.work_and_drain-turned in
    let ended = works.result.0.turned.ended in
    let engine = works.new.engine in
    let hand = works.new.hand in
    let jobs = jobs_stuck works.result.1 ++ jobs_left turn.view.jobs ended hand.jobs.items in
    let keys = keys_ended turn.view.jobs ended ++ keys_acted hand.acted.items in
    let found = turn_found c.args.hall.now c.args.seat turn c.requires.seated c.enter-turn.ensures in
    same_number c.args.hall.now c.args.seat turn c.requires.seated c.enter-turn.ensures engine jobs keys c.leave_as.result
    c.leave_as.ensures.hall (c.leave_as.ensures.view turn.engine found)

pub returns-clause-unjoined : goal.returns-clause-unjoined
returns-clause-unjoined g c =
    let turn = c.enter-turn.result in
    let works = c.work_and_drain-turned in
    let ended = works.result.0.turned.ended in
    let engine = works.new.engine in
    let hand = works.new.hand in
    let jobs = jobs_stuck works.result.1 ++ jobs_left turn.view.jobs ended hand.jobs.items in
    let keys = keys_ended turn.view.jobs ended ++ keys_acted hand.acted.items in
    let found = turn_found c.args.hall.now c.args.seat turn c.requires.seated c.enter-turn.ensures in
    same_unjoined c.args.hall.now c.args.seat turn c.requires.seated c.enter-turn.ensures engine jobs keys c.leave_as.result
    c.leave_as.ensures.hall (c.leave_as.ensures.view turn.engine found)

pub returns-clause-jobs : goal.returns-clause-jobs
returns-clause-jobs g c on =
    let turn = c.enter-turn.result in
    let works = c.work_and_drain-turned in
    let ended = works.result.0.turned.ended in
    let engine = works.new.engine in
    let hand = works.new.hand in
    let jobs = jobs_stuck works.result.1 ++ jobs_left turn.view.jobs ended hand.jobs.items in
    let keys = keys_ended turn.view.jobs ended ++ keys_acted hand.acted.items in
    let found = turn_found c.args.hall.now c.args.seat turn c.requires.seated c.enter-turn.ensures in
    jobs_after c.args.hall.now c.args.seat turn c.requires.seated c.enter-turn.ensures engine jobs keys c.leave_as.result
    c.leave_as.ensures.hall (c.leave_as.ensures.view turn.engine found)
    ∙ ap (λ (stuck : Option (Stuck (EngineState g.row.A.Denot g.row.A-Val.Denot))). jobs_stuck stuck ++ jobs_left turn.view.jobs ended hand.jobs.items) (works.ensures.goes_on on)
    ∙ ap (λ (jobs : List (Job g.row.A-Val.Denot)). jobs_left jobs ended hand.jobs.items) (turn_jobs c.args.hall.now c.args.seat turn c.requires.seated c.enter-turn.ensures)

pub returns-clause-told : goal.returns-clause-told
returns-clause-told g c =
    let hall = c.args.hall.now in
    let own = hall.origin.app in
    let dones = c.args.hand.now.dones.items in
    let turn = c.enter-turn.result in
    let works = c.work_and_drain-turned in
    let ended = works.result.0.turned.ended in
    let engine = works.new.engine in
    let hand = works.new.hand in
    let jobs = jobs_stuck works.result.1 ++ jobs_left turn.view.jobs ended hand.jobs.items in
    let keys = keys_ended turn.view.jobs ended ++ keys_acted hand.acted.items in
    let found = turn_found c.args.hall.now c.args.seat turn c.requires.seated c.enter-turn.ensures in
    let more = works.result.0.more in
    let laws : TellingLaws (g.A.App.meaning own) = record {
      lengths = c.join_laws.ensures.length;
      texts = c.part_laws.ensures.texts;
      first = c.drained_laws.ensures own;
      drains = c.course_drain_laws.ensures.drains own;
      moves = c.continuing_laws.ensures.moves own;
    } in
    let drained = subst
    (λ (e : EngineState g.row.A.Denot g.row.A-Val.Denot). (had : List (Job g.row.A-Val.Denot)) → AreDone (g.A.App.meaning e.app) had dones
    → IfOk more (HasDrainedAt (g.A.App.meaning e.app) e.progress had engine.progress (jobs_stuck works.result.1 ++ jobs_left had ended hand.jobs.items) (keys_ended had ended ++ keys_acted hand.acted.items)))
    c.engine.ensures.value works.ensures.drained in
    told_where hall c.args.seat turn c.requires.seated c.enter-turn.ensures c.requires.first laws c.requires.tellable engine jobs keys c.leave_as.result
    (c.leave_as.ensures.view turn.engine found) more (drained turn.view.jobs (done_in_turn hall c.args.seat turn c.requires.seated c.enter-turn.ensures dones c.requires.done))
