use Rattle.std.proofs.Common.{◌∙◌, List, ◌++◌, Option, sym, subst, ap}
use Rattle.graph_update.specs.Engine.{EngineState}
use Rattle.run_laws.specs.Jobs.{Job}
use Rattle.free_pool.specs.Acted.{jobs_stuck, keys_acted}
use Rattle.free_pool.specs.declared.acting.Stuck.{Stuck}
use Rattle.free_pool.specs.Turns.{MayEnd, jobs_left, keys_ended}
use Rattle.free_pool.proofs.InTurn.{jobs_after, may_end, same_number, same_unjoined, still_seated, turn_found, turn_jobs}
use Rattle.free_pool.proofs.turns.take_turn.Goals as goal

pub work_in_turn-stuck-requires-clause-may_end : goal.work_in_turn-stuck-requires-clause-may_end
work_in_turn-stuck-requires-clause-may_end g c κs within =
    subst (λ (e : EngineState g.row.A.Denot g.row.A-Val.Denot). MayEnd (g.A.App.meaning e.app) e.progress c.args.hand.now.dones.items) (sym c.engine.ensures.value)
    (may_end c.args.hall.now c.args.seat c.enter-turn.result c.requires.seated c.enter-turn.ensures c.args.hand.now.dones.items c.requires.done)

pub returns-clause-seated : goal.returns-clause-seated
returns-clause-seated g c =
    let turn = c.enter-turn.result in
    let ended = c.work_in_turn-stuck.result.0.ended in
    let engine = c.work_in_turn-stuck.new.engine in
    let hand = c.work_in_turn-stuck.new.hand in
    let jobs = jobs_stuck c.work_in_turn-stuck.result.1 ++ jobs_left turn.view.jobs ended hand.jobs.items in
    let keys = keys_ended turn.view.jobs ended ++ keys_acted hand.acted.items in
    let found = turn_found c.args.hall.now c.args.seat turn c.requires.seated c.enter-turn.ensures in
    still_seated c.args.hall.now c.args.seat turn c.requires.seated c.enter-turn.ensures engine jobs keys c.leave_as.result
    c.leave_as.ensures.hall (c.leave_as.ensures.view turn.engine found)

pub returns-clause-number : goal.returns-clause-number
returns-clause-number g c =
    let turn = c.enter-turn.result in
    let ended = c.work_in_turn-stuck.result.0.ended in
    let engine = c.work_in_turn-stuck.new.engine in
    let hand = c.work_in_turn-stuck.new.hand in
    let jobs = jobs_stuck c.work_in_turn-stuck.result.1 ++ jobs_left turn.view.jobs ended hand.jobs.items in
    let keys = keys_ended turn.view.jobs ended ++ keys_acted hand.acted.items in
    let found = turn_found c.args.hall.now c.args.seat turn c.requires.seated c.enter-turn.ensures in
    same_number c.args.hall.now c.args.seat turn c.requires.seated c.enter-turn.ensures engine jobs keys c.leave_as.result
    c.leave_as.ensures.hall (c.leave_as.ensures.view turn.engine found)

pub returns-clause-unjoined : goal.returns-clause-unjoined
returns-clause-unjoined g c =
    let turn = c.enter-turn.result in
    let ended = c.work_in_turn-stuck.result.0.ended in
    let engine = c.work_in_turn-stuck.new.engine in
    let hand = c.work_in_turn-stuck.new.hand in
    let jobs = jobs_stuck c.work_in_turn-stuck.result.1 ++ jobs_left turn.view.jobs ended hand.jobs.items in
    let keys = keys_ended turn.view.jobs ended ++ keys_acted hand.acted.items in
    let found = turn_found c.args.hall.now c.args.seat turn c.requires.seated c.enter-turn.ensures in
    same_unjoined c.args.hall.now c.args.seat turn c.requires.seated c.enter-turn.ensures engine jobs keys c.leave_as.result
    c.leave_as.ensures.hall (c.leave_as.ensures.view turn.engine found)

pub returns-clause-jobs : goal.returns-clause-jobs
returns-clause-jobs g c on =
    let turn = c.enter-turn.result in
    let ended = c.work_in_turn-stuck.result.0.ended in
    let engine = c.work_in_turn-stuck.new.engine in
    let hand = c.work_in_turn-stuck.new.hand in
    let jobs = jobs_stuck c.work_in_turn-stuck.result.1 ++ jobs_left turn.view.jobs ended hand.jobs.items in
    let keys = keys_ended turn.view.jobs ended ++ keys_acted hand.acted.items in
    let found = turn_found c.args.hall.now c.args.seat turn c.requires.seated c.enter-turn.ensures in
    jobs_after c.args.hall.now c.args.seat turn c.requires.seated c.enter-turn.ensures engine jobs keys c.leave_as.result
    c.leave_as.ensures.hall (c.leave_as.ensures.view turn.engine found)
    ∙ ap (λ (stuck : Option (Stuck (EngineState g.row.A.Denot g.row.A-Val.Denot))). jobs_stuck stuck ++ jobs_left turn.view.jobs ended hand.jobs.items) (c.work_in_turn-stuck.ensures.goes_on on)
    ∙ ap (λ (jobs : List (Job g.row.A-Val.Denot)). jobs_left jobs ended hand.jobs.items) (turn_jobs c.args.hall.now c.args.seat turn c.requires.seated c.enter-turn.ensures)
