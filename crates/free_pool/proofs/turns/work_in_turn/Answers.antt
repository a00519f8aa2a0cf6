use Rattle.std.proofs.Common.{◌≤◌, ◌<◌, [], length, inl, sym, subst, arith}
use Rattle.std.specs.List.{AllByRecursion}
use Rattle.crew.specs.Jobs.{MayRun}
use Rattle.run_laws.specs.Moves.{Moved}
use Rattle.free_pool.specs.Turns.{IsAnswer, jobs_left}
use Rattle.free_pool.proofs.EndsInTurn.{no_act, then_claimed, unacted}
use Rattle.free_pool.proofs.turns.work_in_turn.Goals as goal

pub returns-then-ended-performed-clause-moved : goal.returns-then-ended-performed-clause-moved
returns-then-ended-performed-clause-moved g c had are =
    let old = c.args.engine.now in
    let ends = c.end_tasks-ended in
    unacted (g.A.App.meaning old.app) old.progress ends.new.engine.progress had ends.result c.clear.new.self.items c.clear-2.new.self.items c.clear.ensures.items c.clear-2.ensures.items (ends.ensures.moved had are)

pub returns-then-ended-performed-clause-may_run : goal.returns-then-ended-performed-clause-may_run
returns-then-ended-performed-clause-may_run g c =
    subst (AllByRecursion (MayRun (g.A.App.meaning c.args.engine.now.app))) (sym c.clear.ensures.items) tt

pub returns-then-ended-performed-clause-answer : goal.returns-then-ended-performed-clause-answer
returns-then-ended-performed-clause-answer g c =
    let fewer : c.end_tasks-ended.result < length c.args.hand.now.dones.items = omega (arith, c.if-ended-performed.true, c.len-performed.ensures, c.args.hand.now.dones.ok.0) in
    inl (c.end_tasks-ended.ensures.refused fewer)

pub returns-clause-moved : goal.returns-clause-moved
returns-clause-moved g c had are =
    let old = c.args.engine.now in
    let ends = c.end_tasks-ended in
    let claims = c.claim_tasks-next in
    let long : length c.args.hand.now.dones.items ≤ ends.result = omega (arith, c.if-ended-performed.false, c.len-performed.ensures, c.args.hand.now.dones.ok.0) in
    let two = subst (λ (app : g.row.A.Denot). Moved (g.A.App.meaning app) ends.new.engine.progress [] claims.new.engine.progress claims.new.jobs.items []) ends.ensures.app claims.ensures.moved in
    no_act (g.A.App.meaning old.app) old.progress claims.new.engine.progress had (jobs_left had ends.result claims.new.jobs.items) ends.result c.clear-2.new.self.items c.clear-2.ensures.items
    (then_claimed (g.A.App.meaning old.app) (c.move_laws.ensures.follow old.app) old.progress ends.new.engine.progress claims.new.engine.progress had claims.new.jobs.items c.args.hand.now.dones.items ends.result are long
    (ends.ensures.moved had are) two)

pub returns-clause-may_run : goal.returns-clause-may_run
returns-clause-may_run g c =
    let jobs = c.claim_tasks-next.new.jobs.items in
    subst (λ (app : g.row.A.Denot). AllByRecursion (MayRun (g.A.App.meaning app)) jobs) c.end_tasks-ended.ensures.app c.claim_tasks-next.ensures.may_run

pub returns-clause-answer : goal.returns-clause-answer
returns-clause-answer g c =
    let claims = c.claim_tasks-next in
    subst (λ (app : g.row.A.Denot). IsAnswer (g.A.App.meaning app) claims.new.engine.progress claims.result) c.end_tasks-ended.ensures.app claims.ensures.answer

pub returns-clause-all : goal.returns-clause-all
returns-clause-all g c on =
    omega (arith, c.if-ended-performed.false, c.len-performed.ensures, c.args.hand.now.dones.ok.0, c.end_tasks-ended.ensures.within)

pub returns-clause-none : goal.returns-clause-none
returns-clause-none g c on =
    c.end_tasks-ended.ensures.all (omega (arith, c.if-ended-performed.false, c.len-performed.ensures, c.args.hand.now.dones.ok.0, c.end_tasks-ended.ensures.within))
