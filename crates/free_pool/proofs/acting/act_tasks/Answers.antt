use Rattle.std.proofs.Common.{◌∙◌, subst}
use Rattle.free_pool.specs.Acted.{IsAct}
use Rattle.free_pool.specs.declared.acting.Act.TheVariants as act
use Rattle.free_pool.proofs.ActsInTurn.{one_acted, then_none, then_stuck}
use Rattle.free_pool.proofs.acting.act_tasks.Goals as goal

pub returns-in-None-clause-moved : goal.returns-in-None-clause-moved
returns-in-None-clause-moved g c =
    let start = c.args.engine.now in
    let old = c.loop.engine.progress in
    let now = c.act_next.new.engine.progress in
    let more = c.act_next.new.acted.items in
    then_none (g.A.App.meaning start.app) start.progress g.row.A.Denot (c.move_laws.ensures.follow start.app) old now c.loop.acted.items more
    c.loop.invariant.so_far c.act_next.ensures.drained c.in-None.next
    (subst (λ (app : g.row.A.Denot). IsAct {A = g.row.A.Denot} (g.A.App.meaning app) old c.loop.acted.items (act.None c.in-None.next) now more) c.loop.invariant.app c.in-None.ensures.act)

pub returns-in-Stuck-clause-moved : goal.returns-in-Stuck-clause-moved
returns-in-Stuck-clause-moved g c =
    let start = c.args.engine.now in
    let old = c.loop.engine.progress in
    let now = c.act_next.new.engine.progress in
    let more = c.act_next.new.acted.items in
    then_stuck (g.A.App.meaning start.app) start.progress g.row.A.Denot (c.move_laws.ensures.follow start.app) old now c.loop.acted.items more
    c.loop.invariant.so_far c.act_next.ensures.drained c.in-Stuck.stuck
    (subst (λ (app : g.row.A.Denot). IsAct {A = g.row.A.Denot} (g.A.App.meaning app) old c.loop.acted.items (act.Stuck c.in-Stuck.stuck) now more) c.loop.invariant.app c.in-Stuck.ensures.act)

pub loop-preserved : goal.loop-preserved
loop-preserved g c =
    let start = c.args.engine.now in
    let old = c.loop.engine.progress in
    let now = c.act_next.new.engine.progress in
    let more = c.act_next.new.acted.items in
    record {
      app = c.act_next.ensures.app ∙ c.loop.invariant.app;
      so_far = one_acted (g.A.App.meaning start.app) start.progress g.row.A.Denot (c.move_laws.ensures.follow start.app) old now c.loop.acted.items more
          c.loop.invariant.so_far c.act_next.ensures.drained
          (subst (λ (app : g.row.A.Denot). IsAct {A = g.row.A.Denot} (g.A.App.meaning app) old c.loop.acted.items act.Ended now more) c.loop.invariant.app c.in-Ended.ensures.act);
    }
