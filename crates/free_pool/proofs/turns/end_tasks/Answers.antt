use Rattle.std.proofs.Common.{◌≡◌, ◌∙◌, List, ◌∷◌, [], true, false, refl, sym, subst}
use Rattle.crew.specs.Jobs.{IsPerformed}
use Rattle.graph_update.specs.Engine.{FinishStaysSound}
use Rattle.run_laws.specs.Jobs.{Job}
use Rattle.run_laws.specs.Laws.{IsDone}
use Rattle.run_laws.specs.Moves.{Moved}
use Rattle.free_pool.specs.Turns.{MayEnd}
use Rattle.free_pool.proofs.EndsInTurn.{as_refused, as_told, is_done, none_ended, one_ended}
use Rattle.free_pool.proofs.turns.end_tasks.Goals as goal

pub loop-done-init : goal.loop-done-init
loop-done-init g c =
    let old = c.args.engine.now in
    record { app = refl; ending = none_ended (g.A.App.meaning old.app) old.progress (c.move_laws.ensures.stays old.app) c.args.dones.now.items c.requires.may_end }

pub end_task-requires-clause-done : goal.end_task-requires-clause-done
end_task-requires-clause-done g c κs within =
    let app = g.A.App.meaning c.args.engine.now.app in
    let at = c.loop-done in
    let may = subst (MayEnd app at.engine.progress) c.in-Some.ensures.items at.invariant.ending.may_end in
    subst (λ (app : g.row.A.Denot). IsDone (g.A.App.meaning app) at.engine.progress c.in-Some.done) (sym at.invariant.app)
    (is_done app at.engine.progress c.in-Some.done c.pop_front.new.self.items may)

pub loop-done-preserved : goal.loop-done-preserved
loop-done-preserved g c =
    let app = g.A.App.meaning c.args.engine.now.app in
    let old = c.args.engine.now in
    let at = c.loop-done in
    let now = c.end_task.new.engine in
    let done = c.in-Some.done in
    let ended : c.end_task.result ≡ true = c.if-not-end_task.false in
    let moves =
    subst (λ (a : g.row.A.Denot). (job : Job g.row.A-Val.Denot) (jobs others : List (Job g.row.A-Val.Denot)) → IsPerformed (g.A.App.meaning a) jobs done job others →
    Moved (g.A.App.meaning a) at.engine.progress jobs now.progress others (done.task.key ∷ [])) at.invariant.app
    (λ job jobs others performed. c.end_task.ensures.ended job jobs others performed ended) in
    let stays = subst (λ (a : g.row.A.Denot). FinishStaysSound (g.A.App.meaning a) at.engine.progress done now.progress) at.invariant.app (c.end_task.ensures.sound ended) in
    record {
      app = c.end_task.ensures.app ∙ at.invariant.app;
      ending = one_ended app old.progress (c.move_laws.ensures.follow old.app) c.args.dones.now.items at.engine.progress now.progress at.dones.items done c.pop_front.new.self.items at.ended at.invariant.ending
          c.in-Some.ensures.items moves stays c.end_task.ensures.drained;
    }

pub returns-then-not-end_task-clause-moved : goal.returns-then-not-end_task-clause-moved
returns-then-not-end_task-clause-moved g c had are =
    let old = c.args.engine.now in
    let at = c.loop-done in
    let now = c.end_task.new.engine in
    let done = c.in-Some.done in
    let refused : c.end_task.result ≡ false = c.if-not-end_task.true in
    let moves =
    subst (λ (a : g.row.A.Denot). (job : Job g.row.A-Val.Denot) (jobs others : List (Job g.row.A-Val.Denot)) → IsPerformed (g.A.App.meaning a) jobs done job others →
    Moved (g.A.App.meaning a) at.engine.progress jobs now.progress jobs []) at.invariant.app
    (λ job jobs others performed. c.end_task.ensures.refused job jobs others performed refused) in
    as_refused (g.A.App.meaning old.app) old.progress (c.move_laws.ensures.follow old.app) c.args.dones.now.items at.engine.progress now.progress at.dones.items done c.pop_front.new.self.items at.ended
    at.invariant.ending c.in-Some.ensures.items moves had are

pub returns-clause-moved : goal.returns-clause-moved
returns-clause-moved g c had are =
    let old = c.args.engine.now in
    let at = c.loop-done in
    as_told (g.A.App.meaning old.app) old.progress c.args.dones.now.items at.engine.progress at.dones.items at.ended at.invariant.ending had are
