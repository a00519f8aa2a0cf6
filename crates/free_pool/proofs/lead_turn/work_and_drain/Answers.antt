use Rattle.std.proofs.Common.{List, [], ◌++◌, append-nil, subst}
use Rattle.std.specs.Prelude.{IfOk}
use Rattle.task_order.specs.declared.key.Key.{Key}
use Rattle.run_laws.specs.Moves.{Moved}
use Rattle.free_pool.specs.Acted.{jobs_stuck, keys_acted}
use Rattle.free_pool.specs.Streams.{IsDrain}
use Rattle.free_pool.specs.Turns.{jobs_left, keys_ended}
use Rattle.free_pool.proofs.Told.{drained_at}
use Rattle.free_pool.proofs.lead_turn.work_and_drain.Goals as goal

pub returns-clause-moved : goal.returns-clause-moved
returns-clause-moved g c had are =
    let old = c.args.engine.now in
    let works = c.work_in_turn-stuck in
    let have = jobs_stuck works.result.1 ++ jobs_left had works.result.0.ended works.new.hand.jobs.items in
    let keys = keys_ended had works.result.0.ended ++ keys_acted works.new.hand.acted.items in
    let next = subst (λ (app : g.row.A.Denot). Moved (g.A.App.meaning app) works.new.engine.progress have c.drain_where-more.new.engine.progress have []) works.ensures.app (c.drain_where-more.ensures.moved have) in
    subst (λ (ended : List Key). Moved (g.A.App.meaning old.app) old.progress had c.drain_where-more.new.engine.progress have ended) (append-nil keys)
    (c.move_laws.ensures.follow old.app old.progress works.new.engine.progress c.drain_where-more.new.engine.progress had have have keys [] (works.ensures.moved had are) next)

pub returns-clause-drained : goal.returns-clause-drained
returns-clause-drained g c had are =
    let old = c.args.engine.now in
    let works = c.work_in_turn-stuck in
    let have = jobs_stuck works.result.1 ++ jobs_left had works.result.0.ended works.new.hand.jobs.items in
    let keys = keys_ended had works.result.0.ended ++ keys_acted works.new.hand.acted.items in
    let next = c.drain_where-more.new.engine.progress in
    let drain = subst (λ (app : g.row.A.Denot). IfOk c.drain_where-more.result (IsDrain (g.A.App.meaning app) works.new.engine.progress next)) works.ensures.app c.drain_where-more.ensures.drained in
    drained_at (g.A.App.meaning old.app) old.progress works.new.engine.progress next had have keys (works.ensures.moved had are) works.ensures.drained c.drain_where-more.result drain
