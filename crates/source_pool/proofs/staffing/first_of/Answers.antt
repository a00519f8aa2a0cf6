use Rattle.std.proofs.Common.{◌<◌, ◌^◌}
use Rattle.source_pool.specs.declared.begun.Begun.{Begun}
use Rattle.source_pool.specs.Legs.{BeginsAtRest}
use Rattle.source_pool.specs.Staffing.{HasRun}
use Rattle.source_pool.proofs.Lists.{at_only, of_only}
use Rattle.source_pool.proofs.staffing.first_of.Goals as goal

pub all_rounds-requires-clause-rest : goal.all_rounds-requires-clause-rest
all_rounds-requires-clause-rest g c κs within =
    let one = c.requires.one in
    of_only (λ (begun : Begun g.row.A.Denot g.row.A-Val.Denot g.row.A-Horizon.Denot). BeginsAtRest (g.A.App.meaning begun.engine.app) begun.engine.progress)
    c.args.runs.now.items c.pop.new.self.items c.in-Some.begun c.in-Some.ensures.items one.count one.rest

pub all_rounds-requires-clause-limited : goal.all_rounds-requires-clause-limited
all_rounds-requires-clause-limited g c κs within =
    let one = c.requires.one in
    of_only (λ (begun : Begun g.row.A.Denot g.row.A-Val.Denot g.row.A-Horizon.Denot). begun.engine.progress.limit < 2 ^ 64)
    c.args.runs.now.items c.pop.new.self.items c.in-Some.begun c.in-Some.ensures.items one.count one.limited

pub returns-clause-run : goal.returns-clause-run
returns-clause-run g c =
    at_only
    (λ (begun : Begun g.row.A.Denot g.row.A-Val.Denot g.row.A-Horizon.Denot). HasRun (g.A.App.meaning begun.engine.app) begun.engine.progress g.K.Sink.contents g.K.Sink.faults c.args.outlet.now c.args.out.now c.all_rounds.new.outlet c.all_rounds.new.out c.all_rounds.result)
    c.args.runs.now.items c.pop.new.self.items c.in-Some.begun c.in-Some.ensures.items c.requires.one.count c.all_rounds.ensures.run
