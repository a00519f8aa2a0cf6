use Rattle.hook_app.specs.OneLocation.{asked_named}
use Rattle.level_walk.specs.Levels.{vertex_sets, walking}
use Rattle.level_walk.specs.VisitLaws.{own_at}
use Rattle.level_walk.specs.Walks.{vertex_count}
use Rattle.level_walk.proofs.Visiting.{passed_effect}
use Rattle.level_walk.proofs.visits.visit.Goals as goal

pub value-requires : goal.value-requires
value-requires c =
    let pattern = c.args.walk.now.pattern in
    asked_named (walking pattern) (vertex_sets (vertex_count pattern)) c.args.task.now c.args.bundle (own_at (vertex_count pattern) c.args.task.now.body.at c.requires.fit.vertex) c.requires

pub returns-in-At : goal.returns-in-At
returns-in-At c = λ values are is.
    passed_effect c.args.walk.now.pattern c.args.task.now c.args.bundle values c.requires.fit.vertex are is c.in-At.field-0 c.new.result c.new-in-At.result c.in-At.ensures c.new.ensures c.new-in-At.ensures
