use Rattle.std.proofs.Common.{Bool, ◌&&◌, List, sym, ap, ◌∙◌, subst}
use Rattle.task_order.specs.TaskList.{tasks_before}
use Rattle.rw_sets.specs.Accesses.{Accesses}
use Rattle.app_laws.specs.Applications.{AreWriters}
use Rattle.mark_rounds.specs.Pending.{writers_among}
use Rattle.mark_rounds.proofs.Safe.{writers_where_fixed}
use Rattle.mark_rounds.proofs.Tested.{fit, in_range, source, tested}
use Rattle.mark_rounds.proofs.finding.is_clear_at.Goals as goal

pub free-requires-clause-in_range : goal.free-requires-clause-in_range
free-requires-clause-in_range g c =
    in_range (g.A.App.meaning c.args.app.now) (c.basis.ensures c.args.app.now) c.args.pending.now c.args.board.now c.args.marker.now c.requires.marked c.args.rank c.args.task.now c.set.result.now c.requires.there c.set.ensures

pub returns-then-not-free-clause-answer : goal.returns-then-not-free-clause-answer
returns-then-not-free-clause-answer g c =
    let app = g.A.App.meaning c.args.app.now in
    ap (λ (b : Bool). b && app.is_safe c.args.task.now (tasks_before c.args.task.now.key c.args.pending.now.tasks)) (sym c.if-not-free.true)
    ∙ tested app (c.basis.ensures c.args.app.now) c.args.pending.now c.args.board.now c.args.marker.now c.requires.marked c.args.rank c.args.task.now c.set.result.now c.requires.there c.set.ensures c.free.result c.free.ensures.answer

pub safe-requires-clause-fit : goal.safe-requires-clause-fit
safe-requires-clause-fit g c =
    fit (g.A.App.meaning c.args.app.now) (c.basis.ensures c.args.app.now) c.args.pending.now c.args.board.now c.args.marker.now c.requires.marked c.args.rank c.args.task.now c.set.result.now c.requires.there c.set.ensures

pub safe-requires-clause-apart : goal.safe-requires-clause-apart
safe-requires-clause-apart g c =
    source (g.A.App.meaning c.args.app.now) (c.basis.ensures c.args.app.now) c.args.pending.now c.args.board.now c.args.marker.now c.requires.marked c.args.rank c.args.task.now c.set.result.now c.requires.there c.set.ensures c.free.result c.free.ensures.answer c.if-not-free.false

pub safe-requires-clause-writers : goal.safe-requires-clause-writers
safe-requires-clause-writers g c fixed =
    let app = g.A.App.meaning c.args.app.now in
    let pending = c.args.pending.now in
    subst (λ (sets : List Accesses). AreWriters app (writers_among pending.tasks sets) pending.tasks) (sym c.requires.marked.sets_are)
    (writers_where_fixed app pending.cells pending.tasks c.requires.marked.ready.cells c.requires.marked.ready.tasks fixed)

pub returns-clause-answer : goal.returns-clause-answer
returns-clause-answer g c =
    let app = g.A.App.meaning c.args.app.now in
    c.safe.ensures.answer
    ∙ ap (λ (b : Bool). b && app.is_safe c.args.task.now (tasks_before c.args.task.now.key c.args.pending.now.tasks)) (sym c.if-not-free.false)
    ∙ tested app (c.basis.ensures c.args.app.now) c.args.pending.now c.args.board.now c.args.marker.now c.requires.marked c.args.rank c.args.task.now c.set.result.now c.requires.there c.set.ensures c.free.result c.free.ensures.answer
