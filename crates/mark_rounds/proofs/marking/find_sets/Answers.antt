use Rattle.std.proofs.Common.{◌≡◌, ◌+◌, ◌++◌, List, drop, sym, ap, ◌∙◌, subst, append-nil}
use Rattle.std.proofs.lemmas.List.{drop_all}
use Rattle.std.specs.Borrow.{Bor}
use Rattle.task_order.specs.declared.task.Task.{Task}
use Rattle.rw_sets.specs.Accesses.{Accesses}
use Rattle.cell_store.specs.Values.{values_of}
use Rattle.app_laws.specs.Applications.{IsFitTask, set_in}
use Rattle.mark_rounds.specs.Pending.{sets_in}
use Rattle.mark_rounds.proofs.Places.{all_lent, holds_at, one_more}
use Rattle.mark_rounds.proofs.marking.find_sets.Goals as goal

pub declared_set-requires-clause-fit : goal.declared_set-requires-clause-fit
declared_set-requires-clause-fit g c κs within =
    let app = g.A.App.meaning c.args.app.now in
    holds_at (λ (task : Bor Task). IsFitTask app task.now) c.args.tasks.now c.loop-rank.rank c.index-tasks-rank.result c.loop-rank-test.true c.index-tasks-rank.is (all_lent (IsFitTask app) c.args.tasks.now c.requires.fit)

pub loop-rank-preserved : goal.loop-rank-preserved
loop-rank-preserved g c =
    let app = g.A.App.meaning c.args.app.now in
    let values = values_of c.args.store.now in
    subst (λ (items : List Accesses). items ++ sets_in app values (drop (c.loop-rank.rank + 1) c.args.tasks.now) ≡ sets_in app values c.args.tasks.now) (sym c.in_ok-push.ensures.items)
    (one_more (λ (task : Bor Task). set_in app values task.now) c.args.tasks.now c.loop-rank.rank c.index-tasks-rank.result c.loop-rank.sets.items (sets_in app values c.args.tasks.now) c.in_ok-set.set
    c.loop-rank-test.true c.index-tasks-rank.is c.in_ok-set.ensures c.loop-rank.invariant)

pub returns : goal.returns
returns g c =
    let app = g.A.App.meaning c.args.app.now in
    let values = values_of c.args.store.now in
    let none = drop_all c.loop-rank.rank c.args.tasks.now c.loop-rank-test.false in
    sym (append-nil c.loop-rank.sets.items) ∙ ap (λ (rest : List (Bor Task)). c.loop-rank.sets.items ++ sets_in app values rest) (sym none) ∙ c.loop-rank.invariant
