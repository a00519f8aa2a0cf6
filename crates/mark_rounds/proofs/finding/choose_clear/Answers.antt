use Rattle.std.proofs.Common.{◌≡◌, ℕ, ◌+◌, ◌≤◌, ◌++◌, List, drop, sym, ap, ◌∙◌, subst, append-nil}
use Rattle.std.specs.List.{filter}
use Rattle.std.proofs.lemmas.List.{drop_all}
use Rattle.task_order.specs.declared.task.Task.{Task}
use Rattle.commuting.specs.Rounds.{clear_tasks, is_clear}
use Rattle.mark_rounds.specs.Pending.{HaveMarked, state_in}
use Rattle.mark_rounds.proofs.Chosen.{one_fails, one_more_passes}
use Rattle.mark_rounds.proofs.finding.choose_clear.Goals as goal
use Rattle.mark_rounds.proofs.finding.choose_clear.Goals.{then-is_clear_at+in_ok-copy+in_ok-push_back, else-is_clear_at}

pub is_clear_at-requires-clause-marked : goal.is_clear_at-requires-clause-marked
is_clear_at-requires-clause-marked g c κs within =
    subst (HaveMarked (g.A.App.meaning c.args.app.now) c.args.pending.now c.args.board.now) (sym c.loop-rank.invariant.same) c.requires.marked

pub loop-rank-preserved : goal.loop-rank-preserved
loop-rank-preserved g c =
    let test = is_clear (g.A.App.meaning c.args.app.now) (state_in c.args.pending.now) in
    let tasks = c.args.pending.now.tasks in
    let whole = clear_tasks (g.A.App.meaning c.args.app.now) (state_in c.args.pending.now) in
    record {
      clear = elim c.if-is_clear_at.branch [
        | then-is_clear_at+in_ok-copy+in_ok-push_back w ↦
            subst (λ (items : List Task). items ++ filter test (drop (c.loop-rank.rank + 1) tasks) ≡ whole) (sym (ap (λ (d : _). d.items) w.clear-is ∙ w.in_ok-push_back.ensures.items))
            (one_more_passes test tasks c.loop-rank.rank c.task-task.result.now c.loop-rank.clear.items whole c.task-task.ensures c.loop-rank.invariant.clear w.in_ok-copy.copy w.in_ok-copy.ensures (sym c.is_clear_at.ensures.answer ∙ w.if-is_clear_at.true))
        | else-is_clear_at w ↦
            subst (λ (items : List Task). items ++ filter test (drop (c.loop-rank.rank + 1) tasks) ≡ whole) (sym (ap (λ (d : _). d.items) w.clear-is))
            (one_fails test tasks c.loop-rank.rank c.task-task.result.now c.loop-rank.clear.items whole c.task-task.ensures c.loop-rank.invariant.clear (sym c.is_clear_at.ensures.answer ∙ w.if-is_clear_at.false))
      ];
      same = c.is_clear_at.ensures.same ∙ c.loop-rank.invariant.same;
      told = c.is_clear_at.ensures.told;
    }

pub returns-clause-found : goal.returns-clause-found
returns-clause-found g c =
    let test = is_clear (g.A.App.meaning c.args.app.now) (state_in c.args.pending.now) in
    let none = drop_all c.loop-rank.rank c.args.pending.now.tasks (subst (λ (n : ℕ). n ≤ c.loop-rank.rank) c.len-rank-end.ensures c.loop-rank-test.false) in
    sym (append-nil c.loop-rank.clear.items) ∙ ap (λ (rest : List Task). c.loop-rank.clear.items ++ filter test rest) (sym none) ∙ c.loop-rank.invariant.clear
