use Rattle.std.proofs.Common.{◌≡◌, ◌<◌, ◌≤◌, ℕ, List, length, sym, ◌∙◌, ap, subst, deque_capacity}
use Rattle.std.specs.List.{insert}
use Rattle.task_order.specs.declared.block.Block.TheInside.{Inside}
use Rattle.task_order.specs.declared.task.Task.{Task}
use Rattle.task_order.specs.Blocks.{IsBlock, full_length}
use Rattle.task_order.proofs.FirstTasks.{IsBlock-before, IsBlock-behind}
use Rattle.task_order.proofs.block.Block.put.Goals.{then-place-eq0, else-place-eq0}
use Rattle.task_order.proofs.block.Block.put.Goals as goal

pub invariant_of-self : goal.invariant_of-self
invariant_of-self c =
    let block = c.self.inside in
    let items = c.put_at.new.tasks.items in
    let capacity = deque_capacity c.put_at.new.tasks in
    let room : length block.tasks.items < full_length = subst (λ (tasks : List Task). length tasks < full_length) (sym c.self.view_is) c.requires.room in
    elim c.if-place-eq0.branch [
      | then-place-eq0 w ↦
          let tasks : items ≡ insert block.tasks.items 0 c.args.task =
          c.put_at.ensures.tasks ∙ ap (λ (inside : Inside). insert inside.tasks.items c.args.place c.args.task) w.self-inside-is ∙ ap (λ (place : ℕ). insert block.tasks.items place c.args.task) w.if-place-eq0.true in
          let larger : deque_capacity block.tasks ≤ capacity = subst (λ (inside : Inside). deque_capacity inside.tasks ≤ capacity) w.self-inside-is c.put_at.ensures.capacity in
          subst (λ (inside : Inside). IsBlock inside.first_prio inside.first_beginning items capacity) (sym w.self-inside-is)
          (subst (λ (all : List Task). IsBlock c.args.task.key.prio w.beginning-self-inside.result all capacity) (sym tasks)
          (IsBlock-before block.first_prio block.first_beginning block.tasks.items c.args.task w.beginning-self-inside.result (deque_capacity block.tasks) capacity c.self.invariant room larger (w.beginning-self-inside.ensures.beginning, w.beginning-self-inside.ensures.fits)))
      | else-place-eq0 w ↦
          let tasks : items ≡ insert block.tasks.items c.args.place c.args.task =
          c.put_at.ensures.tasks ∙ ap (λ (inside : Inside). insert inside.tasks.items c.args.place c.args.task) w.self-inside-is in
          let larger : deque_capacity block.tasks ≤ capacity = subst (λ (inside : Inside). deque_capacity inside.tasks ≤ capacity) w.self-inside-is c.put_at.ensures.capacity in
          let within : c.args.place ≤ length block.tasks.items = subst (λ (tasks : List Task). c.args.place ≤ length tasks) (sym c.self.view_is) c.requires.place in
          subst (λ (inside : Inside). IsBlock inside.first_prio inside.first_beginning items capacity) (sym w.self-inside-is)
          (subst (λ (all : List Task). IsBlock block.first_prio block.first_beginning all capacity) (sym tasks) (IsBlock-behind block.first_prio block.first_beginning block.tasks.items c.args.place c.args.task (deque_capacity block.tasks) capacity c.self.invariant room within w.if-place-eq0.false larger))
    ]
