use Rattle.std.proofs.Common.{◌<◌, ◌∙◌, ℕ, List, nat_lt, sym, ap, subst}
use Rattle.plain_laws.specs.Orderings.{below_from_cmp, above_from_cmp}
use Rattle.task_order.specs.declared.task.Task.{Task}
use Rattle.task_order.specs.PathCode.{path_beginning}
use Rattle.task_order.specs.Blocks.{IsFirstBeginning}
use Rattle.task_order.proofs.FirstTasks.{starts_by-lower, starts_by-higher}
use Rattle.task_order.proofs.block.Block.first_path_is_by.Goals as goal

pub returns-in-Less : goal.returns-in-Less
returns-in-Less c =
    let block = c.self.inside in
    let known : IsFirstBeginning block.first_beginning c.args.self.now = subst (λ (tasks : List Task). IsFirstBeginning block.first_beginning tasks) c.self.view_is c.self.invariant.first_beginning in
    let lower : block.first_beginning < path_beginning c.args.key.now.path =
    subst (λ (n : ℕ). block.first_beginning < n) c.beginning.ensures.beginning (below_from_cmp block.first_beginning c.beginning.result (sym c.cmp.ensures ∙ c.in-Less.is)) in
    sym (starts_by-lower c.args.key.now block.first_beginning c.args.self.now c.requires known c.beginning.ensures.fits lower ∙ ap (nat_lt 0) (sym c.len.ensures.len))

pub returns-in-Greater : goal.returns-in-Greater
returns-in-Greater c =
    let block = c.self.inside in
    let known : IsFirstBeginning block.first_beginning c.args.self.now = subst (λ (tasks : List Task). IsFirstBeginning block.first_beginning tasks) c.self.view_is c.self.invariant.first_beginning in
    let higher : path_beginning c.args.key.now.path < block.first_beginning =
    subst (λ (n : ℕ). n < block.first_beginning) c.beginning.ensures.beginning (above_from_cmp block.first_beginning c.beginning.result (sym c.cmp.ensures ∙ c.in-Greater.is)) in
    sym (starts_by-higher c.args.key.now block.first_beginning c.args.self.now c.requires known c.beginning.ensures.fits higher)
