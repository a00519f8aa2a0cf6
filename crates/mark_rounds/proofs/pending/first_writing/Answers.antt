use Rattle.std.proofs.Common.{◌<◌, ℕ, length, refl, sym, ap, subst, ◌∙◌}
use Rattle.std.specs.Map.Iter.{deref}
use Rattle.std.specs.Option.{option_map}
use Rattle.std.proofs.lemmas.Option.{slice_get_past, slice_get_read}
use Rattle.task_order.specs.declared.task.Task.{Task}
use Rattle.mark_rounds.specs.Pending.{tasks_in}
use Rattle.mark_rounds.proofs.FirstWriting.{unless_noted, unless_there, unless_writing, where_writing}
use Rattle.mark_rounds.proofs.Places.{as_many_tasks, task_at}
use Rattle.mark_rounds.proofs.pending.first_writing.Goals as goal

pub returns-in_err-rank : goal.returns-in_err-rank
returns-in_err-rank c =
    ap (option_map (deref {X = Task})) c.from_residual.ensures
    ∙ sym (unless_noted c.args.loc c.args.writers.now c.args.sets.now (tasks_in c.args.tasks.now) (c.requires.one_each ∙ sym (as_many_tasks c.args.tasks.now)) c.requires.writers
    (slice_get_past c.args.writers.now c.args.loc c.in_err-rank.ensures.lookup.3))

pub returns-in_err-get : goal.returns-in_err-get
returns-in_err-get c =
    ap (option_map (deref {X = Task})) c.from_residual-in_err-get.ensures
    ∙ sym (unless_there c.args.loc c.args.writers.now c.args.sets.now (tasks_in c.args.tasks.now) (c.requires.one_each ∙ sym (as_many_tasks c.args.tasks.now)) c.requires.writers
    c.in_ok-rank.field-0.now (slice_get_read c.args.writers.now (length c.args.writers.now) c.args.loc c.in_ok-rank.field-0.now refl c.in_ok-rank.ensures.lookup.3.0 c.in_ok-rank.ensures.lookup.1)
    (slice_get_past c.args.sets.now c.in_ok-rank.field-0.now c.in_err-get.ensures.lookup.3))

pub returns-then-is_written : goal.returns-then-is_written
returns-then-is_written c =
    let rank = c.in_ok-rank.field-0.now in
    let within : rank < length c.args.tasks.now = subst (λ (n : ℕ). rank < n) c.requires.one_each c.in_ok-get.ensures.lookup.3.0 in
    sym (where_writing c.args.loc c.args.writers.now c.args.sets.now (tasks_in c.args.tasks.now) (c.requires.one_each ∙ sym (as_many_tasks c.args.tasks.now)) c.requires.writers
    rank c.in_ok-get.field-0.now (slice_get_read c.args.writers.now (length c.args.writers.now) c.args.loc rank refl c.in_ok-rank.ensures.lookup.3.0 c.in_ok-rank.ensures.lookup.1)
    (slice_get_read c.args.sets.now (length c.args.sets.now) rank c.in_ok-get.field-0.now refl c.in_ok-get.ensures.lookup.3.0 c.in_ok-get.ensures.lookup.1)
    (sym c.is_written.ensures ∙ c.if-is_written.true)
    ∙ task_at c.args.tasks.now rank c.index-tasks-rank.result within c.index-tasks-rank.is)

pub returns-else-is_written : goal.returns-else-is_written
returns-else-is_written c =
    let rank = c.in_ok-rank.field-0.now in
    sym (unless_writing c.args.loc c.args.writers.now c.args.sets.now (tasks_in c.args.tasks.now) (c.requires.one_each ∙ sym (as_many_tasks c.args.tasks.now)) c.requires.writers
    rank c.in_ok-get.field-0.now (slice_get_read c.args.writers.now (length c.args.writers.now) c.args.loc rank refl c.in_ok-rank.ensures.lookup.3.0 c.in_ok-rank.ensures.lookup.1)
    (slice_get_read c.args.sets.now (length c.args.sets.now) rank c.in_ok-get.field-0.now refl c.in_ok-get.ensures.lookup.3.0 c.in_ok-get.ensures.lookup.1)
    (sym c.is_written.ensures ∙ c.if-is_written.false))
