use Rattle.std.proofs.Common.{List, length, refl, sym, ap, ◌∙◌, subst, arith}
use Rattle.std.specs.List.{AllByRecursion}
use Rattle.std.proofs.lemmas.Result.{err_from_is_err_and}
use Rattle.task_order.specs.declared.start.Start.{Start}
use Rattle.task_order.specs.declared.task.Task.{Task}
use Rattle.task_order.specs.TaskList.{IsNewKey, put_all}
use Rattle.cell_store.specs.Values.{values_of}
use Rattle.output_log.specs.Entries.{Entry, with_entry}
use Rattle.app_laws.specs.Applications.{starts_of}
use Rattle.app_laws.specs.Execution.{children_from}
use Rattle.list_rounds.proofs.Family.{fit_children, new_keys, not_earlier, pending_after, put_length, starts_are}
use Rattle.list_rounds.proofs.Touched.{told_of_others}
use Rattle.list_rounds.proofs.acting.act_one.Goals as goal

pub returns-in_err-within-clause-fault : goal.returns-in_err-within-clause-fault
returns-in_err-within-clause-fault g c =
    let are = c.items-made.ensures.all ∙ c.in_ok-children.ensures.children in
    let over = c.in_err-within.ensures.over in
    let after = pending_after (c.basis.ensures c.args.app.now) c.requires.ready c.requires.there c.items-made.result.now are in
    let e = err_from_is_err_and c.from_residual-in_err-within.result c.from_residual-in_err-within.ensures.1 in
    rw (e.1, e.2, over.0) (omega (arith, after, c.len.ensures.len, ap length c.leave.ensures), refl, over.1)

pub touch_end-requires-clause-children : goal.touch_end-requires-clause-children
touch_end-requires-clause-children g c κs within =
    fit_children (c.basis.ensures c.args.app.now) c.requires.ready c.requires.there c.items-made.result.now (c.items-made.ensures.all ∙ c.in_ok-children.ensures.children)

pub put_children-requires-clause-not_earlier : goal.put_children-requires-clause-not_earlier
put_children-requires-clause-not_earlier g c =
    not_earlier (c.basis.ensures c.args.app.now) c.requires.ready c.requires.there c.items-made.result.now (c.items-made.ensures.all ∙ c.in_ok-children.ensures.children)

pub put_children-requires-clause-new : goal.put_children-requires-clause-new
put_children-requires-clause-new g c =
    subst (λ (tasks : List Task). AllByRecursion (λ (task : Task). IsNewKey task.key tasks) (children_from c.args.task.key 0 (starts_of c.items-made.result.now))) (sym c.leave.ensures)
    (new_keys (c.basis.ensures c.args.app.now) c.requires.ready c.requires.there c.items-made.result.now (c.items-made.ensures.all ∙ c.in_ok-children.ensures.children))

pub returns-clause-acted : goal.returns-clause-acted
returns-clause-acted g c =
    let key = c.args.task.key in
    let outcome = (g.A.App.meaning c.args.app.now).act c.args.task (values_of c.args.parts.now.store) in
    let starts = starts_are (c.basis.ensures c.args.app.now) c.requires.ready c.requires.there c.items-made.result.now (c.items-made.ensures.all ∙ c.in_ok-children.ensures.children) in
    record {
      store = c.in_ok-children.ensures.store;
      pending = c.in_ok-put_children.ensures.put ∙ ap (λ (starts : List Start). put_all (children_from key 0 starts) c.leave.new.pending) starts ∙ ap (put_all (children_from key 0 outcome.children)) c.leave.ensures;
      log = c.put.ensures.entries ∙ ap (λ text. with_entry key text c.reserve_for.new.self.entries) c.in_ok-children.ensures.text ∙ ap (λ (entries : List Entry). with_entry key outcome.text entries) c.reserve_for.ensures.entries;
      text = refl;
      ended = refl;
    }

pub returns-clause-told : goal.returns-clause-told
returns-clause-told g c =
    let children = children_from c.args.task.key 0 (starts_of c.items-made.result.now) in
    subst (g.A.App.tells c.args.app.now c.touch_end.new.horizon) (sym (c.in_ok-put_children.ensures.put ∙ ap (put_all children) c.leave.ensures))
    (told_of_others (c.basis.ensures c.args.app.now).restores c.args.task c.args.parts.now.pending c.requires.ready.ascending c.requires.there
    (g.A.App.tells c.args.app.now c.args.horizon.now) (λ (others : List Task). g.A.App.tells c.args.app.now c.touch_end.new.horizon (put_all children others))
    (λ before after told. c.touch_end.ensures c.args.task c.args.task.key before after refl told) c.requires.told)

pub returns-clause-within : goal.returns-clause-within
returns-clause-within g c =
    let put = put_length (c.basis.ensures c.args.app.now) c.args.task.key c.items-made.result.now c.leave.new.pending in
    omega (arith, c.in_ok-within.ensures.ok, c.len.ensures.len, ap length c.in_ok-put_children.ensures.put, put)
