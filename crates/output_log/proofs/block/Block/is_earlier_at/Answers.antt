use Rattle.std.proofs.Common.{◌<◌, ◌≤◌, ◌∙◌, rules, arith, ap, sym, length, get_or}
use Rattle.std.specs.Ordering.{is_lt}
use Rattle.task_order.specs.Key.{at_key}
use Rattle.output_log.specs.Entries.{is_entry_before}
use Rattle.output_log.proofs.LogEntries.{count_within_list, counted_if, none_counted}
use Rattle.output_log.proofs.block.Block.is_earlier_at.Goals as goal

pub returns-in-Some-clause-counted : goal.returns-in-Some-clause-counted
returns-in-Some-clause-counted c =
    let bound = at_key c.args.key.now in
    let entry = c.in-Some.entry.now in
    let inside : c.args.place < length c.args.self.now = rw (← c.self.view_is) (search (rules, c.get.ensures.variant)) in
    counted_if bound c.args.self.now c.args.place entry c.requires inside c.is_lt.result
    (ap (is_entry_before bound) (sym (c.in-Some.ensures.lookup ∙ ap (λ l. get_or l c.args.place entry) c.self.view_is)) ∙ sym (c.is_lt.ensures ∙ ap is_lt c.compare.ensures.order))

pub returns-in-None-clause-counted : goal.returns-in-None-clause-counted
returns-in-None-clause-counted c =
    let outside : length c.args.self.now ≤ c.args.place = rw (← c.self.view_is) (search (rules, c.get.ensures.variant)) in
    none_counted (at_key c.args.key.now) c.args.self.now c.args.place outside

pub returns-in-Some-clause-few : goal.returns-in-Some-clause-few
returns-in-Some-clause-few c = omega (arith, count_within_list (at_key c.args.key.now) c.args.self.now, ap length c.self.view_is, c.self.invariant.0)

pub returns-in-None-clause-few : goal.returns-in-None-clause-few
returns-in-None-clause-few c = omega (arith, count_within_list (at_key c.args.key.now) c.args.self.now, ap length c.self.view_is, c.self.invariant.0)
