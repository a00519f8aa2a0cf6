use Rattle.std.proofs.Common.{◌≡◌, ◌≤◌, ◌-◌, ◌∙◌, rules, ap, arith, length, deque_len}
use Rattle.std.specs.Ordering.{is_lt}
use Rattle.task_order.specs.Key.{at_key}
use Rattle.output_log.specs.Entries.{is_entry_before}
use Rattle.output_log.specs.Blocks.{ends_before}
use Rattle.output_log.proofs.Search.{ends_before-last}
use Rattle.output_log.proofs.block.Block.ends_before.Goals as goal

pub returns-in-Some : goal.returns-in-Some
returns-in-Some c =
    let bound = at_key c.args.key.now in
    let entries = c.self.inside.entries.items in
    let whole : deque_len c.self.inside.entries ≡ length entries = search rules in
    let some : 1 ≤ deque_len c.self.inside.entries = search (rules, c.back.ensures.variant) in
    c.is_lt.ensures ∙ ap is_lt c.compare.ensures.order ∙ ap (is_entry_before bound) c.in-Some.ensures.lookup
    ∙ ends_before-last bound entries (deque_len c.self.inside.entries - 1) c.in-Some.last.now (omega arith) ∙ ap (ends_before bound) c.self.view_is
