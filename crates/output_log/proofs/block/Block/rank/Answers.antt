use Rattle.std.proofs.Common.{rules, of_calls, ◌∙◌, ap, length}
use Rattle.std.proofs.lemmas.List.Sorted.{IsPartitionPoint-from_clause}
use Rattle.task_order.specs.Key.{at_key}
use Rattle.output_log.specs.Entries.{is_entry_before, entries_before}
use Rattle.output_log.proofs.LogEntries.{is_partitioned, length-before}
use Rattle.output_log.proofs.block.Block.rank.Goals as goal

pub returns : goal.returns
returns c =
    let bound = at_key c.args.key.now in
    let entries = c.self.inside.entries.items in
    let point = IsPartitionPoint-from_clause (is_entry_before bound) entries c.partition_point.result c.partition_point.ensures.partitioned (is_partitioned bound entries (rw c.self.view_is c.requires)) (λ a r f k. search (rules, of_calls)) in
    length-before bound entries c.partition_point.result (search rules) point ∙ ap (λ entries. length (entries_before bound entries)) c.self.view_is
