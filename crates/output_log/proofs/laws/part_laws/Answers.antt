use Rattle.std.proofs.lemmas.Grind.{flat_map-append}
use Rattle.output_log.specs.Entries.{Entry}
use Rattle.output_log.proofs.Parts.{earlier_come_first, parts_keep_order, all_are_before_end}
use Rattle.output_log.proofs.laws.part_laws.Goals as goal

pub returns-clause-first : goal.returns-clause-first
returns-clause-first c = earlier_come_first

pub returns-clause-order : goal.returns-clause-order
returns-clause-order c = parts_keep_order

pub returns-clause-end : goal.returns-clause-end
returns-clause-end c = all_are_before_end

pub returns-clause-texts : goal.returns-clause-texts
returns-clause-texts c = flat_map-append (λ (entry : Entry). entry.1)
