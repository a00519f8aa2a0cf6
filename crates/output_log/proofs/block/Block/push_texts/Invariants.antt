use Rattle.std.proofs.Common.{◌≡◌, ◌++◌}
use Rattle.std.specs.Prelude.{map}
use Rattle.output_log.specs.Entries.{joined_texts}
use Rattle.output_log.proofs.block.Block.push_texts.Given as goal

-- the texts of the entries so far are added
abbrev pub invariant-loop-entry : goal.invariant-loop-entry
invariant-loop-entry l = l.text ≡ l.initial.text ++ joined_texts (map (λ entry. entry.now) l.yielded)
