use Rattle.std.proofs.Common.{◌≡◌, take}
use Rattle.output_log.specs.Blocks.{entries_in}
use Rattle.output_log.specs.Entries.{joined_texts}
use Rattle.output_log.proofs.blocks.Blocks.texts_to.Given as goal

-- the texts of the blocks so far are there
abbrev pub invariant-loop-i : goal.invariant-loop-i
invariant-loop-i l = l.text ≡ joined_texts (entries_in (take l.i l.self-inside.blocks.items))
