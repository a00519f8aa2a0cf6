use Rattle.std.proofs.Common.{◌-◌, length, map, string_bytes}
use Rattle.kdg_prog.specs.Words.{IsHeading}
use Rattle.kdg_prog.proofs.Reading.{IsRead}
use Rattle.kdg_prog.proofs.words.read_words.Given as goal

abbrev pub invariant-loop-index : goal.invariant-loop-index
invariant-loop-index l =
    let words = map string_bytes l.words.items in
    IsRead words l.draft l.index × IsHeading words l.heading

abbrev pub decreases-loop-index : goal.decreases-loop-index
decreases-loop-index l = length l.initial.words.items - l.index
