use Rattle.std.proofs.Common.{rules, arith, ◌++◌, take}
use Rattle.std.proofs.lemmas.Grind.{common_steps}
use Rattle.std.proofs.KnownBytes.{Consumes-trans}
use Rattle.outer_edge.specs.Transfers.{BringsAtMost, BringsMore, transfer_of}
use Rattle.outer_edge.proofs.whole_input.read_all_counted.Goals as goal

pub returns-in-Got-clause-reads_all : goal.returns-in-Got-clause-reads_all
returns-in-Got-clause-reads_all g c =
    let i = c.loop-count.invariant in
    let got = c.in-Got.ensures.bytes in
    let more : BringsMore c.args.limit (transfer_of g.S.Source.remaining g.S.Source.faults c.args.source.now c.counted_read.new.source) = (
      c.loop-count.text ++ take c.in-Got.count c.counted_read.new.buffer,
      grind (arith, common_steps, c.if-count-limit.true, c.len.ensures, i.within, got.1),
      Consumes-trans _ _ _ _ _ i.came got.2,
    ) in
    record {
      ok = search rules;
      too_large = λ _. more;
      read_fault = search rules;
      before = search rules;
      room = search rules;
      no_fault = search rules;
      never_falls = search rules;
    }

pub returns-in_err-push_all-in-Got-2-clause-reads_all : goal.returns-in_err-push_all-in-Got-2-clause-reads_all
returns-in_err-push_all-in-Got-2-clause-reads_all g c =
    let i = c.loop-count.invariant in
    let got = c.in-Got-2.ensures.bytes in
    let within : BringsAtMost c.args.limit (transfer_of g.S.Source.remaining g.S.Source.faults c.args.source.now c.counted_read.new.source) = (
      c.loop-count.text ++ take c.in-Got-2.count c.counted_read.new.buffer,
      grind (arith, common_steps, c.if-count-limit.false, c.len.ensures, i.within, got.1),
      Consumes-trans _ _ _ _ _ i.came got.2,
    ) in
    record {
      ok = search rules;
      too_large = search rules;
      read_fault = search rules;
      before = search rules;
      room = λ _. within;
      no_fault = search rules;
      never_falls = search rules;
    }
