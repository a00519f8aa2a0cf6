use Rattle.std.proofs.Common.{ap, ◌∙◌, sym}
use Rattle.logic_sim.proofs.Readers.{AddsReader-kept, AddsReader-pushed}
use Rattle.logic_sim.specs.Tables.{last_is}
use Rattle.logic_sim.proofs.tables.add_reader.Goals.{then-not-ends_with+in_ok-push, else-not-ends_with}
use Rattle.logic_sim.proofs.tables.add_reader.Goals as goal

pub loop-signal-preserved : goal.loop-signal-preserved
loop-signal-preserved c =
    let in_range = c.requires.in_range c.loop-signal.signal-index 0 c.loop-signal-test.true in
    elim c.if-not-ends_with.branch [
      | then-not-ends_with+in_ok-push w ↦
          let more = AddsReader-pushed c.args.table.now.items c.loop-signal.table.items c.args.fan_in.now c.loop-signal.signal-index c.args.gate c.index_mut-gates.result.now c.loop-signal-test.true
          in_range c.index_mut-gates.ensures.value (ap (last_is c.args.gate) (sym c.items.ensures) ∙ sym w.if-not-ends_with.ensures) c.loop-signal.invariant in
          rw (w.table-is, w.in_ok-push.ensures.ok) more
      | else-not-ends_with w ↦
          let more = AddsReader-kept c.args.table.now.items c.loop-signal.table.items c.args.fan_in.now c.loop-signal.signal-index c.args.gate c.index_mut-gates.result.now c.loop-signal-test.true
          in_range c.requires.earlier c.index_mut-gates.ensures.value (ap (last_is c.args.gate) (sym c.items.ensures) ∙ sym w.if-not-ends_with.ensures) c.loop-signal.invariant in
          rw w.table-is more
    ]
