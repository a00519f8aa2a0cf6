use Rattle.std.proofs.Common.{◌∙◌, ◌+◌, ℕ, length, ap, arith}
use Rattle.std.specs.Prelude.{min}
use Rattle.logic_sim.proofs.Counts.{changes_few, late_counted, timely_counted}
use Rattle.logic_sim.proofs.event.change_count.Goals.{then-stimulus-until, else-stimulus-until}
use Rattle.logic_sim.proofs.event.change_count.Goals as goal

pub overflow_add-count : goal.overflow_add-count
overflow_add-count c =
    let few = changes_few c.args.until c.args.inputs.now c.args.stimuli.now c.loop-stimulus.stimulus-index c.requires.inputs c.requires.stimuli in
    omega (arith, few, c.loop-stimulus.invariant, c.min-count.ensures)

pub loop-stimulus-preserved : goal.loop-stimulus-preserved
loop-stimulus-preserved c = elim c.if-stimulus-until.branch [
  | then-stimulus-until w ↦
      let more = timely_counted c.args.until c.args.inputs.now c.args.stimuli.now c.loop-stimulus.stimulus-index c.loop-stimulus.count c.stimulus-item.result c.loop-stimulus-test.true c.stimulus-item.is w.if-stimulus-until.true c.loop-stimulus.invariant in
      w.count-is ∙ ap (λ (n : ℕ). c.loop-stimulus.count + n) (w.min-count.ensures ∙ ap (λ (n : ℕ). min (length c.args.inputs.now) n) (ap length w.items.ensures)) ∙ more
  | else-stimulus-until w ↦
      let more = late_counted c.args.until c.args.inputs.now c.args.stimuli.now c.loop-stimulus.stimulus-index c.loop-stimulus.count c.stimulus-item.result c.loop-stimulus-test.true c.stimulus-item.is w.if-stimulus-until.false c.loop-stimulus.invariant in
      w.count-is ∙ more
]
