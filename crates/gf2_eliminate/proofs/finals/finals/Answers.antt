use Rattle.std.specs.Prelude.{◌≡◌, ◌+◌, ◌<◌, ◌++◌, true, false, length, if◌then◌else◌}
use Rattle.std.proofs.Common.{arith, sym, ap, ◌∙◌}
use Rattle.cell_store.specs.Values.{values_of}
use Rattle.gf2_eliminate.specs.Lines.{is_used}
use Rattle.gf2_eliminate.specs.Start.{row_text}
use Rattle.gf2_eliminate.proofs.Printing.{row_home, row_printed, row_counted, not_out}
use Rattle.gf2_eliminate.proofs.finals.finals.Goals as goal
use Rattle.gf2_eliminate.proofs.finals.finals.Goals.{in-At+in_ok-places-in-At+in_ok-push_row-in-At+then-is_used, in-At+in_ok-places-in-At+in_ok-push_row-in-At+else-is_used, in-Out}

pub loop-row-preserved : goal.loop-row-preserved
loop-row-preserved c =
    let store = c.args.store.now in
    let cells = values_of store in
    let row = c.loop-row.row in
    let rank = c.loop-row.rank in
    let below : row < length cells = omega (arith, c.requires.fit.1.count, c.loop-row-test.true) in
    elim c.match-peek.branch [
      | in-At+in_ok-places-in-At+in_ok-push_row-in-At+then-is_used w ↦
          let line = w.in-At.line.now in
          let here = row_home store row line c.requires.home below w.in-At.ensures in
          let used : is_used line ≡ true = sym w.is_used.ensures ∙ w.if-is_used.true in
          record {
            text = w.text-is ∙ row_printed cells row c.loop-row.text w.push_row.new.text line c.loop-row.invariant.text (w.in_ok-push_row-in-At.ensures ∙ ap (λ ns. c.loop-row.text ++ row_text row ns) (w.deref.ensures.value ∙ w.in_ok-places-in-At.ensures ∙ w.ones.ensures)) here;
            rank = w.rank-is ∙ ap (λ b. if b then rank + 1 else rank) (sym used) ∙ row_counted cells row rank line c.loop-row.invariant.rank here;
            few = omega (arith, w.rank-is);
          }
      | in-At+in_ok-places-in-At+in_ok-push_row-in-At+else-is_used w ↦
          let line = w.in-At.line.now in
          let here = row_home store row line c.requires.home below w.in-At.ensures in
          let unused : is_used line ≡ false = sym w.is_used.ensures ∙ w.if-is_used.false in
          record {
            text = w.text-is ∙ row_printed cells row c.loop-row.text w.push_row.new.text line c.loop-row.invariant.text (w.in_ok-push_row-in-At.ensures ∙ ap (λ ns. c.loop-row.text ++ row_text row ns) (w.deref.ensures.value ∙ w.in_ok-places-in-At.ensures ∙ w.ones.ensures)) here;
            rank = w.rank-is ∙ ap (λ b. if b then rank + 1 else rank) (sym unused) ∙ row_counted cells row rank line c.loop-row.invariant.rank here;
            few = omega (arith, w.rank-is);
          }
      | in-Out w ↦ absurd (not_out store row c.requires.home below w.in-Out.ensures)
    ]
