use Rattle.std.proofs.Common.{arith, ap, ◌++◌, ℕ, List}
use Rattle.cell_store.specs.Values.{values_of}
use Rattle.level_walk.specs.Levels.{level_texts}
use Rattle.level_walk.proofs.Visiting.{all_lines, is_home, line_more}
use Rattle.level_walk.proofs.walk.Walk.print_finals.Goals as goal

pub loop-loc-init : goal.loop-loc-init
loop-loc-init c = ap (λ (text : List ℕ). text ++ level_texts 1 (values_of c.args.store.now)) c.new-text.ensures

pub value-requires-after_bounds : goal.value-requires-after_bounds
value-requires-after_bounds c = λ κs.
    let count = c.len-loc-end.ensures in
    is_home c.args.store.now c.loop-loc.loc c.requires.home (omega (arith, c.loop-loc-test.true, count))

pub loop-loc-preserved : goal.loop-loc-preserved
loop-loc-preserved c =
    let count = c.len-loc-end.ensures in
    line_more c.args.store.now c.loop-loc.loc c.loop-loc.text c.push_level.new.text _ c.value.result.now c.requires.home (omega (arith, c.loop-loc-test.true, count))
    c.loop-loc.invariant c.value.ensures c.in_ok-push_level.ensures

pub returns : goal.returns
returns c =
    let count = c.len-loc-end.ensures in
    all_lines c.args.store.now c.loop-loc.loc c.loop-loc.text c.requires.home (omega (arith, c.loop-loc-test.false, count)) c.loop-loc.invariant
