use Rattle.std.proofs.Common.{◌<◌, length, arith, get_or, ◌∙◌, sym}
use Rattle.std.proofs.lemmas.List.{get_or_default}
use borrow.Author.Rules.{scaled_Fits}
use Rattle.rw_sets.specs.declared.access.Access.TheVariants.{Read}
use Rattle.cell_store.specs.declared.cell.Cell.TheVariants.{Out}
use Rattle.cell_store.proofs.Locations.{writes_in_place}
use Rattle.cell_store.proofs.Exchanges.{exchange_start, exchange_end, exchange_read, exchange_write}
use Rattle.cell_store.proofs.exchange.exchange_many.Goals.{then-is_write, else-is_write}
use Rattle.cell_store.proofs.exchange.exchange_many.Goals as goal

pub loop-i-init : goal.loop-i-init
loop-i-init g c = exchange_start _ _ _ c.requires.one_each

pub offset_bounds-home-loc : goal.offset_bounds-home-loc
offset_bounds-home-loc g c = scaled_Fits _ _ _ (c.requires.in_range _ (writes_in_place c.args.set.now c.loop-i.i (0, Read) c.requires.ascending c.loop-i-test.true (sym c.is_write.ensures ∙ c.if-is_write.true))) c.well_formed.0.1

pub bounds-home-loc : goal.bounds-home-loc
bounds-home-loc g c = omega (arith, c.requires.in_range _ (writes_in_place c.args.set.now c.loop-i.i (0, Read) c.requires.ascending c.loop-i-test.true (sym c.is_write.ensures ∙ c.if-is_write.true)))

pub loop-i-preserved : goal.loop-i-preserved
loop-i-preserved g c = elim c.if-is_write.branch [
  | then-is_write w ↦
      let written = sym c.is_write.ensures ∙ w.if-is_write.true in
      let within = c.requires.in_range _ (writes_in_place c.args.set.now c.loop-i.i (0, Read) c.requires.ascending c.loop-i-test.true written) in
      let has-place : c.loop-i.i < length c.loop-i.held = omega (arith, c.loop-i.invariant.one_each, c.loop-i-test.true) in
      let from-held = w.swap.ensures.x_after ∙ get_or_default c.loop-i.held c.loop-i.i w.index-held-i.result Out has-place in
      let from-home = w.swap.ensures.y_after ∙ get_or_default c.loop-i.home (get_or c.args.set.now c.loop-i.i (0, Read)).0 w.index-home-loc.result Out (omega arith) in
      rw (w.home-is, w.held-is, from-held, from-home) (exchange_write _ _ _ _ _ c.loop-i.i c.requires.ascending c.loop-i-test.true written (omega arith) c.loop-i.invariant)
  | else-is_write w ↦ rw (w.home-is, w.held-is) (exchange_read _ _ _ _ _ c.loop-i.i c.requires.ascending c.loop-i-test.true (sym c.is_write.ensures ∙ w.if-is_write.false) c.loop-i.invariant)
]

pub returns : goal.returns
returns g c = exchange_end _ _ _ _ _ _ (omega arith) c.loop-i.invariant
