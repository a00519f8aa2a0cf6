use Rattle.std.proofs.Common.{arith, sym, ◌∙◌}
use Rattle.rw_sets.specs.declared.access.Access.TheVariants.{Read}
use Rattle.cell_store.proofs.Locations.{writes_in_place, home_in_range}
use Rattle.cell_store.proofs.Parts.{written_taken_out}
use Rattle.cell_store.proofs.AtHome.{drop_start, drop_read, drop_write, drop_end}
use Rattle.cell_store.proofs.store.Store.drop_written.Goals.{then-is_write+in-Home-1, then-is_write+in-Out-1, else-is_write}
use Rattle.cell_store.proofs.store.Store.drop_written.Goals as goal

pub loop-loc-init : goal.loop-loc-init
loop-loc-init g c = drop_start _ _ _ c.self.view_is

pub index_mut-requires : goal.index_mut-requires
index_mut-requires g c =
    let ps = c.items-loc-items.result.now in
    let home = rw (← c.items-loc-items.ensures.all) at c.requires in
    let up = rw (← c.items-loc-items.ensures.all) at c.items-loc-items.ensures.ascending in
    let within = home_in_range c.args.self.now _ (home _ (writes_in_place ps c.loop-loc.loc-index (0, Read) up c.loop-loc-test.true (sym c.is_write.ensures ∙ c.if-is_write.true))) in
    omega (arith, within, c.loop-loc.invariant.same_length)

pub loop-loc-preserved : goal.loop-loc-preserved
loop-loc-preserved g c =
    let ps = c.items-loc-items.result.now in
    let up = rw (← c.items-loc-items.ensures.all) at c.items-loc-items.ensures.ascending in
    elim c.if-is_write.branch [
      | then-is_write+in-Home-1 w ↦ rw w.self-inside-is (drop_write _ ps _ c.loop-loc.loc-index c.loop-loc-test.true (sym c.is_write.ensures ∙ w.if-is_write.true) c.loop-loc.invariant)
      | then-is_write+in-Out-1 w ↦ rw w.self-inside-is (drop_write _ ps _ c.loop-loc.loc-index c.loop-loc-test.true (sym c.is_write.ensures ∙ w.if-is_write.true) c.loop-loc.invariant)
      | else-is_write w ↦ rw w.self-inside-is (drop_read _ ps _ c.loop-loc.loc-index up c.loop-loc-test.true (sym c.is_write.ensures ∙ w.if-is_write.false) c.loop-loc.invariant)
    ]

pub returns-clause-taken : goal.returns-clause-taken
returns-clause-taken g c = rw (← c.items-loc-items.ensures.all) (drop_end _ _ _ c.loop-loc.loc-index (omega arith) c.loop-loc.invariant)

pub returns-clause-out : goal.returns-clause-out
returns-clause-out g c =
    let taken = drop_end _ _ _ c.loop-loc.loc-index (omega arith) c.loop-loc.invariant in
    rw (taken, c.items-loc-items.ensures.all) (written_taken_out c.args.self.now c.args.set.now c.requires)
