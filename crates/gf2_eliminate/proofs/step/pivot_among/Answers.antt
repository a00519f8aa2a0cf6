use Rattle.std.specs.List.{AllByRecursion}
use Rattle.std.proofs.Common.{ap, sym, ◌∙◌, subst}
use Rattle.gf2_eliminate.specs.Lines.{is_used}
use Rattle.gf2_eliminate.specs.Plans.{pivot_among, HasRow}
use Rattle.gf2_eliminate.proofs.Adding.{first_used, first_unused}
use Rattle.gf2_eliminate.proofs.step.pivot_among.Goals as goal

pub loop-row-init : goal.loop-row-init
loop-row-init g c =
    let all = c.into_iter-row-iterator.ensures.into_iter_gives ∙ c.iter-row-items.ensures in
    record {
      passed = sym (ap (pivot_among (g.C.Lines.held c.args.cells.now)) all);
      there = subst (AllByRecursion (HasRow (g.C.Lines.has_line c.args.cells.now))) (sym all) c.requires;
    }

pub overflow_sub-loc : goal.overflow_sub-loc
overflow_sub-loc g c = (subst (AllByRecursion (HasRow (g.C.Lines.has_line c.args.cells.now))) c.in-Some.ensures.steps c.loop-row.invariant.there).0.from_one

pub line-requires : goal.line-requires
line-requires g c = (subst (AllByRecursion (HasRow (g.C.Lines.has_line c.args.cells.now))) c.in-Some.ensures.steps c.loop-row.invariant.there).0.there

pub loop-row-preserved : goal.loop-row-preserved
loop-row-preserved g c =
    let held = g.C.Lines.held c.args.cells.now in
    let used = ap is_used (sym c.line.ensures) ∙ sym c.is_used.ensures ∙ c.if-not-is_used.false in
    record {
      passed = c.loop-row.invariant.passed ∙ ap (pivot_among held) c.in-Some.ensures.steps ∙ first_used held c.in-Some.row c.next.new.self used;
      there = (subst (AllByRecursion (HasRow (g.C.Lines.has_line c.args.cells.now))) c.in-Some.ensures.steps c.loop-row.invariant.there).1;
    }

pub returns-then-not-is_used : goal.returns-then-not-is_used
returns-then-not-is_used g c =
    let held = g.C.Lines.held c.args.cells.now in
    let free = ap is_used (sym c.line.ensures) ∙ sym c.is_used.ensures ∙ c.if-not-is_used.true in
    sym (c.loop-row.invariant.passed ∙ ap (pivot_among held) c.in-Some.ensures.steps ∙ first_unused held c.in-Some.row c.next.new.self free)

pub returns : goal.returns
returns g c = sym (c.loop-row.invariant.passed ∙ ap (pivot_among (g.C.Lines.held c.args.cells.now)) c.in-None.ensures.steps.0)
