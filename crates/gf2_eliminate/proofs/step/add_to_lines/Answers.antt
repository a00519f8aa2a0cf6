use Rattle.std.specs.Prelude.{◌<◌, length}
use Rattle.std.proofs.Common.{arith, ap, sym, ◌∙◌, subst}
use Rattle.gf2_eliminate.specs.Lines.{numbers_in, IsListTo}
use Rattle.gf2_eliminate.specs.Plans.{with_sum}
use Rattle.gf2_eliminate.proofs.Adding.{IsLeft, left_all, left_less, left_none}
use Rattle.gf2_eliminate.proofs.step.add_to_lines.Goals as goal

pub loop-number-init : goal.loop-number-init
loop-number-init g c =
    subst (IsLeft g.C.Lines.held g.C.Lines.has_line g.C.Lines.put_at c.args.before c.args.numbers.now c.args.added.now c.args.cells.now c.args.cells.now) (sym (c.into_iter-number-iterator.ensures.into_iter_gives ∙ c.iter-number-items.ensures))
    (left_all c.requires.laws c.args.before c.args.numbers.now c.args.added.now c.args.cells.now c.requires.ready c.requires.ascending)

pub overflow_sub-number : goal.overflow_sub-number
overflow_sub-number g c =
    let so-far = subst (IsLeft g.C.Lines.held g.C.Lines.has_line g.C.Lines.put_at c.args.before c.args.numbers.now c.args.added.now c.args.cells.now c.loop-number.cells) c.in-Some.ensures.steps c.loop-number.invariant in
    so-far.ready.0.from_one

pub overflow_add-before : goal.overflow_add-before
overflow_add-before g c =
    let so-far = subst (IsLeft g.C.Lines.held g.C.Lines.has_line g.C.Lines.put_at c.args.before c.args.numbers.now c.args.added.now c.args.cells.now c.loop-number.cells) c.in-Some.ensures.steps c.loop-number.invariant in
    omega (arith, so-far.ready.0.from_one, so-far.ready.0.fits)

pub line_mut-requires : goal.line_mut-requires
line_mut-requires g c =
    let so-far = subst (IsLeft g.C.Lines.held g.C.Lines.has_line g.C.Lines.put_at c.args.before c.args.numbers.now c.args.added.now c.args.cells.now c.loop-number.cells) c.in-Some.ensures.steps c.loop-number.invariant in
    so-far.ready.0.there

pub add-requires : goal.add-requires
add-requires g c =
    let so-far = subst (IsLeft g.C.Lines.held g.C.Lines.has_line g.C.Lines.put_at c.args.before c.args.numbers.now c.args.added.now c.args.cells.now c.loop-number.cells) c.in-Some.ensures.steps c.loop-number.invariant in
    subst (λ line. 0 < length (numbers_in line)) (sym c.line_mut.ensures.value) so-far.ready.0.some

pub loop-number-preserved : goal.loop-number-preserved
loop-number-preserved g c =
    let now = c.loop-number.cells in
    let so-far = subst (IsLeft g.C.Lines.held g.C.Lines.has_line g.C.Lines.put_at c.args.before c.args.numbers.now c.args.added.now c.args.cells.now now) c.in-Some.ensures.steps c.loop-number.invariant in
    left_less c.requires.laws c.args.before c.args.numbers.now c.args.added.now c.args.cells.now now c.in-Some.number c.next.new.self c.add.new.self so-far
    (λ bound list other. c.add.ensures bound (subst (λ line. IsListTo bound (numbers_in line)) (sym c.line_mut.ensures.value) list) other ∙ ap (with_sum bound c.args.added.now) c.line_mut.ensures.value)

pub returns : goal.returns
returns g c = λ bound lists list. left_none c.requires.laws c.args.before c.args.numbers.now c.args.added.now c.args.cells.now c.loop-number.cells c.loop-number.number-iterator c.in-None.ensures.steps.0 c.loop-number.invariant bound lists list
