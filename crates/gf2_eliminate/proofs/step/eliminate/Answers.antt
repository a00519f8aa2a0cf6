use Rattle.std.specs.Prelude.{◌+◌, Result, Ok, Err, OnOk, Some, None, refl}
use Rattle.std.specs.List.{AllByRecursion}
use Rattle.std.proofs.Common.{arith, ap, sym, ◌∙◌, subst}
use Rattle.std.proofs.lemmas.Result.{IfOk-weaker}
use Rattle.gf2_eliminate.specs.Lines.{numbers_in}
use Rattle.gf2_eliminate.specs.Lawful.{OfItself}
use Rattle.gf2_eliminate.specs.Plans.{as_used, text_with, HasRow}
use Rattle.gf2_eliminate.proofs.Adding.{IsRead, added_short, all_added, can_take_columns, can_take_rows, columns_up, nothing_added, others_short, rows_up}
use Rattle.gf2_eliminate.proofs.Held.{has_rows, holders_read, others_read, pivot_is, pivot_read, pivot_same, pivot_there, there_named}
use Rattle.gf2_eliminate.proofs.step.eliminate.Goals as goal

if_ok : {A E : Type 0} (result : Result A E) {P : Type 0} → P → OnOk result P
if_ok (Ok value) fact = fact
if_ok (Err error) fact = tt

pub line-requires : goal.line-requires
line-requires g c = there_named c.requires.held.2 (c.args.rows + c.args.column) (OfItself refl)

pub pivot_among-requires : goal.pivot_among-requires
pivot_among-requires g c =
    let at-column = c.ones-ones.ensures ∙ ap numbers_in c.line.ensures in
    subst (AllByRecursion (HasRow (g.C.Lines.has_line c.args.cells.now))) (sym (holders_read c.requires.held.2 c.ones-ones.result.now at-column)) (has_rows c.requires.held.2)

pub returns-in-None-clause-lines : goal.returns-in-None-clause-lines
returns-in-None-clause-lines g c = λ columns lines mine.
    let at-column = c.ones-ones.ensures ∙ ap numbers_in c.line.ensures in
    let none = pivot_read mine c.ones-ones.result.now at-column None c.in-None.ensures in
    if_ok c.free_line.result (nothing_added c.requires.laws c.args.rows columns c.args.column lines c.args.cells.now none)

pub returns-in-None-clause-text : goal.returns-in-None-clause-text
returns-in-None-clause-text g c = λ columns lines mine.
    let at-column = c.ones-ones.ensures ∙ ap numbers_in c.line.ensures in
    let none = pivot_read mine c.ones-ones.result.now at-column None c.in-None.ensures in
    IfOk-weaker c.free_line.result _ _ (λ text is. is ∙ ap (text_with c.args.column) (sym none)) c.free_line.ensures

pub overflow_add-pivot : goal.overflow_add-pivot
overflow_add-pivot g c =
    let at-column = c.ones-ones.ensures ∙ ap numbers_in c.line.ensures in
    let is-pivot = pivot_read c.requires.held.2 c.ones-ones.result.now at-column (Some c.in-Some.pivot) c.in-Some.ensures in
    let below = (pivot_is c.requires.held.2.fit c.requires.held.2.within c.in-Some.pivot is-pivot).0 in
    omega (arith, below, c.requires.held.2.few_rows)

pub new-others-requires : goal.new-others-requires
new-others-requires g c =
    let at-column = c.ones-ones.ensures ∙ ap numbers_in c.line.ensures in
    let is-pivot = pivot_read c.requires.held.2 c.ones-ones.result.now at-column (Some c.in-Some.pivot) c.in-Some.ensures in
    let others = others_read c.requires.held.2 c.ones-ones.result.now at-column c.in-Some.pivot c.in_ok-without-in-Some.field-0 c.in_ok-without-in-Some.ensures in
    others_short c.requires.laws c.args.cells.now c.requires.held.2 c.in-Some.pivot is-pivot c.in_ok-without-in-Some.field-0 others

pub line-requires-in-Some : goal.line-requires-in-Some
line-requires-in-Some g c =
    let at-column = c.ones-ones.ensures ∙ ap numbers_in c.line.ensures in
    let is-pivot = pivot_read c.requires.held.2 c.ones-ones.result.now at-column (Some c.in-Some.pivot) c.in-Some.ensures in
    pivot_there c.requires.held.2 c.in-Some.pivot is-pivot

pub new-added-requires : goal.new-added-requires
new-added-requires g c =
    let at-column = c.ones-ones.ensures ∙ ap numbers_in c.line.ensures in
    let is-pivot = pivot_read c.requires.held.2 c.ones-ones.result.now at-column (Some c.in-Some.pivot) c.in-Some.ensures in
    let added = c.in_ok-copy-in-Some.ensures ∙ c.ones.ensures ∙ ap numbers_in (c.line-in-Some.ensures ∙ pivot_same c.requires.held.2 c.in-Some.pivot is-pivot) in
    added_short c.requires.laws c.args.cells.now c.requires.held.2 c.in-Some.pivot is-pivot c.in_ok-copy-in-Some.field-0 added

pub line_mut-requires : goal.line_mut-requires
line_mut-requires g c =
    let at-column = c.ones-ones.ensures ∙ ap numbers_in c.line.ensures in
    let is-pivot = pivot_read c.requires.held.2 c.ones-ones.result.now at-column (Some c.in-Some.pivot) c.in-Some.ensures in
    pivot_there c.requires.held.2 c.in-Some.pivot is-pivot

pub add_to_lines-requires-clause-ready : goal.add_to_lines-requires-clause-ready
add_to_lines-requires-clause-ready g c =
    let at-column = c.ones-ones.ensures ∙ ap numbers_in c.line.ensures in
    let is-pivot = pivot_read c.requires.held.2 c.ones-ones.result.now at-column (Some c.in-Some.pivot) c.in-Some.ensures in
    let others = others_read c.requires.held.2 c.ones-ones.result.now at-column c.in-Some.pivot c.in_ok-without-in-Some.field-0 c.in_ok-without-in-Some.ensures in
    let added = c.in_ok-copy-in-Some.ensures ∙ c.ones.ensures ∙ ap numbers_in (c.line-in-Some.ensures ∙ pivot_same c.requires.held.2 c.in-Some.pivot is-pivot) in
    let read : IsRead c.requires.laws c.args.cells.now c.requires.held.2 c.in-Some.pivot is-pivot c.mark_used.new.self c.new-others.result c.new-added.result =
    record { line-is = c.mark_used.ensures ∙ ap as_used c.line_mut.ensures.value; others-are = c.new-others.ensures ∙ others; added-are = c.new-added.ensures ∙ added } in
    can_take_rows c.requires.laws c.args.cells.now c.requires.held.2 c.in-Some.pivot is-pivot read

pub add_to_lines-requires-clause-ascending : goal.add_to_lines-requires-clause-ascending
add_to_lines-requires-clause-ascending g c =
    let at-column = c.ones-ones.ensures ∙ ap numbers_in c.line.ensures in
    let is-pivot = pivot_read c.requires.held.2 c.ones-ones.result.now at-column (Some c.in-Some.pivot) c.in-Some.ensures in
    let others = others_read c.requires.held.2 c.ones-ones.result.now at-column c.in-Some.pivot c.in_ok-without-in-Some.field-0 c.in_ok-without-in-Some.ensures in
    let added = c.in_ok-copy-in-Some.ensures ∙ c.ones.ensures ∙ ap numbers_in (c.line-in-Some.ensures ∙ pivot_same c.requires.held.2 c.in-Some.pivot is-pivot) in
    let read : IsRead c.requires.laws c.args.cells.now c.requires.held.2 c.in-Some.pivot is-pivot c.mark_used.new.self c.new-others.result c.new-added.result =
    record { line-is = c.mark_used.ensures ∙ ap as_used c.line_mut.ensures.value; others-are = c.new-others.ensures ∙ others; added-are = c.new-added.ensures ∙ added } in
    rows_up c.requires.laws c.args.cells.now c.requires.held.2 c.in-Some.pivot is-pivot read

pub add_to_lines-requires-in-Some-clause-ready : goal.add_to_lines-requires-in-Some-clause-ready
add_to_lines-requires-in-Some-clause-ready g c =
    let at-column = c.ones-ones.ensures ∙ ap numbers_in c.line.ensures in
    let is-pivot = pivot_read c.requires.held.2 c.ones-ones.result.now at-column (Some c.in-Some.pivot) c.in-Some.ensures in
    let others = others_read c.requires.held.2 c.ones-ones.result.now at-column c.in-Some.pivot c.in_ok-without-in-Some.field-0 c.in_ok-without-in-Some.ensures in
    let added = c.in_ok-copy-in-Some.ensures ∙ c.ones.ensures ∙ ap numbers_in (c.line-in-Some.ensures ∙ pivot_same c.requires.held.2 c.in-Some.pivot is-pivot) in
    let read : IsRead c.requires.laws c.args.cells.now c.requires.held.2 c.in-Some.pivot is-pivot c.mark_used.new.self c.new-others.result c.new-added.result =
    record { line-is = c.mark_used.ensures ∙ ap as_used c.line_mut.ensures.value; others-are = c.new-others.ensures ∙ others; added-are = c.new-added.ensures ∙ added } in
    can_take_columns c.requires.laws c.args.cells.now c.requires.held.2 c.in-Some.pivot is-pivot read c.add_to_lines.new.cells c.add_to_lines.ensures

pub add_to_lines-requires-in-Some-clause-ascending : goal.add_to_lines-requires-in-Some-clause-ascending
add_to_lines-requires-in-Some-clause-ascending g c =
    let at-column = c.ones-ones.ensures ∙ ap numbers_in c.line.ensures in
    let is-pivot = pivot_read c.requires.held.2 c.ones-ones.result.now at-column (Some c.in-Some.pivot) c.in-Some.ensures in
    let others = others_read c.requires.held.2 c.ones-ones.result.now at-column c.in-Some.pivot c.in_ok-without-in-Some.field-0 c.in_ok-without-in-Some.ensures in
    let added = c.in_ok-copy-in-Some.ensures ∙ c.ones.ensures ∙ ap numbers_in (c.line-in-Some.ensures ∙ pivot_same c.requires.held.2 c.in-Some.pivot is-pivot) in
    let read : IsRead c.requires.laws c.args.cells.now c.requires.held.2 c.in-Some.pivot is-pivot c.mark_used.new.self c.new-others.result c.new-added.result =
    record { line-is = c.mark_used.ensures ∙ ap as_used c.line_mut.ensures.value; others-are = c.new-others.ensures ∙ others; added-are = c.new-added.ensures ∙ added } in
    columns_up c.requires.laws c.args.cells.now c.requires.held.2 c.in-Some.pivot is-pivot read

pub returns-in_ok-text-in-Some-clause-lines : goal.returns-in_ok-text-in-Some-clause-lines
returns-in_ok-text-in-Some-clause-lines g c = λ columns lines mine.
    let at-column = c.ones-ones.ensures ∙ ap numbers_in c.line.ensures in
    let is-pivot = pivot_read mine c.ones-ones.result.now at-column (Some c.in-Some.pivot) c.in-Some.ensures in
    let others = others_read mine c.ones-ones.result.now at-column c.in-Some.pivot c.in_ok-without-in-Some.field-0 c.in_ok-without-in-Some.ensures in
    let added = c.in_ok-copy-in-Some.ensures ∙ c.ones.ensures ∙ ap numbers_in (c.line-in-Some.ensures ∙ pivot_same mine c.in-Some.pivot is-pivot) in
    let read : IsRead c.requires.laws c.args.cells.now mine c.in-Some.pivot is-pivot c.mark_used.new.self c.new-others.result c.new-added.result =
    record { line-is = c.mark_used.ensures ∙ ap as_used c.line_mut.ensures.value; others-are = c.new-others.ensures ∙ others; added-are = c.new-added.ensures ∙ added } in
    all_added c.requires.laws c.args.cells.now mine c.in-Some.pivot is-pivot read c.add_to_lines.new.cells c.add_to_lines.ensures c.add_to_lines-in-Some.new.cells c.add_to_lines-in-Some.ensures

pub returns-in_ok-text-in-Some-clause-text : goal.returns-in_ok-text-in-Some-clause-text
returns-in_ok-text-in-Some-clause-text g c = λ columns lines mine.
    let at-column = c.ones-ones.ensures ∙ ap numbers_in c.line.ensures in
    let is-pivot = pivot_read mine c.ones-ones.result.now at-column (Some c.in-Some.pivot) c.in-Some.ensures in
    c.in_ok-text-in-Some.ensures ∙ ap (text_with c.args.column) (sym is-pivot)
