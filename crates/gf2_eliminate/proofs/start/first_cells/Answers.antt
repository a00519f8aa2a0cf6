use Rattle.std.specs.Prelude.{◌≡◌, ◌+◌, ◌-◌, ◌++◌, [], ◌∷◌, List, length, take}
use Rattle.std.proofs.Common.{arith, sym, ap, ◌∙◌, subst, get_or, length-set}
use Rattle.std.proofs.lemmas.List.{take_all, take_more}
use Rattle.plain_laws.specs.Lists.{All-get_or}
use Rattle.mtx_reader.specs.Ascending.{IsAscendingBy}
use Rattle.mtx_reader.specs.Places.{Place, place_cmp, IsWithin}
use Rattle.gf2_eliminate.specs.Lines.{line_at}
use Rattle.gf2_eliminate.specs.Start.{with_number}
use Rattle.gf2_eliminate.proofs.FirstCells.{lines_so_far, place_put, all_put, ascending_to, row_behind, column_behind, length_so_far}
use Rattle.gf2_eliminate.proofs.start.first_cells.Goals as goal

pub put_one-requires-clause-there : goal.put_one-requires-clause-there
put_one-requires-clause-there c =
    let pattern = c.args.pattern.now in
    let place : Place = get_or c.items-row-items.result.now c.loop-row.row-index (0, 0) in
    let within : IsWithin pattern.rows pattern.cols place =
    All-get_or (IsWithin pattern.rows pattern.cols) c.items-row-items.result.now c.loop-row.row-index (0, 0) c.loop-row-test.true (rw c.items-row-items.ensures.all c.requires.within) in
    let long = ap length c.loop-row.invariant ∙ length_so_far pattern.rows pattern.cols (take c.loop-row.row-index pattern.places) in
    omega (arith, long, within.row.0, within.row.1)

pub put_one-requires-clause-behind : goal.put_one-requires-clause-behind
put_one-requires-clause-behind c =
    let pattern = c.args.pattern.now in
    let i = c.loop-row.row-index in
    let places = c.items-row-items.result.now in
    let place : Place = get_or places i (0, 0) in
    let within : IsWithin pattern.rows pattern.cols place = All-get_or (IsWithin pattern.rows pattern.cols) places i (0, 0) c.loop-row-test.true (rw c.items-row-items.ensures.all c.requires.within) in
    let up : IsAscendingBy place_cmp (take i pattern.places ++ place ∷ []) = subst (λ (ps : List Place). IsAscendingBy place_cmp (take i ps ++ place ∷ [])) c.items-row-items.ensures.all
    (ascending_to places i (0, 0) c.loop-row-test.true (rw c.items-row-items.ensures.all c.requires.ascending)) in
    row_behind pattern.rows pattern.cols (take i pattern.places) place.0 place.1 up within c.loop-row.lines.items c.loop-row.invariant

pub put_one-requires-in-loop-row-clause-behind : goal.put_one-requires-in-loop-row-clause-behind
put_one-requires-in-loop-row-clause-behind c =
    let pattern = c.args.pattern.now in
    let i = c.loop-row.row-index in
    let places = c.items-row-items.result.now in
    let place : Place = get_or places i (0, 0) in
    let within : IsWithin pattern.rows pattern.cols place = All-get_or (IsWithin pattern.rows pattern.cols) places i (0, 0) c.loop-row-test.true (rw c.items-row-items.ensures.all c.requires.within) in
    let up : IsAscendingBy place_cmp (take i pattern.places ++ place ∷ []) = subst (λ (ps : List Place). IsAscendingBy place_cmp (take i ps ++ place ∷ [])) c.items-row-items.ensures.all
    (ascending_to places i (0, 0) c.loop-row-test.true (rw c.items-row-items.ensures.all c.requires.ascending)) in
    column_behind pattern.rows pattern.cols (take i pattern.places) place.0 place.1 up within c.loop-row.lines.items c.loop-row.invariant
    c.put_one.new.lines.items (with_number (line_at c.loop-row.lines.items (place.0 - 1)) place.1) c.in_ok-put_one.ensures

pub overflow_add-rows : goal.overflow_add-rows
overflow_add-rows c =
    let pattern = c.args.pattern.now in
    let place : Place = get_or c.items-row-items.result.now c.loop-row.row-index (0, 0) in
    let within : IsWithin pattern.rows pattern.cols place =
    All-get_or (IsWithin pattern.rows pattern.cols) c.items-row-items.result.now c.loop-row.row-index (0, 0) c.loop-row-test.true (rw c.items-row-items.ensures.all c.requires.within) in
    omega (arith, within.column.0, within.column.1, c.requires.rows, c.requires.columns)

pub put_one-requires-in-loop-row-clause-there : goal.put_one-requires-in-loop-row-clause-there
put_one-requires-in-loop-row-clause-there c =
    let pattern = c.args.pattern.now in
    let place : Place = get_or c.items-row-items.result.now c.loop-row.row-index (0, 0) in
    let within : IsWithin pattern.rows pattern.cols place =
    All-get_or (IsWithin pattern.rows pattern.cols) c.items-row-items.result.now c.loop-row.row-index (0, 0) c.loop-row-test.true (rw c.items-row-items.ensures.all c.requires.within) in
    let long = ap length c.in_ok-put_one.ensures ∙ length-set c.loop-row.lines.items (place.0 - 1) (with_number (line_at c.loop-row.lines.items (place.0 - 1)) place.1)
    ∙ ap length c.loop-row.invariant ∙ length_so_far pattern.rows pattern.cols (take c.loop-row.row-index pattern.places) in
    omega (arith, long, within.column.0, within.column.1)

pub loop-row-preserved : goal.loop-row-preserved
loop-row-preserved c =
    let pattern = c.args.pattern.now in
    let i = c.loop-row.row-index in
    let place : Place = get_or c.items-row-items.result.now i (0, 0) in
    let within : IsWithin pattern.rows pattern.cols place =
    All-get_or (IsWithin pattern.rows pattern.cols) c.items-row-items.result.now i (0, 0) c.loop-row-test.true (rw c.items-row-items.ensures.all c.requires.within) in
    place_put pattern.rows pattern.cols (take i pattern.places) place.0 place.1 within c.loop-row.lines.items c.put_one.new.lines.items c.put_one-in-loop-row.new.lines.items c.loop-row.invariant c.in_ok-put_one.ensures c.in_ok-put_one-2.ensures
    ∙ ap (lines_so_far pattern.rows pattern.cols) (subst (λ (places : List Place). take i places ++ place ∷ [] ≡ take (i + 1) places) c.items-row-items.ensures.all (sym (take_more c.items-row-items.result.now i (0, 0) c.loop-row-test.true)))

pub returns : goal.returns
returns c =
    let pattern = c.args.pattern.now in
    let past = ap length (sym c.items-row-items.ensures.all) in
    c.loop-row.invariant ∙ ap (lines_so_far pattern.rows pattern.cols) (take_all c.loop-row.row-index pattern.places (omega (arith, past, c.loop-row-test.false))) ∙ all_put pattern c.requires
