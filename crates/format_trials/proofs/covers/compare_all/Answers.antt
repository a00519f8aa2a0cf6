use Rattle.std.specs.Prelude.{List}
use Rattle.std.proofs.Common.{ap, sym, ◌∙◌, subst}
use Rattle.cell_store.specs.Values.{homes, values_of}
use Rattle.gf2_eliminate.specs.declared.line.Line2.{Line2}
use Rattle.gf2_eliminate.specs.Lines.{AreLines}
use Rattle.format_trials.proofs.covers.compare_all.Goals as goal

-- the store begins with the cells, all home
pub are_alike-requires-clause-home : goal.are_alike-requires-clause-home
are_alike-requires-clause-home g c =
    let cells = c.in_ok-cells.cells.items in
    c.in_ok-store.ensures ∙ ap homes (sym (ap values_of c.in_ok-store.ensures ∙ c.value_laws.ensures.values.values_of_homes cells))

pub are_alike-requires-clause-fit : goal.are_alike-requires-clause-fit
are_alike-requires-clause-fit g c =
    let cells = c.in_ok-cells.cells.items in
    subst (λ (values : List Line2). AreLines c.new-matrix.result.rows c.new-matrix.result.cols values)
    (sym (ap values_of c.in_ok-store.ensures ∙ c.value_laws.ensures.values.values_of_homes cells)) c.in_ok-cells.ensures.fit
