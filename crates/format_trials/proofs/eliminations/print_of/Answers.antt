use Rattle.std.proofs.Common.{ap, sym, ◌∙◌}
use Rattle.cell_store.specs.Values.{homes, values_of}
use Rattle.format_trials.proofs.eliminations.print_of.Goals as goal

-- what a serial run leaves is the cells of its end, all home
pub print_finals-requires-clause-home : goal.print_finals-requires-clause-home
print_finals-requires-clause-home c =
    let run = c.in_ok-finals.ensures.run in
    run.store ∙ ap homes (sym (ap values_of run.store ∙ c.value_laws.ensures.values.values_of_homes run.end.cells))
