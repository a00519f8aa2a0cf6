use Rattle.std.proofs.Common.{sym, subst}
use Rattle.cell_store.specs.Values.{AreAllHome}
use Rattle.format_trials.proofs.circuits.run.Goals as goal

pub print_finals-requires-clause-home : goal.print_finals-requires-clause-home
print_finals-requires-clause-home c =
    let run = c.in_ok-finals.ensures.run in subst AreAllHome (sym run.store) (c.value_laws.ensures.values.all_home run.end.cells)
