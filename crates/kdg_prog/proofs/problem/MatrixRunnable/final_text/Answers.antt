use Rattle.std.proofs.Common.{sym}
use Rattle.kdg_prog.proofs.problem.MatrixRunnable.final_text.Goals as goal

pub print_finals-requires-clause-home : goal.print_finals-requires-clause-home
print_finals-requires-clause-home c = sym (c.value_laws.ensures.values.homes_of_values c.args.store.now c.requires.home)
