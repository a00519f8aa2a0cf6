use Rattle.std.proofs.Common.{arith}
use Rattle.graph_update.proofs.agenda.Agenda.end_within.Goals as goal

pub created-created-requires : goal.created-created-requires
created-created-requires g c =
    let counts = c.requires.home.is_done.sound.keys_and_counts in
    omega (arith, counts.created, counts.within, c.requires.limited, c.len.ensures, c.items.ensures)
