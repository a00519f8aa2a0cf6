use Rattle.std.proofs.Common.{sym, subst, ◌∙◌}
use Rattle.graph_update.specs.Engine.{EngineState}
use Rattle.worker_gate.specs.Fits.{Fits, nothing_since}
use Rattle.worker_gate.proofs.Beginning.{fits_itself}
use Rattle.worker_gate.proofs.hall.HallOf+Engine+A+A+Val+Kept.begin.Goals as goal

pub opened-requires-clause-full : goal.opened-requires-clause-full
opened-requires-clause-full g c κs within = (c.in-Ok.boxed, c.in-Ok-full_slot.ensures.full, c.in-Ok.ensures.ok ∙ sym c.of-origin.ensures)

pub opened-requires-clause-fits : goal.opened-requires-clause-fits
opened-requires-clause-fits g c κs within =
    subst (λ (engine : EngineState g.row.A.Denot g.row.A-Val.Denot). Fits g.A.App.meaning engine engine (nothing_since engine.progress)) (sym c.of-origin.ensures)
    (fits_itself c.rest_laws.ensures.idle c.continuing_laws.ensures.begin c.args.engine c.graph-pending.ensures.kept c.requires.idle c.requires.unmarked)
