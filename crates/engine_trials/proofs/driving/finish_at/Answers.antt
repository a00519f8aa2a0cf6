use Rattle.std.proofs.Common.{sym, subst}
use Rattle.engine_trials.specs.InHand.{AreInHand}
use Rattle.engine_trials.proofs.Hands.{after_finish}
use Rattle.engine_trials.proofs.driving.finish_at.Goals as goal

pub returns-clause-in_hand : goal.returns-clause-in_hand
returns-clause-in_hand g c =
    subst (λ (own : g.row.A.Denot). AreInHand (g.A.App.meaning own) c.finish_uncounted.new.self.progress c.perform_at.new.jobs.items) (sym c.in_ok-finish_uncounted.ensures.app)
    (after_finish (g.A.App.meaning c.args.engine.now.app) c.args.engine.now.progress c.finish_uncounted.new.self.progress c.perform_at.new.jobs.items c.in_ok-done.done
    c.in_ok-finish_uncounted.ensures.sound c.in_ok-done.ensures.beside)
