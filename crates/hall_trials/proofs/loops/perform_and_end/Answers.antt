use Rattle.hall_trials.proofs.Working.{is_only}
use Rattle.hall_trials.proofs.loops.perform_and_end.Goals as goal

pub end_or_stop-requires-clause-done : goal.end_or_stop-requires-clause-done
end_or_stop-requires-clause-done g c κs within =
    is_only g.A.App.meaning c.args.hall.now.origin.app c.requires.app c.requires.only c.in-Ok.ensures.node c.in-Ok.ensures.task c.in-Ok.ensures.effect
