use Rattle.std.proofs.Common.{◌∙◌, sym}
use Rattle.hall_trials.proofs.Ending.{sequential_end}
use Rattle.hall_trials.proofs.outcomes.finals_of.Goals as goal

pub returns-in_ok-end-in-None : goal.returns-in_ok-end-in-None
returns-in_ok-end-in-None g c =
    let origin = c.args.origin.now.value in
    let on = c.requires.gone_on in
    let tells = c.in_ok-end-in-None.ensures in
    sequential_end origin.progress c.args.engine.progress on.sum on.fits.progress (c.course_run_laws.ensures.end origin.app) c.join_laws.ensures.length
    c.requires.logged on.drained (sym c.graph.ensures.nodes ∙ c.in-None.ensures.empty) c.in_ok-end-in-None.field-0 tells.store tells.text tells.count
