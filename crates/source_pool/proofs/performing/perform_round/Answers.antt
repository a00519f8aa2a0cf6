use mir.Syntax.{of_param}
use Rattle.std.proofs.Common.{◌∙◌, subst}
use Rattle.app_laws.specs.Applications.{Application}
use Rattle.source_pool.specs.Performing.{AreDoneInSomeTurn}
use Rattle.source_pool.proofs.EndsInKeyOrder.{ends_in_key_order}
use Rattle.source_pool.proofs.performing.perform_round.Goals as goal

pub draw-requires : goal.draw-requires
draw-requires g c κs within =
    let asked = c.requires.1.1.1.1.1 in
    let sent = asked.0 in
    let horizon = asked.1.0 in (
      within.0,
      (
        within.1.0,
        (
          within.1.1.0,
          (
            within.1.1.1,
            (
              record { owned = sent.owned; leaving = λ k. sent.leaving (λ _. k (of_param 2)) },
              (record { owned = horizon.owned; leaving = λ k. horizon.leaving (λ _. k (of_param 3)) }, asked.1.1.1.1.1.1.0.rest),
            ),
          ),
        ),
      ),
    )

pub returns-clause-drawn : goal.returns-clause-drawn
returns-clause-drawn g c =
    let own = c.args.engine.now.app in
    let app : Application g.row.A-Val.Denot = g.A.App.meaning own in
    let jobs = c.draw.new.jobs.items in
    let dones = c.perform_drawn.new.lists.dones.items in
    let performed = subst (λ (other : g.row.A.Denot). AreDoneInSomeTurn (g.A.App.meaning other) jobs dones) (c.app.ensures ∙ c.draw.ensures.app) c.in_ok-perform_drawn.ensures.done in
    ends_in_key_order app g.from c.args.engine.now.progress c.draw.new.engine.progress jobs dones c.order_ends.new.dones.items
    (c.drawing_laws.ensures.differ own) c.ascending_laws.ensures.any_order c.earlier_laws.ensures.connected
    c.in_ok-draw.ensures.drawing c.in_ok-draw.ensures.none_clear performed c.order_ends.ensures.all c.order_ends.ensures.in_order
    (c.drawing_laws.ensures.round own) (c.kept_laws.ensures.ends own) (c.drawing_laws.ensures.some own) c.requires.1.1.1.1.1.1.1.1.1.1.1.0 c.in_ok-draw.ensures.ended
