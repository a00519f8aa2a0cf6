use mir.Syntax.{of_param}
use Rattle.std.proofs.Common.{sym, subst}
use Rattle.std.proofs.lemmas.Result.{IfErr-weaker, on_ok_weaker}
use Rattle.source_pool.specs.Performing.{AreDone, EndAtFault, HaveEnded, MayEnd}
use Rattle.source_pool.specs.Round.{IsRoundFault}
use Rattle.source_pool.proofs.RoundDrawn.{round_at_fault, round_may_end, round_played}
use Rattle.source_pool.proofs.rounds.perform_and_end.Goals as goal

pub perform_round-requires : goal.perform_round-requires
perform_round-requires g c κs within =
    let asked = c.requires.1.1.1.1.1.1 in
    let sent = asked.0 in
    let horizon = asked.1.0 in (
      within.0,
      (
        within.1.0,
        (
          within.1.1.0,
          (
            within.1.1.1.0,
            (
              within.1.1.1.1,
              (
                record { owned = sent.owned; leaving = λ k. sent.leaving (λ _. k (of_param 3)) },
                (
                  record { owned = horizon.owned; leaving = λ k. horizon.leaving (λ _. k (of_param 4)) },
                  asked.1.1,
                ),
              ),
            ),
          ),
        ),
      ),
    )

pub end_all-requires-clause-may_end : goal.end_all-requires-clause-may_end
end_all-requires-clause-may_end g c κs within =
    let meaning = g.A.App.meaning in
    let app = c.args.engine.now.app in
    let old = c.args.engine.now.progress in
    let now = c.perform_round.new.engine.progress in
    let dones = c.perform_round.new.lists.dones.items in
    let its = c.in_ok-perform_round.ensures.drawn in
    subst (λ (a : g.row.A.Denot). MayEnd (meaning a) (AreDone (meaning a) dones) now) (sym c.perform_round.ensures.app) (round_may_end (meaning app) g.from (AreDone (meaning app) dones) old now its)

pub returns-clause-played : goal.returns-clause-played
returns-clause-played g c =
    let meaning = g.A.App.meaning in
    let app = c.args.engine.now.app in
    let old = c.args.engine.now.progress in
    let now = c.perform_round.new.engine.progress in
    let dones = c.perform_round.new.lists.dones.items in
    let its = c.in_ok-perform_round.ensures.drawn in
    let new = c.end_all.new.engine.progress in
    on_ok_weaker c.end_all.result (λ ended. round_played (meaning app) g.from (AreDone (meaning app) dones) old now its (c.ending_laws.ensures.rest app) new
    (subst (λ (a : g.row.A.Denot). HaveEnded (meaning a) (AreDone (meaning a) dones) now new) c.perform_round.ensures.app ended)) c.end_all.ensures.ended

pub returns-clause-fault : goal.returns-clause-fault
returns-clause-fault g c =
    let meaning = g.A.App.meaning in
    let app = c.args.engine.now.app in
    let old = c.args.engine.now.progress in
    let now = c.perform_round.new.engine.progress in
    let dones = c.perform_round.new.lists.dones.items in
    let its = c.in_ok-perform_round.ensures.drawn in
    let mid = c.perform_round.new.engine.app in
    IfErr-weaker c.end_all.result (EndAtFault (meaning mid) (AreDone (meaning mid) dones) now) (IsRoundFault (meaning app) g.from old)
    (λ why fault. round_at_fault (meaning app) g.from (AreDone (meaning app) dones) old now its why
    (subst (λ (a : g.row.A.Denot). EndAtFault (meaning a) (AreDone (meaning a) dones) now why) c.perform_round.ensures.app fault)) c.end_all.ensures.fault
