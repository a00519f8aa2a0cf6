use mir.Syntax.{of_param}
use Rattle.std.proofs.Common.{◌≡◌, ◌++◌, List, ℕ, false, sym, ap, subst, ◌∙◌, arith}
use Rattle.cell_store.specs.Values.{values_of}
use Rattle.commuting.specs.Rounds.{after_round}
use Rattle.run_laws.specs.Events.{drained}
use Rattle.source_pool.specs.Course.{IsAtRest}
use Rattle.source_pool.specs.Streams.{told_by}
use Rattle.text_outlet.specs.declared.outlet.Outlet.{Outlet}
use Rattle.source_pool.proofs.Telling.{ended_same, none_after, rest_told, same_told}
use Rattle.source_pool.proofs.rounds.play_round.Goals as goal

pub act_or_perform-requires : goal.act_or_perform-requires
act_or_perform-requires g c κs within =
    let asked = c.requires.1.1.1.1.1.1.1 in
    let sent = asked.0 in
    let horizon = asked.1.0 in
    let others = asked.1.1 in (
      within.0,
      (
        within.1.0,
        (
          within.1.1.0,
          (
            within.1.1.1.0,
            (
              within.1.1.1.1.0,
              (
                within.1.1.1.1.1,
                (
                  record { owned = sent.owned; leaving = λ k. sent.leaving (λ _. k (of_param 4)) },
                  (
                    record { owned = horizon.owned; leaving = λ k. horizon.leaving (λ _. k (of_param 5)) },
                    (others.0, (others.1.0, (others.1.1.0, (others.1.1.1.0, (others.1.1.1.1.0, others.1.1.1.1.1.1))))),
                  ),
                ),
              ),
            ),
          ),
        ),
      ),
    )

pub returns-clause-played : goal.returns-clause-played
returns-clause-played g c =
    let app = g.A.App.meaning c.args.engine.now.app in
    let start = g.from.start in
    let cells = values_of start.cells in
    let next = after_round app g.from.state in
    let had = c.args.outlet.now.has_failed in
    let middle = c.act_or_perform.new.engine.progress in
    let now = c.tell.new.engine.progress in
    let played = c.in_ok-act_or_perform.ensures.played in
    let drain = subst (λ (other : g.row.A.Denot). had ≡ false → now ≡ drained (g.A.App.meaning other) middle) c.act_or_perform.ensures.app c.in_ok-tell.ensures.drains in
    let told = subst (λ (other : g.row.A.Denot). c.tell.new.outlet.told ≡ c.args.outlet.now.told ++ told_by (g.A.App.meaning other) had middle) c.act_or_perform.ensures.app c.in_ok-tell.ensures.told in
    let rest = rest_told (c.draining_laws.ensures c.args.engine.now.app) start middle now cells next g.from.text had played.rest drain c.tell.ensures.stands in
    let ended = ended_same app middle now had drain c.tell.ensures.stands in
    record {
      rest = subst (λ (t : List ℕ). IsAtRest app start cells next t now) (ap (λ (front : List ℕ). front ++ told_by app had middle) (sym c.requires.1.1.1.1.1.1.1.1.1.1.1.1.1.1.0) ∙ sym told) rest;
      some = omega (arith, ended, played.some);
      counted = ended ∙ played.counted;
    }

pub returns-clause-drained : goal.returns-clause-drained
returns-clause-drained g c =
    let app = g.A.App.meaning c.args.engine.now.app in
    let had = c.args.outlet.now.has_failed in
    let middle = c.act_or_perform.new.engine.progress in
    let now = c.tell.new.engine.progress in
    let drain = subst (λ (other : g.row.A.Denot). had ≡ false → now ≡ drained (g.A.App.meaning other) middle) c.act_or_perform.ensures.app c.in_ok-tell.ensures.drains in
    none_after app middle now had drain

pub returns-clause-same : goal.returns-clause-same
returns-clause-same g c =
    let app = g.A.App.meaning c.act_or_perform.new.engine.app in
    same_told app c.act_or_perform.new.engine.progress c.args.outlet.now.told c.tell.new.outlet.told c.args.outlet.now.has_failed c.in_ok-tell.ensures.told

pub returns-in_err-tell-clause-same : goal.returns-in_err-tell-clause-same
returns-in_err-tell-clause-same g c = λ failed. ap (λ (outlet : Outlet). outlet.told) c.in_err-tell.ensures.nothing_told.0

pub returns-clause-told : goal.returns-clause-told
returns-clause-told g c =
    let app = g.A.App.meaning c.act_or_perform.new.engine.app in
    (told_by app c.args.outlet.now.has_failed c.act_or_perform.new.engine.progress, c.in_ok-tell.ensures.told, c.in_ok-tell.ensures.tells)
