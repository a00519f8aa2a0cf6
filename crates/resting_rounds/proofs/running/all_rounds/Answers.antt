use Rattle.std.proofs.Common.{◌≡◌, ◌∙◌, subst, sym}
use Rattle.commuting.specs.Clear.{IsReady}
use Rattle.commuting.specs.Rounds.{after_round}
use Rattle.commuting.specs.States.{State}
use Rattle.resting_rounds.specs.Found.{IsFound}
use Rattle.resting_rounds.specs.Waiting.{AreWaiting}
use Rattle.resting_rounds.proofs.RoundLaws.{go_on_waiting}
use Rattle.resting_rounds.proofs.running.all_rounds.Goals as goal

pub loop-run-preserved : goal.loop-run-preserved
loop-run-preserved g c =
    let run = c.loop-run.run in
    let next = c.in_ok-run.run' in
    let app = c.args.run.app in
    let made = c.find_clear.new.list.found in
    let inv = c.loop-run.invariant in
    let next_is = c.in_ok-run.ensures.next in
    let found = subst (λ a. IsFound (g.A.App.meaning a) (g.A.Resting.covers a) run.state run.state.pending made) inv.app c.in_ok-find_clear.ensures in
    let ready = subst (λ a. IsReady (g.A.App.meaning a) run.state) inv.app c.pending.ensures.kept.ready in
    let state_after = subst (λ a. next.state ≡ after_round (g.A.App.meaning a) run.state) inv.app next_is.state in
    let goes_on = go_on_waiting (g.A.App.meaning app) (c.basis.ensures app) run.state ready (g.A.Resting.covers app) made found in
    let then = subst (λ (s : State _). AreWaiting (g.A.App.meaning app) (g.A.Resting.covers app made.acting) s made.later.items) (sym state_after) goes_on in
    let acted = subst (λ cover. AreWaiting (g.A.App.meaning app) (g.A.Resting.covers app cover) next.state made.later.items) (sym c.go_on.ensures.acted) then in
    record {
      app = next_is.same_app ∙ inv.app;
      start = next_is.same_start ∙ inv.start;
      limit = next_is.same_limit ∙ inv.limit;
      told = subst (λ a. g.A.App.tells a c.act_round.new.horizon next.state.pending) inv.app c.in_ok-run.ensures.told;
      waiting = subst (λ later. AreWaiting (g.A.App.meaning app) (g.A.Resting.covers app c.go_on.new.self.acted) next.state later.items) (sym c.go_on.ensures.waiting) acted;
    }
