use Rattle.std.proofs.Common.{arith}
use Rattle.own_operator.proofs.Groups.{first_few, first_fit, keeps_named}
use Rattle.own_operator.proofs.mixing.run_by.Goals as goal

-- by the value of the lookahead, however it is computed
pub new-app-requires-clause-keeps : goal.new-app-requires-clause-keeps
new-app-requires-clause-keeps g c κs within =
    keeps_named c.args.setting.now.mixer c.in_ok-sets.field-0.items _ (g.H.Hook.may c.args.hook) (g.H.Hook.gives c.args.hook) c.in_ok-sets.ensures (omega (arith, c.from-ahead.ensures)) c.requires.keeps

pub serial-requires-clause-fit_first : goal.serial-requires-clause-fit_first
serial-requires-clause-fit_first g c κs within =
    first_fit c.args.setting.now.mixer c.new-app.result.deed c.in_ok-first.first c.requires.mixer (λ i. (c.new-app.ensures i).deed) c.in_ok-first.ensures

pub serial-requires-clause-few : goal.serial-requires-clause-few
serial-requires-clause-few g c κs within = first_few c.args.setting.now.mixer c.in_ok-first.first c.requires.mixer c.in_ok-first.ensures

pub begin_uncounted-requires-clause-fit_first : goal.begin_uncounted-requires-clause-fit_first
begin_uncounted-requires-clause-fit_first g c κs within =
    first_fit c.args.setting.now.mixer c.new-app.result.deed c.in_ok-first.first c.requires.mixer (λ i. (c.new-app.ensures i).deed) c.in_ok-first.ensures

pub begin_uncounted-requires-clause-few : goal.begin_uncounted-requires-clause-few
begin_uncounted-requires-clause-few g c κs within = first_few c.args.setting.now.mixer c.in_ok-first.first c.requires.mixer c.in_ok-first.ensures
