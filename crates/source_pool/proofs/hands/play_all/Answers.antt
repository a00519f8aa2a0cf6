use Rattle.std.proofs.Common.{◌≡◌, List, get_or, length, rules, subst}
use Rattle.app_laws.specs.Applications.{Application}
use Rattle.run_laws.specs.Jobs.{Done, Job}
use Rattle.source_pool.specs.declared.hands.Hand.{Hand}
use Rattle.source_pool.specs.Performing.{IsPlayed}
use Rattle.source_pool.proofs.HandsPlayed.{played}
use Rattle.source_pool.proofs.hands.play_all.Goals as goal

pub returns : goal.returns
returns g c =
    let app : Application g.row.A-Val.Denot = g.A.App.meaning c.args.app.now in
    let olds : List (Hand (Job g.row.A-Val.Denot) (Done g.row.A-Val.Denot)) = c.args.hands.now in
    let nows : List (Hand (Job g.row.A-Val.Denot) (Done g.row.A-Val.Denot)) = c.for_each_mut.new.s in
    let long : length nows ≡ length olds = search rules in
    played app olds nows long (λ k d inside.
    let changed = (c.for_each_mut.ensures k d inside).1 in
    let call : IsPlayed app changed.argument.now changed.after_call.now = search rules in
    subst (λ (hand : Hand (Job g.row.A-Val.Denot) (Done g.row.A-Val.Denot)). IsPlayed app hand (get_or nows k d)) changed.argument_is
    (subst (λ (hand : Hand (Job g.row.A-Val.Denot) (Done g.row.A-Val.Denot)). IsPlayed app changed.argument.now hand) changed.left call))
