use Rattle.std.proofs.Common.{◌≡◌, ◌++◌, ◌∙◌, List, Some, ap, sym, subst, take, drop, length}
use Rattle.std.specs.List.{All, AllZip}
use Rattle.std.proofs.lemmas.Result.{on_ok_weaker}
use Rattle.app_laws.specs.Applications.{Application}
use Rattle.crew.specs.Jobs.{MayRun}
use Rattle.run_laws.specs.Jobs.{Done, Job}
use Rattle.source_pool.specs.declared.hands.Hand.{Hand}
use Rattle.source_pool.specs.Performing.{IsPlayed, MayPlay, dealt_jobs, gathered}
use Rattle.source_pool.proofs.HandsPlayed.{all_played, given_back, in_each_hand}
use Rattle.source_pool.proofs.hands.perform_together.Goals as goal

pub play_each-requires-clause-may_play : goal.play_each-requires-clause-may_play
play_each-requires-clause-may_play g c κs within =
    let app : Application g.row.A-Val.Denot = g.A.App.meaning c.args.app.now in
    let hands : List (Hand (Job g.row.A-Val.Denot) (Done g.row.A-Val.Denot)) = c.deal.new.hands.items in
    subst (λ (hs : List (Hand (Job g.row.A-Val.Denot) (Done g.row.A-Val.Denot))). All (MayPlay app) hs) (sym c.deref_mut.ensures.value)
    (in_each_hand (MayRun app) c.args.lists.now.jobs.items hands c.in_ok-deal.ensures.all c.requires.may_run)

pub returns-clause-done : goal.returns-clause-done
returns-clause-done g c =
    let app : Application g.row.A-Val.Denot = g.A.App.meaning c.args.app.now in
    let hands : List (Hand (Job g.row.A-Val.Denot) (Done g.row.A-Val.Denot)) = c.deal.new.hands.items in
    let nows : List (Hand (Job g.row.A-Val.Denot) (Done g.row.A-Val.Denot)) = c.play_each.new.hands in
    let each : AllZip (IsPlayed app) hands nows = subst (λ (hs : List (Hand (Job g.row.A-Val.Denot) (Done g.row.A-Val.Denot))). AllZip (IsPlayed app) hs nows) c.deref_mut.ensures.value c.play_each.ensures.played in
    let same : take c.deal.new.hands.len (nows ++ drop (length nows) hands) ≡ nows = given_back app c.deal.new.hands.len hands nows each c.deal.new.hands.ok.0 in
    on_ok_weaker c.gather.result (λ (all : gathered (take c.deal.new.hands.len (nows ++ drop (length nows) hands)) ≡ Some c.gather.new.dones.items).
    record {
      turn = dealt_jobs hands;
      same = c.in_ok-deal.ensures.all;
      done = all_played app hands nows c.gather.new.dones.items each (ap gathered (sym same) ∙ all);
    }) c.gather.ensures
