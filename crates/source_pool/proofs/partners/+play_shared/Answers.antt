use Rattle.std.proofs.Common.{List, ◌∷◌, sym, subst}
use Rattle.std.specs.List.{All, AllZip}
use Rattle.std.proofs.lemmas.List.Elements.{All-cons, All-head, All-tail}
use Rattle.app_laws.specs.Applications.{Application}
use Rattle.source_pool.specs.declared.hands.Hand.{Hand}
use Rattle.source_pool.specs.declared.shares.Share.{Share}
use Rattle.run_laws.specs.Jobs.{Done, Job}
use Rattle.source_pool.specs.Performing.{IsPlayed, IsTold, MayPlay}
use Rattle.source_pool.proofs.partners.+play_shared.Goals as goal

pub give-requires-clause-may : goal.give-requires-clause-may
give-requires-clause-may g t c κs within =
    let app : Application g.row.A-Val.Denot = g.A.App.meaning c.args.app.now in
    let hands = subst (λ (hands : List (Hand (Job g.row.A-Val.Denot) (Done g.row.A-Val.Denot))). All (MayPlay app) hands) c.in-Some.ensures.cases.0 c.requires.others in
    let may = All-head (MayPlay app) c.in-Some.hand.now c.in-Some.more_hands.now hands in
    rw (c.taken_out.ensures.hand) may

pub play_shared-requires-2-clause-others : goal.play_shared-requires-2-clause-others
play_shared-requires-2-clause-others g t c κs within =
    let app : Application g.row.A-Val.Denot = g.A.App.meaning c.args.app.now in
    let hands = subst (λ (hands : List (Hand (Job g.row.A-Val.Denot) (Done g.row.A-Val.Denot))). All (MayPlay app) hands) c.in-Some.ensures.cases.0 c.requires.others in
    All-tail (MayPlay app) c.in-Some.hand.now c.in-Some.more_hands.now hands

pub returns-clause-told : goal.returns-clause-told
returns-clause-told g t c =
    let Knows : Share g.row.A.Denot g.row.A-Val.Denot g.row.A-Horizon.Denot → Type 0 = IsTold g.A.App.meaning c.args.app.now in
    let now : Share g.row.A.Denot g.row.A-Val.Denot g.row.A-Horizon.Denot = record { partner = c.collect.new.self.partner; errand = c.collect.new.self.errand; hand = c.taken_out-2.new.self } in
    All-cons Knows now c.play_shared-2.new.shares (record { partner = c.collect.ensures.told.partner; errand = c.collect.ensures.told.errand }) c.play_shared-2.ensures.told

pub returns-clause-others : goal.returns-clause-others
returns-clause-others g t c =
    let app : Application g.row.A-Val.Denot = g.A.App.meaning c.args.app.now in
    let given : Hand (Job g.row.A-Val.Denot) (Done g.row.A-Val.Denot) = c.taken_out.result in
    let back : Hand (Job g.row.A-Val.Denot) (Done g.row.A-Val.Denot) = c.collect.new.self.hand in
    let share = c.collect.ensures.same given.jobs.items c.give.ensures.share in
    let played : IsPlayed app given back = share.back c.collect.ensures.back in
    let of_old = subst (λ (hand : Hand (Job g.row.A-Val.Denot) (Done g.row.A-Val.Denot)). IsPlayed app hand back) c.taken_out.ensures.hand played in
    let of_new = subst (λ (hand : Hand (Job g.row.A-Val.Denot) (Done g.row.A-Val.Denot)). IsPlayed app c.in-Some.hand.now hand) (sym c.taken_out-2.ensures.hand) of_old in
    subst (λ (hands : List (Hand (Job g.row.A-Val.Denot) (Done g.row.A-Val.Denot))). AllZip (IsPlayed app) hands (c.taken_out-2.result ∷ c.play_shared-2.new.others)) (sym c.in-Some.ensures.cases.0)
    (of_new, c.play_shared-2.ensures.others)
