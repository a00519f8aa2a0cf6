use Rattle.std.proofs.Common.{◌++◌, ◌∙◌, List, drop, length, sym, subst, take}
use Rattle.std.specs.List.{All}
use Rattle.source_pool.specs.declared.shares.Share.{Share}
use Rattle.source_pool.specs.Performing.{IsTold}
use Rattle.source_pool.proofs.Lists.{all_given_back}
use Rattle.source_pool.proofs.partners.Partners.play.Goals as goal

pub play_shared-requires-clause-told : goal.play_shared-requires-clause-told
play_shared-requires-clause-told g c κs within =
    let Knows : g.row.A.Denot → Share g.row.A.Denot g.row.A-Val.Denot g.row.A-Horizon.Denot → Type 0 = λ app. IsTold g.A.App.meaning app in
    let told = subst (λ (app : g.row.A.Denot). All (Knows app) c.self.inside.list.items) (c.self.view_is ∙ c.requires.told) c.self.invariant in
    subst (λ (shares : List (Share g.row.A.Denot g.row.A-Val.Denot g.row.A-Horizon.Denot)). All (Knows c.args.app.now) shares) (sym c.deref_mut.ensures.value) told

pub invariant_of-self : goal.invariant_of-self
invariant_of-self g c =
    let Knows : g.row.A.Denot → Share g.row.A.Denot g.row.A-Val.Denot g.row.A-Horizon.Denot → Type 0 = λ app. IsTold g.A.App.meaning app in
    let same = c.self.view_is ∙ c.requires.told in
    let olds : List (Share g.row.A.Denot g.row.A-Val.Denot g.row.A-Horizon.Denot) = c.self.inside.list.items in
    let nows : List (Share g.row.A.Denot g.row.A-Val.Denot g.row.A-Horizon.Denot) = c.play_shared.new.shares in
    let told = subst (λ (app : g.row.A.Denot). All (Knows app) olds) same c.self.invariant in
    subst (λ (app : g.row.A.Denot). All (Knows app) (take c.self.inside.list.len (nows ++ drop (length nows) olds))) (sym same)
    (all_given_back (Knows c.args.app.now) c.self.inside.list.len olds nows c.play_shared.ensures.told told)
