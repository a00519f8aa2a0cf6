use mir.Syntax.{of_param}
use Rattle.std.proofs.Common.{◌++◌, ◌∙◌, List, drop, length, sym, subst, take}
use Rattle.std.specs.List.{All}
use Rattle.source_pool.specs.declared.shares.Share.{Share}
use Rattle.source_pool.specs.Performing.{IsTold}
use Rattle.source_pool.proofs.Lists.{all_given_back}
use Rattle.source_pool.proofs.partners.Partners.play_round.Goals as goal

pub share_round-requires : goal.share_round-requires
share_round-requires g c κs within =
    let Knows : g.row.A.Denot → Share g.row.A.Denot g.row.A-Val.Denot g.row.A-Horizon.Denot → Type 0 = λ app. IsTold g.A.App.meaning app in
    let asked = c.requires.1.1.1.1.1 in
    let sent = asked.0 in
    let horizon = asked.1.0 in
    let same = c.self.view_is ∙ asked.1.1.0 in
    let told = subst (λ (app : g.row.A.Denot). All (Knows app) c.self.inside.list.items) same c.self.invariant in
    let shares = subst (λ (shares : List (Share g.row.A.Denot g.row.A-Val.Denot g.row.A-Horizon.Denot)). All (Knows c.args.engine.now.app) shares) (sym c.deref_mut.ensures.value) told in (
      within.0,
      (
        within.1.0,
        (
          within.1.1.0,
          (
            within.1.1.1.0,
            (
              within.1.1.1.1,
              (
                record { owned = sent.owned; leaving = λ k. sent.leaving (λ _. k (of_param 3)) },
                (record { owned = horizon.owned; leaving = λ k. horizon.leaving (λ _. k (of_param 4)) }, (asked.1.1.1, shares)),
              ),
            ),
          ),
        ),
      ),
    )

pub invariant_of-self : goal.invariant_of-self
invariant_of-self g c =
    let Knows : g.row.A.Denot → Share g.row.A.Denot g.row.A-Val.Denot g.row.A-Horizon.Denot → Type 0 = λ app. IsTold g.A.App.meaning app in
    let same = c.self.view_is ∙ c.requires.1.1.1.1.1.1.1.0 in
    let olds : List (Share g.row.A.Denot g.row.A-Val.Denot g.row.A-Horizon.Denot) = c.self.inside.list.items in
    let nows : List (Share g.row.A.Denot g.row.A-Val.Denot g.row.A-Horizon.Denot) = c.share_round.new.shares in
    let told = subst (λ (app : g.row.A.Denot). All (Knows app) olds) same c.self.invariant in
    subst (λ (app : g.row.A.Denot). All (Knows app) (take c.self.inside.list.len (nows ++ drop (length nows) olds))) (sym same)
    (all_given_back (Knows c.args.engine.now.app) c.self.inside.list.len olds nows c.share_round.ensures.told told)
