use Rattle.std.proofs.Common.{List, ap, sym, subst}
use Rattle.std.specs.List.{All}
use Rattle.std.proofs.lemmas.List.Elements.{All-push}
use Rattle.source_pool.specs.declared.shares.Share.{Share}
use Rattle.source_pool.specs.Performing.{IsTold}
use Rattle.source_pool.proofs.partners.Partners.add.Goals as goal

pub invariant_of-self : goal.invariant_of-self
invariant_of-self g c =
    let Knows : Share g.row.A.Denot g.row.A-Val.Denot g.row.A-Horizon.Denot → Type 0 = IsTold g.A.App.meaning c.self.inside.told.app.value in
    subst (λ (shares : List (Share g.row.A.Denot g.row.A-Val.Denot g.row.A-Horizon.Denot)). All Knows shares) (sym c.in_err-push.ensures.items) c.self.invariant

pub invariant_of-self-2 : goal.invariant_of-self-2
invariant_of-self-2 g c =
    let Knows : Share g.row.A.Denot g.row.A-Val.Denot g.row.A-Horizon.Denot → Type 0 = IsTold g.A.App.meaning c.self.inside.told.app.value in
    let share : Share g.row.A.Denot g.row.A-Val.Denot g.row.A-Horizon.Denot = c.new.result in
    let told : Knows share = record {
      partner = rw (c.new.ensures.partner) (ap (λ told. told.app.value) c.in_ok-partner.ensures.partner);
      errand = rw (c.new.ensures.none) tt;
    } in
    subst (λ (shares : List (Share g.row.A.Denot g.row.A-Val.Denot g.row.A-Horizon.Denot)). All Knows shares) (sym c.in_ok-push.ensures.items) (All-push Knows c.self.inside.list.items share c.self.invariant told)
