use Rattle.std.proofs.Common.{inr, sym, ap, ◌∙◌, subst}
use Rattle.cell_store.specs.Values.{values_of}
use Rattle.app_laws.specs.Applications.{PathsAreIgnored}
use Rattle.app_laws.specs.Renumbering.{AreRenumbered}
use Rattle.list_rounds.specs.Rounds.{RoundsState}
use Rattle.list_rounds.proofs.Names.{names_keep_come, tasks_renumbered, told_of_names}
use Rattle.list_rounds.proofs.rounds.ListRounds.with_short_paths.Goals as goal

pub invariant_of-result-2 : goal.invariant_of-result-2
invariant_of-result-2 g c =
    let needed = c.if-not-needs_new_paths.false in
    let needs = c.needs_new_paths.ensures in
    names_keep_come (c.basis.ensures c.self.inside.app.now) c.self.invariant.course c.in_ok-parts.parts (needs.ignored needed) (needs.silent needed) c.in_ok-parts.ensures c.self.inside.limit
    c.self.inside.rounds c.self.invariant

pub returns-clause-same : goal.returns-clause-same
returns-clause-same g c =
    let needed = c.if-not-needs_new_paths.false in
    let needs = c.needs_new_paths.ensures in
    let names = c.in_ok-parts.ensures in
    let now = c.in_ok-parts.parts in
    record {
      same_app = ap (λ (r : RoundsState g.row.A.Denot g.row.A-Val.Denot). r.app) c.self.view_is;
      same_start = ap (λ (r : RoundsState g.row.A.Denot g.row.A-Val.Denot). r.start) c.self.view_is;
      same_limit = ap (λ (r : RoundsState g.row.A.Denot g.row.A-Val.Denot). r.limit) c.self.view_is;
      same_rounds = ap (λ (r : RoundsState g.row.A.Denot g.row.A-Val.Denot). r.rounds) c.self.view_is;
      same_ended = names.ended ∙ ap (λ (r : RoundsState g.row.A.Denot g.row.A-Val.Denot). r.ended) c.self.view_is;
      same_cells = ap values_of names.store ∙ ap (λ (r : RoundsState g.row.A.Denot g.row.A-Val.Denot). r.state.cells) c.self.view_is;
      pending = inr (
        subst (λ (r : RoundsState g.row.A.Denot g.row.A-Val.Denot). PathsAreIgnored (g.A.App.meaning r.app)) c.self.view_is (needs.ignored needed),
        subst (λ (r : RoundsState g.row.A.Denot g.row.A-Val.Denot). AreRenumbered r.state.pending now.pending) c.self.view_is
            (tasks_renumbered (c.basis.ensures c.self.inside.app.now) c.self.invariant.course now (needs.ignored needed) (needs.silent needed) names),
      );
    }

pub returns-clause-told : goal.returns-clause-told
returns-clause-told g c =
    let needed = c.if-not-needs_new_paths.false in
    let needs = c.needs_new_paths.ensures in
    let now = c.in_ok-parts.parts in
    λ horizon so.
    subst (λ (r : RoundsState g.row.A.Denot g.row.A-Val.Denot). g.A.App.tells r.app horizon now.pending) c.self.view_is
    (told_of_names (c.basis.ensures c.self.inside.app.now) c.self.invariant.course now (needs.ignored needed) (needs.silent needed) c.in_ok-parts.ensures
    (g.A.App.tells c.self.inside.app.now horizon) (needs.horizon needed horizon)
    (subst (λ (r : RoundsState g.row.A.Denot g.row.A-Val.Denot). g.A.App.tells r.app horizon r.state.pending) (sym c.self.view_is) so))
