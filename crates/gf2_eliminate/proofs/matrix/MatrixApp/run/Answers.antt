use Rattle.std.specs.Prelude.{◌≡◌, ◌≤◌, map, Some}
use Rattle.std.proofs.Common.{sym, ap, ◌∙◌, subst}
use Rattle.rw_sets.specs.Accesses.{access_at}
use Rattle.rw_sets.specs.declared.access.Access.TheVariants.{Write}
use Rattle.cell_store.specs.Part.{Part}
use Rattle.cell_store.specs.Cells.{with_value}
use Rattle.app_laws.specs.Applications.{handed}
use Rattle.mtx_reader.specs.declared.pattern.Pattern.{Pattern}
use Rattle.mtx_reader.specs.Patterns.{most_rows, most_columns}
use Rattle.gf2_eliminate.specs.Lines.{line_at}
use Rattle.gf2_eliminate.specs.Elimination.{eliminated, elimination}
use Rattle.gf2_eliminate.specs.Plans.{line_in, planned, pivot_among, text_with, with_lines, AreHeld}
use Rattle.gf2_eliminate.proofs.AtHome.{puts_one_in_bundle}
use Rattle.gf2_eliminate.proofs.Effects.{bundle_found, childless, same_effects, text_found}
use Rattle.gf2_eliminate.proofs.Held.{held_in_bundle, holders_of}
use Rattle.gf2_eliminate.proofs.matrix.MatrixApp.run.Goals as goal

pub eliminate-requires-clause-laws : goal.eliminate-requires-clause-laws
eliminate-requires-clause-laws c = puts_one_in_bundle c.location_laws.ensures.writes

pub eliminate-requires-clause-held : goal.eliminate-requires-clause-held
eliminate-requires-clause-held c =
    let few-rows = subst (λ (p : Pattern). p.rows ≤ most_rows) c.self.view_is c.self.invariant.rows in
    let few-columns = subst (λ (p : Pattern). p.cols ≤ most_columns) c.self.view_is c.self.invariant.columns in
    let at = c.args.task.now.body.at in
    let lines = c.requires.cells.cells in
    let mine = held_in_bundle c.location_laws.ensures.parts c.value_laws.ensures.homes few-rows few-columns c.requires.fit.at c.requires.cells.fit c.args.bundle c.requires.cells.is in (
      c.self.inside.pattern.cols,
      lines,
      subst (λ (p : Pattern). AreHeld p.rows p.cols at (line_in c.args.bundle) (λ loc. access_at c.args.bundle.set loc ≡ Some Write) lines) (sym c.self.view_is) mine,
    )

pub returns-in-Ok-clause-effect : goal.returns-in-Ok-clause-effect
returns-in-Ok-clause-effect c = λ cells fit is.
    let self = c.args.self.now in
    let at = c.args.task.now.body.at in
    let homes = c.value_laws.ensures.homes in
    let few-rows = subst (λ (p : Pattern). p.rows ≤ most_rows) c.self.view_is c.self.invariant.rows in
    let few-columns = subst (λ (p : Pattern). p.cols ≤ most_columns) c.self.view_is c.self.invariant.columns in
    let mine = held_in_bundle c.location_laws.ensures.parts homes few-rows few-columns c.requires.fit.at fit c.args.bundle is in
    let held = subst (λ (p : Pattern). AreHeld p.rows p.cols at (line_in c.args.bundle) (λ loc. access_at c.args.bundle.set loc ≡ Some Write) cells) (sym c.self.view_is) mine in
    same_effects
    (c.in-Ok.ensures.lines c.self.inside.pattern.cols cells held ∙ ap (λ (p : Pattern). with_lines with_value c.args.bundle (planned (line_at cells) p.rows p.cols at)) c.self.view_is
    ∙ ap (λ (part : Part _). with_lines with_value part (planned (line_at cells) self.rows self.cols at)) is ∙ bundle_found fit c.requires.fit.at homes)
    (c.new.ensures ∙ sym (ap (map (handed (elimination self.rows self.cols) (eliminated self.rows self.cols at cells).cells)) (childless fit c.requires.fit.at)))
    (c.in-Ok.ensures.text c.self.inside.pattern.cols cells held ∙ ap (λ (p : Pattern). text_with at (pivot_among (line_at cells) (holders_of p.rows at cells))) c.self.view_is ∙ text_found fit c.requires.fit.at)
