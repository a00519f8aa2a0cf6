use Rattle.std.specs.Prelude.{◌≤◌}
use Rattle.std.proofs.Common.{sym, ap, ◌∙◌, subst}
use Rattle.cell_store.specs.Home.{IsHome}
use Rattle.cell_store.specs.Cells.{cell_at}
use Rattle.mtx_reader.specs.declared.pattern.Pattern.{Pattern}
use Rattle.mtx_reader.specs.Patterns.{most_rows, most_columns}
use Rattle.gf2_eliminate.specs.Lines.{line_at}
use Rattle.gf2_eliminate.specs.Plans.{line_at_home, planned, pivot_among, text_with, with_lines, AreHeld}
use Rattle.gf2_eliminate.proofs.AtHome.{HomeLaws, done_at_home, home_put, puts_one_home, ready_is_held}
use Rattle.gf2_eliminate.proofs.Held.{holders_of}
use Rattle.gf2_eliminate.proofs.matrix.MatrixApp.run_at_home.Goals as goal

pub eliminate-requires-clause-laws : goal.eliminate-requires-clause-laws
eliminate-requires-clause-laws c = puts_one_home

pub eliminate-requires-clause-held : goal.eliminate-requires-clause-held
eliminate-requires-clause-held c =
    let laws : HomeLaws = record { parts = c.location_laws.ensures.parts; values = c.value_laws.ensures.homes; at_home = c.home_laws.ensures; gives_back = c.return_laws.ensures.gives_back } in
    let few-rows = subst (λ (p : Pattern). p.rows ≤ most_rows) c.self.view_is c.self.invariant.rows in
    let few-columns = subst (λ (p : Pattern). p.cols ≤ most_columns) c.self.view_is c.self.invariant.columns in
    let ready = c.requires.ready.1 in
    let at = c.args.task.now.body.at in
    let lines = ready.taken.cells in
    let mine = ready_is_held laws few-rows few-columns c.requires.fit ready lines ready.taken.fit ready.taken.is in (
      c.self.inside.pattern.cols,
      lines,
      subst (λ (p : Pattern). AreHeld p.rows p.cols at (line_at_home c.args.store.now) (λ loc. IsHome (cell_at c.args.store.now loc)) lines) (sym c.self.view_is) mine,
    )

pub returns-clause-done : goal.returns-clause-done
returns-clause-done c = λ set ready.
    let laws : HomeLaws = record { parts = c.location_laws.ensures.parts; values = c.value_laws.ensures.homes; at_home = c.home_laws.ensures; gives_back = c.return_laws.ensures.gives_back } in
    let few-rows = subst (λ (p : Pattern). p.rows ≤ most_rows) c.self.view_is c.self.invariant.rows in
    let few-columns = subst (λ (p : Pattern). p.cols ≤ most_columns) c.self.view_is c.self.invariant.columns in
    let at = c.args.task.now.body.at in
    let old = c.args.store.now in
    done_at_home laws few-rows few-columns c.requires.fit ready c.eliminate.new.cells c.new.result c.in_ok-text.text
    (λ lines mine. c.in_ok-text.ensures.lines c.self.inside.pattern.cols lines
    (subst (λ (p : Pattern). AreHeld p.rows p.cols at (line_at_home old) (λ loc. IsHome (cell_at old loc)) lines) (sym c.self.view_is) mine)
    ∙ ap (λ (p : Pattern). with_lines home_put old (planned (line_at lines) p.rows p.cols at)) c.self.view_is)
    (λ lines mine. c.in_ok-text.ensures.text c.self.inside.pattern.cols lines
    (subst (λ (p : Pattern). AreHeld p.rows p.cols at (line_at_home old) (λ loc. IsHome (cell_at old loc)) lines) (sym c.self.view_is) mine)
    ∙ ap (λ (p : Pattern). text_with at (pivot_among (line_at lines) (holders_of p.rows at lines))) c.self.view_is)
    c.new.ensures
