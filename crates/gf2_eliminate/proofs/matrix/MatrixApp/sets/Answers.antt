use Rattle.std.specs.Prelude.{◌≡◌, ◌+◌, ◌<◌, [], length, filter, Some, None}
use Rattle.std.proofs.Common.{sym, ap, ◌∙◌, subst}
use Rattle.rw_sets.specs.Accesses.{merged}
use Rattle.cell_store.specs.Cells.{cell_at}
use Rattle.app_laws.specs.declared.app.SetAnswer.TheVariants as answer
use Rattle.mtx_reader.specs.declared.pattern.Pattern.{Pattern}
use Rattle.gf2_eliminate.specs.Lines.{numbers_in, AreLines}
use Rattle.gf2_eliminate.specs.Elimination.{first_of, is_out, writing, unless_out, walk_from}
use Rattle.gf2_eliminate.specs.Plans.{locations}
use Rattle.gf2_eliminate.specs.Touched.{touched_locs, AreRowsTo, HaveColumns}
use Rattle.gf2_eliminate.proofs.Found.{rows_within, columns_within, set_found}
use Rattle.gf2_eliminate.proofs.matrix.MatrixApp.sets.Goals as goal

pub first_out-requires : goal.first_out-requires
first_out-requires g c =
    let pattern = c.self.inside.pattern in
    let fit = subst (λ (p : Pattern). AreLines p.rows p.cols c.requires.cells.0) (sym c.self.view_is) c.requires.cells.1 in
    let within = subst (λ (p : Pattern). c.args.body.now.at < p.cols) (sym c.self.view_is) c.requires.fit.1.at in
    subst (AreRowsTo (length c.args.store.now)) (sym (c.deref.ensures.value ∙ c.in_ok-rows.ensures ∙ c.ones.ensures))
    (rows_within pattern.rows pattern.cols c.args.body.now.at c.args.store.now c.requires.cells.0 fit within c.requires.cells.2 c.in-At.line.now (sym c.in-At.ensures))

pub touched-requires-clause-rows : goal.touched-requires-clause-rows
touched-requires-clause-rows g c =
    let pattern = c.self.inside.pattern in
    let fit = subst (λ (p : Pattern). AreLines p.rows p.cols c.requires.cells.0) (sym c.self.view_is) c.requires.cells.1 in
    let within = subst (λ (p : Pattern). c.args.body.now.at < p.cols) (sym c.self.view_is) c.requires.fit.1.at in
    subst (AreRowsTo (length c.args.store.now)) (sym (c.deref-in-None.ensures.value ∙ c.in_ok-rows.ensures ∙ c.ones.ensures))
    (rows_within pattern.rows pattern.cols c.args.body.now.at c.args.store.now c.requires.cells.0 fit within c.requires.cells.2 c.in-At.line.now (sym c.in-At.ensures))

pub touched-requires-clause-columns : goal.touched-requires-clause-columns
touched-requires-clause-columns g c =
    let pattern = c.self.inside.pattern in
    let fit = subst (λ (p : Pattern). AreLines p.rows p.cols c.requires.cells.0) (sym c.self.view_is) c.requires.cells.1 in
    let within = subst (λ (p : Pattern). c.args.body.now.at < p.cols) (sym c.self.view_is) c.requires.fit.1.at in
    subst (HaveColumns c.args.store.now pattern.cols) (sym (c.deref-in-None.ensures.value ∙ c.in_ok-rows.ensures ∙ c.ones.ensures))
    (columns_within pattern.rows pattern.cols c.args.body.now.at c.args.store.now c.requires.cells.0 fit within c.requires.cells.2 c.in-At.line.now (sym c.in-At.ensures))

pub returns-in-Some-clause-answer : goal.returns-in-Some-clause-answer
returns-in-Some-clause-answer g c =
    let pattern = c.self.inside.pattern in
    let at = c.args.body.now.at in
    let store = c.args.store.now in
    let first-is : first_of (filter (λ loc. is_out (cell_at store loc)) (locations (numbers_in c.in-At.line.now))) ≡ Some c.in-Some.loc =
    ap (λ ns. first_of (filter (λ loc. is_out (cell_at store loc)) (locations ns))) (sym (c.deref.ensures.value ∙ c.in_ok-rows.ensures ∙ c.ones.ensures)) ∙ sym c.in-Some.ensures in
    subst (λ (p : Pattern). answer.Out c.in-Some.loc ≡ walk_from p.rows p.cols (cell_at store (p.rows + at)) at store) c.self.view_is
    (sym (ap (λ cell. walk_from pattern.rows pattern.cols cell at store) (sym c.in-At.ensures) ∙ ap (λ first. unless_out pattern.rows pattern.cols first at store) first-is))

pub returns-clause-answer : goal.returns-clause-answer
returns-clause-answer g c =
    let pattern = c.self.inside.pattern in
    let at = c.args.body.now.at in
    let store = c.args.store.now in
    let fit = subst (λ (p : Pattern). AreLines p.rows p.cols c.requires.cells.0) (sym c.self.view_is) c.requires.cells.1 in
    let within = subst (λ (p : Pattern). at < p.cols) (sym c.self.view_is) c.requires.fit.1.at in
    let first-is : first_of (filter (λ loc. is_out (cell_at store loc)) (locations (numbers_in c.in-At.line.now))) ≡ None =
    ap (λ ns. first_of (filter (λ loc. is_out (cell_at store loc)) (locations ns))) (sym (c.deref.ensures.value ∙ c.in_ok-rows.ensures ∙ c.ones.ensures)) ∙ sym c.in-None.ensures in
    let set-is = c.from_pairs.ensures ∙ ap (merged []) c.in_ok-pairs-in-None.ensures ∙ ap (λ ns. merged [] (writing (touched_locs pattern.rows pattern.cols at ns store))) (c.deref-in-None.ensures.value ∙ c.in_ok-rows.ensures ∙ c.ones.ensures)
    ∙ set_found pattern.rows pattern.cols at store c.requires.cells.0 fit within c.requires.cells.2 c.in-At.line.now (sym c.in-At.ensures) first-is in
    subst (λ (p : Pattern). answer.Known c.from_pairs.result ≡ walk_from p.rows p.cols (cell_at store (p.rows + at)) at store) c.self.view_is
    (ap answer.Known set-is ∙ sym (ap (λ cell. walk_from pattern.rows pattern.cols cell at store) (sym c.in-At.ensures) ∙ ap (λ first. unless_out pattern.rows pattern.cols first at store) first-is))
