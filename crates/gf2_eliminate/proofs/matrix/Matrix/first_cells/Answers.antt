use Rattle.std.specs.Prelude.{◌≡◌}
use Rattle.std.proofs.Common.{◌∙◌, ap, sym, subst}
use Rattle.plain_laws.specs.Options.{if_ok-weaker}
use Rattle.gf2_eliminate.specs.Lines.{AreLines}
use Rattle.gf2_eliminate.specs.Start.{start_cells}
use Rattle.gf2_eliminate.proofs.FirstCells.{start_fit}
use Rattle.gf2_eliminate.proofs.matrix.Matrix.first_cells.Goals as goal

pub returns-clause-fit : goal.returns-clause-fit
returns-clause-fit c =
    if_ok-weaker c.first_cells.result (λ cells. cells.items ≡ start_cells c.self.inside.pattern) (λ cells. AreLines c.args.self.now.rows c.args.self.now.cols cells.items)
    (λ cells is. subst (AreLines c.args.self.now.rows c.args.self.now.cols) (sym (is ∙ ap start_cells c.self.view_is)) (start_fit c.args.self.now)) c.first_cells.ensures
