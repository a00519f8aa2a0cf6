use Rattle.std.specs.Prelude.{◌+◌, IsTrue, refl}
use Rattle.std.proofs.Common.{sym, subst}
use Rattle.rw_sets.specs.Accesses.{writes}
use Rattle.mtx_reader.specs.declared.pattern.Pattern.{Pattern}
use Rattle.gf2_eliminate.specs.Elimination.{set_of}
use Rattle.gf2_eliminate.specs.Lawful.{OfItself, writes_from_named}
use Rattle.gf2_eliminate.proofs.resting.MatrixResting.core.Goals as goal

pub returns : goal.returns
returns c = λ values fit.
    let matrix = c.args.self.now in
    let at = c.args.body.now.at in
    subst (λ (p : Pattern). IsTrue (writes (set_of matrix.rows matrix.cols at values) (p.rows + at))) (sym c.self.view_is)
    (writes_from_named matrix.rows matrix.cols at values (matrix.rows + at) c.requires.1.at (OfItself refl))
