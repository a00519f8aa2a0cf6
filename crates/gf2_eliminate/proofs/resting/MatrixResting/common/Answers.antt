use Rattle.std.proofs.Common.{subst}
use Rattle.rw_sets.specs.Accesses.{writes}
use Rattle.cell_store.specs.Values.{values_of}
use Rattle.mtx_reader.specs.declared.pattern.Pattern.{Pattern}
use Rattle.gf2_eliminate.specs.Covers.{covers, IsCommon}
use Rattle.gf2_eliminate.specs.Elimination.{set_of}
use Rattle.gf2_eliminate.proofs.Covering.{common_in_first, common_in_none}
use Rattle.gf2_eliminate.proofs.resting.MatrixResting.common.Goals as goal

pub returns-clause-in_set : goal.returns-clause-in_set
returns-clause-in_set c =
    let values = values_of c.args.store.now in
    let at = c.args.body.now.at in
    let cover = c.args.cover.now in
    common_in_first (writes (set_of c.args.self.now.rows c.args.self.now.cols at values)) (covers c.args.self.now cover) c.common.result
    (subst (λ (p : Pattern). IsCommon (writes (set_of p.rows p.cols at values)) (covers p cover) c.common.result) c.self.view_is c.common.ensures)

pub returns-clause-none : goal.returns-clause-none
returns-clause-none c =
    let values = values_of c.args.store.now in
    let at = c.args.body.now.at in
    let cover = c.args.cover.now in
    common_in_none (writes (set_of c.args.self.now.rows c.args.self.now.cols at values)) (covers c.args.self.now cover) c.common.result
    (subst (λ (p : Pattern). IsCommon (writes (set_of p.rows p.cols at values)) (covers p cover) c.common.result) c.self.view_is c.common.ensures)
