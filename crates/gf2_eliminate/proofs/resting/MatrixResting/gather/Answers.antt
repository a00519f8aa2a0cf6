use Rattle.std.proofs.Common.{subst, sym}
use Rattle.cell_store.specs.Values.{values_of}
use Rattle.mtx_reader.specs.declared.pattern.Pattern.{Pattern}
use Rattle.gf2_eliminate.specs.Covers.{IsClosed}
use Rattle.gf2_eliminate.proofs.Gathering.{closed}
use Rattle.gf2_eliminate.proofs.resting.MatrixResting.gather.Goals as goal

pub gather_set-requires-clause-closed : goal.gather_set-requires-clause-closed
gather_set-requires-clause-closed c =
    let values = values_of c.args.store.now in
    let others = c.requires.others in
    subst (λ (p : Pattern). IsClosed p values c.args.cover.now) (sym c.self.view_is) (closed c.args.self.now values c.args.cover.now others.0 others.1 others.2)
