use Rattle.std.proofs.Common.{◌∙◌, ap, length}
use Rattle.cell_store.proofs.Parts.{length-cells_taken, length-cells_given}
use Rattle.cell_store.proofs.tests.rewrite.Goals as goal

pub give-requires-after_bounds : goal.give-requires-after_bounds
give-requires-after_bounds g c κs within = rw c.in_ok-bundle.ensures.bundle c.in_ok-bundle.ensures.out

pub returns : goal.returns
returns g c = ap length c.give.ensures.given ∙ length-cells_given _ _ ∙ ap length c.in_ok-bundle.ensures.ok ∙ length-cells_taken _ _
