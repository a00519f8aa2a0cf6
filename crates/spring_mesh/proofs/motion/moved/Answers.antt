use Rattle.spring_mesh.proofs.Wide.{moved_found}
use Rattle.spring_mesh.proofs.motion.moved.Goals as goal

pub returns : goal.returns
returns c =
    moved_found c.args.place c.args.speed c.args.time c.saturating_mul.result c.saturating_add.result c.clamped.result c.requires c.ranges.speed c.ranges.time
    (record { sfits = c.saturating_mul.type_inv }) (record { sfits = c.saturating_add.type_inv }) (record { sfits = c.clamped.type_inv })
    c.saturating_mul.ensures c.saturating_add.ensures c.clamped.ensures
