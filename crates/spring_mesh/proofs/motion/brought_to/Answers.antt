use Rattle.spring_mesh.proofs.Wide.{narrow_in_reach, place_found, same_parts}
use Rattle.spring_mesh.proofs.motion.brought_to.Goals as goal

pub returns : goal.returns
returns c =
    let node = c.args.node.now in
    same_parts _ _ _ _ _ _ _ _ _
    (place_found node.x node.vx c.args.time node.time c.moved.result c.requires.node.x c.requires.node.vx c.requires.time c.requires.node.time (record { sfits = c.moved.type_inv }) c.moved.ensures)
    (place_found node.y node.vy c.args.time node.time c.moved-2.result c.requires.node.y c.requires.node.vy c.requires.time c.requires.node.time (record { sfits = c.moved-2.type_inv }) c.moved-2.ensures)
    (narrow_in_reach node.vx c.requires.node.vx) (narrow_in_reach node.vy c.requires.node.vy)
