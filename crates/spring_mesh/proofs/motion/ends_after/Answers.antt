use Rattle.std.proofs.Common.{rules, FitsSigned, ◌+ℤ◌, ◌-ℤ◌}
use Rattle.std.specs.Int.{w64}
use Rattle.spring_mesh.proofs.Saturated.{faster_saturated, slower_saturated}
use Rattle.spring_mesh.proofs.Wide.{narrow_in_reach, same_parts, speed_found}
use Rattle.spring_mesh.proofs.motion.ends_after.Goals as goal

pub returns-clause-first : goal.returns-clause-first
returns-clause-first c =
    let spring = c.args.spring.now in
    let a = c.args.a.now in
    let b = c.args.b.now in
    let mass = c.args.masses.0 in
    let x-fits : FitsSigned w64 c.changes_by-first_x.result.0 = search rules in
    let y-fits : FitsSigned w64 c.changes_by-first_y.result.0 = search rules in
    let is = c.requires.spring.1 in
    same_parts _ _ _ _ _ _ _ _ _ (narrow_in_reach a.x c.requires.a.x) (narrow_in_reach a.y c.requires.a.y)
    (speed_found (λ m n. m +ℤ n) spring spring.rx a.x b.x mass a.vx c.impulse.result c.changes_by-first_x.result.0 c.faster.result (λ n. faster_saturated a.vx n mass c.requires.a.vx c.requires.masses.0)
    is.rx c.requires.a.x c.requires.b.x c.requires.a.vx (record { sfits = c.impulse.type_inv }) x-fits (record { sfits = c.faster.type_inv })
    c.impulse.ensures c.changes_by-first_x.ensures.first c.faster.ensures)
    (speed_found (λ m n. m +ℤ n) spring spring.ry a.y b.y mass a.vy c.impulse-2.result c.changes_by-first_y.result.0 c.faster-2.result (λ n. faster_saturated a.vy n mass c.requires.a.vy c.requires.masses.0)
    is.ry c.requires.a.y c.requires.b.y c.requires.a.vy (record { sfits = c.impulse-2.type_inv }) y-fits (record { sfits = c.faster-2.type_inv })
    c.impulse-2.ensures c.changes_by-first_y.ensures.first c.faster-2.ensures)

pub returns-clause-second : goal.returns-clause-second
returns-clause-second c =
    let spring = c.args.spring.now in
    let a = c.args.a.now in
    let b = c.args.b.now in
    let mass = c.args.masses.1 in
    let x-fits : FitsSigned w64 c.changes_by-first_x.result.1 = search rules in
    let y-fits : FitsSigned w64 c.changes_by-first_y.result.1 = search rules in
    let is = c.requires.spring.1 in
    same_parts _ _ _ _ _ _ _ _ _ (narrow_in_reach b.x c.requires.b.x) (narrow_in_reach b.y c.requires.b.y)
    (speed_found (λ m n. m -ℤ n) spring spring.rx a.x b.x mass b.vx c.impulse.result c.changes_by-first_x.result.1 c.slower.result (λ n. slower_saturated b.vx n mass c.requires.b.vx c.requires.masses.1)
    is.rx c.requires.a.x c.requires.b.x c.requires.b.vx (record { sfits = c.impulse.type_inv }) x-fits (record { sfits = c.slower.type_inv })
    c.impulse.ensures c.changes_by-first_x.ensures.second c.slower.ensures)
    (speed_found (λ m n. m -ℤ n) spring spring.ry a.y b.y mass b.vy c.impulse-2.result c.changes_by-first_y.result.1 c.slower-2.result (λ n. slower_saturated b.vy n mass c.requires.b.vy c.requires.masses.1)
    is.ry c.requires.a.y c.requires.b.y c.requires.b.vy (record { sfits = c.impulse-2.type_inv }) y-fits (record { sfits = c.slower-2.type_inv })
    c.impulse-2.ensures c.changes_by-first_y.ensures.second c.slower-2.ensures)
