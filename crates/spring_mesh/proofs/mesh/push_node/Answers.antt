use Rattle.std.proofs.Common.{◌∷◌, ◌++◌, [], ap, ◌∙◌}
use Rattle.std.specs.Fmt.{decimal}
use Rattle.spring_mesh.specs.Meaning.{value_piece}
use Rattle.spring_mesh.proofs.Steps.{on_ok, piece_more}
use Rattle.spring_mesh.proofs.Wide.{narrow_in_reach}
use Rattle.spring_mesh.proofs.mesh.push_node.Goals as goal

pub returns : goal.returns
returns c =
    let node = c.args.node.now in
    let text = c.args.text.now in
    let word = 110 ∷ 111 ∷ 100 ∷ 101 ∷ 32 ∷ [] in
    let number = decimal c.args.number in
    let x = value_piece node.x in
    let y = value_piece node.y in
    let vx = value_piece node.vx in
    let vy = value_piece node.vy in
    let t2 = piece_more text c.push_all.new.self c.push_u64.new.text word number c.in_ok-push_all.ensures.ok c.in_ok-push_u64.ensures.ok in
    let t3 = piece_more text c.push_u64.new.text c.push_value.new.text (word ++ number) x t2 (c.in_ok-push_value.ensures ∙ ap (λ v. c.push_u64.new.text ++ value_piece v) (narrow_in_reach node.x c.requires.x)) in
    let t4 = piece_more text c.push_value.new.text c.push_value-2.new.text (word ++ number ++ x) y t3 (c.in_ok-push_value-2.ensures ∙ ap (λ v. c.push_value.new.text ++ value_piece v) (narrow_in_reach node.y c.requires.y)) in
    let t5 = piece_more text c.push_value-2.new.text c.push_value-3.new.text (word ++ number ++ x ++ y) vx t4 (c.in_ok-push_value-3.ensures ∙ ap (λ v. c.push_value-2.new.text ++ value_piece v) (narrow_in_reach node.vx c.requires.vx)) in
    let t6 = piece_more text c.push_value-3.new.text c.push_value-4.new.text (word ++ number ++ x ++ y ++ vx) vy t5 (c.in_ok-push_value-4.ensures ∙ ap (λ v. c.push_value-3.new.text ++ value_piece v) (narrow_in_reach node.vy c.requires.vy)) in
    on_ok c.push_all-2.result _ _ (piece_more text c.push_value-4.new.text c.push_all-2.new.self (word ++ number ++ x ++ y ++ vx ++ vy) (10 ∷ []) t6) c.push_all-2.ensures.ok
