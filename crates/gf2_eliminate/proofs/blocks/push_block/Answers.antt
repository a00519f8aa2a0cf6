use Rattle.std.proofs.Common.{◌∙◌, ◌+◌, ◌++◌, List, [], ◌∷◌, ap, sym, subst}
use Rattle.mtx_reader.specs.Places.{Place}
use Rattle.gf2_eliminate.proofs.Diagonal.{ComeBefore, second_place, third_place, fourth_place, fifth_place}
use Rattle.gf2_eliminate.proofs.blocks.push_block.Goals as goal

pub push-requires-2-clause-later : goal.push-requires-2-clause-later
push-requires-2-clause-later c =
    subst (λ (places : List Place). ComeBefore places (c.args.before + 1, c.args.before + 2)) (sym c.in_ok-push.ensures.ok)
    (second_place c.args.before c.args.places.now c.requires.behind)

pub push-requires-3-clause-later : goal.push-requires-3-clause-later
push-requires-3-clause-later c =
    let n = c.args.before in
    let two = c.in_ok-push-2.ensures.ok ∙ ap (λ (places : List Place). places ++ (n + 1, n + 2) ∷ []) c.in_ok-push.ensures.ok in
    subst (λ (places : List Place). ComeBefore places (n + 2, n + 1)) (sym two) (third_place n c.args.places.now c.requires.behind)

pub push-requires-4-clause-later : goal.push-requires-4-clause-later
push-requires-4-clause-later c =
    let n = c.args.before in
    let two = c.in_ok-push-2.ensures.ok ∙ ap (λ (places : List Place). places ++ (n + 1, n + 2) ∷ []) c.in_ok-push.ensures.ok in
    let three = c.in_ok-push-3.ensures.ok ∙ ap (λ (places : List Place). places ++ (n + 2, n + 1) ∷ []) two in
    subst (λ (places : List Place). ComeBefore places (n + 2, n + 3)) (sym three) (fourth_place n c.args.places.now c.requires.behind)

pub push-requires-5-clause-later : goal.push-requires-5-clause-later
push-requires-5-clause-later c =
    let n = c.args.before in
    let two = c.in_ok-push-2.ensures.ok ∙ ap (λ (places : List Place). places ++ (n + 1, n + 2) ∷ []) c.in_ok-push.ensures.ok in
    let three = c.in_ok-push-3.ensures.ok ∙ ap (λ (places : List Place). places ++ (n + 2, n + 1) ∷ []) two in
    let four = c.in_ok-push-4.ensures.ok ∙ ap (λ (places : List Place). places ++ (n + 2, n + 3) ∷ []) three in
    subst (λ (places : List Place). ComeBefore places (n + 3, n + 3)) (sym four) (fifth_place n c.args.places.now c.requires.behind)
