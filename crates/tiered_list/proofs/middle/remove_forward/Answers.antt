use Rattle.std.proofs.Common.{◌≡◌, suc, ◌+◌, ◌*◌, ◌<◌, ◌∙◌, [], ◌∷◌, length, set, get_or, arith, ap, sym, refl}
use Rattle.std.proofs.lemmas.List.{get_or_read}
use Rattle.std.specs.List.{remove}
use Rattle.std.specs.Prelude.{slice_get}
use Rattle.tiered_list.specs.Tiers.{items_in, items_with}
use Rattle.tiered_list.proofs.FullTiers.{items_with-first, read_behind, taken_behind}
use Rattle.tiered_list.proofs.middle.remove_forward.Goals as goal

pub returns-clause-item : goal.returns-clause-item
returns-clause-item g c =
    let tiers = c.pass_forward-carried.new.middle.items in
    let carried = c.pass_forward-carried.result in
    let at = c.args.at in
    let place = c.args.place in
    let n = 128 * at + place in
    let old = c.index_mut.result.now in
    let inside : at < length tiers = omega (arith, c.requires.at, c.pass_forward-carried.ensures.count) in
    let read : old ≡ get_or tiers at [] = get_or_read tiers at old inside c.index_mut.ensures.value [] in
    let both : items_with tiers at carried ≡ c.args.item ∷ items_in c.args.middle.now.items = c.pass_forward-carried.ensures.items ∙ items_with-first c.args.middle.now.items c.args.item in
    ap (λ l. slice_get l (suc n)) (sym both)
    ∙ read_behind tiers at place n carried c.pass_forward-carried.ensures.full inside c.requires.place refl
    ∙ ap (λ l. slice_get l place) (sym read)
    ∙ c.remove_forward.ensures.item

pub returns-clause-items : goal.returns-clause-items
returns-clause-items g c =
    let tiers = c.pass_forward-carried.new.middle.items in
    let carried = c.pass_forward-carried.result in
    let at = c.args.at in
    let place = c.args.place in
    let n = 128 * at + place in
    let old = c.index_mut.result.now in
    let inside : at < length tiers = omega (arith, c.requires.at, c.pass_forward-carried.ensures.count) in
    let read : old ≡ get_or tiers at [] = get_or_read tiers at old inside c.index_mut.ensures.value [] in
    let both : items_with tiers at carried ≡ c.args.item ∷ items_in c.args.middle.now.items = c.pass_forward-carried.ensures.items ∙ items_with-first c.args.middle.now.items c.args.item in
    ap (λ tier. items_in (set tiers at tier)) (c.remove_forward.ensures.items ∙ ap (λ l. carried ∷ remove l place) read)
    ∙ taken_behind tiers at place n carried c.pass_forward-carried.ensures.full inside c.requires.place refl
    ∙ ap (λ l. remove l (suc n)) both
