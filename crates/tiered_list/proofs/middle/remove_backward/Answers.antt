use Rattle.std.proofs.Common.{◌≡◌, suc, ◌+◌, ◌*◌, ◌<◌, ◌++◌, ◌∙◌, [], ◌∷◌, length, set, get_or, arith, ap, sym, refl, rules}
use Rattle.std.proofs.lemmas.List.{get_or_read}
use Rattle.std.proofs.lemmas.List.Edits.{remove-append_left}
use Rattle.std.specs.List.{remove}
use Rattle.std.specs.Prelude.{slice_get}
use Rattle.tiered_list.specs.Tiers.{items_in, items_with}
use Rattle.tiered_list.proofs.FullTiers.{items_with-last, length-items_in, slice_get-append_left, read_before, taken_before}
use Rattle.tiered_list.proofs.middle.remove_backward.Goals as goal

pub returns-clause-item : goal.returns-clause-item
returns-clause-item g c =
    let all = c.args.middle.now.items in
    let tiers = c.pass_backward-carried.new.middle.items in
    let carried = c.pass_backward-carried.result in
    let at = c.args.at in
    let place = c.args.place in
    let n = 128 * at + place in
    let old = c.index_mut.result.now in
    let inside : at < length tiers = omega (arith, c.requires.at, c.pass_backward-carried.ensures.count) in
    let read : old ≡ get_or tiers at [] = get_or_read tiers at old inside c.index_mut.ensures.value [] in
    let next : suc at ≡ at + 1 = omega arith in
    let whole : c.len-count.result ≡ length all = search rules in
    let within : n < length (items_in all) = omega (arith, length-items_in all c.requires.full, c.requires.at, c.requires.place) in
    let both : items_with tiers (suc at) carried ≡ items_in all ++ c.args.item ∷ [] =
    ap (λ k. items_with tiers k carried) next ∙ c.pass_backward-carried.ensures.items ∙ ap (λ k. items_with all k c.args.item) whole ∙ items_with-last all c.args.item in
    sym (slice_get-append_left (items_in all) (c.args.item ∷ []) n within)
    ∙ ap (λ l. slice_get l n) (sym both)
    ∙ read_before tiers at place n carried c.pass_backward-carried.ensures.full inside c.requires.place refl
    ∙ ap (λ l. slice_get l place) (sym read)
    ∙ c.remove_backward.ensures.item

pub returns-clause-items : goal.returns-clause-items
returns-clause-items g c =
    let all = c.args.middle.now.items in
    let tiers = c.pass_backward-carried.new.middle.items in
    let carried = c.pass_backward-carried.result in
    let at = c.args.at in
    let place = c.args.place in
    let n = 128 * at + place in
    let old = c.index_mut.result.now in
    let inside : at < length tiers = omega (arith, c.requires.at, c.pass_backward-carried.ensures.count) in
    let read : old ≡ get_or tiers at [] = get_or_read tiers at old inside c.index_mut.ensures.value [] in
    let next : suc at ≡ at + 1 = omega arith in
    let whole : c.len-count.result ≡ length all = search rules in
    let within : n < length (items_in all) = omega (arith, length-items_in all c.requires.full, c.requires.at, c.requires.place) in
    let both : items_with tiers (suc at) carried ≡ items_in all ++ c.args.item ∷ [] =
    ap (λ k. items_with tiers k carried) next ∙ c.pass_backward-carried.ensures.items ∙ ap (λ k. items_with all k c.args.item) whole ∙ items_with-last all c.args.item in
    ap (λ tier. items_in (set tiers at tier)) (c.remove_backward.ensures.items ∙ ap (λ l. remove l place ++ carried ∷ []) read)
    ∙ taken_before tiers at place n carried c.pass_backward-carried.ensures.full inside c.requires.place refl
    ∙ ap (λ l. remove l n) both
    ∙ remove-append_left (items_in all) (c.args.item ∷ []) n within
