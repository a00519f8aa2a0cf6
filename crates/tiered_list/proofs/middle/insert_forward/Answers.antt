use Rattle.std.proofs.Common.{◌≡◌, ◌+◌, ◌*◌, ◌∙◌, [], length, set, get_or, ap, sym, refl, add-one, rules}
use Rattle.std.proofs.lemmas.List.{get_or_read, length-set}
use Rattle.std.specs.List.{insert}
use Rattle.tiered_list.specs.Tiers.{items_in, items_with}
use Rattle.tiered_list.proofs.FullTiers.{items_with-last, put_forward}
use Rattle.tiered_list.proofs.middle.insert_forward.Goals as goal

pub returns-clause-items : goal.returns-clause-items
returns-clause-items g c =
    let tiers = c.args.middle.now.items in
    let at = c.args.at in
    let place = c.args.place in
    let item = c.args.item in
    let old = c.index_mut.result.now in
    let tier = c.insert_forward-last.new.self in
    let last = c.insert_forward-last.result in
    let new = c.pass_forward.new.middle.items in
    let result = c.pass_forward.result in
    let read : old ≡ get_or tiers at [] = get_or_read tiers at old c.requires.at c.index_mut.ensures.value [] in
    let put : items_with (set tiers at tier) (at + 1) last ≡ insert (items_in tiers) (128 * at + place) item =
    rw add-one (put_forward tiers at place (128 * at + place) tier item last c.requires.full c.requires.at c.requires.place refl (ap (λ l. insert l place item) (sym read) ∙ c.insert_forward-last.ensures)) in
    let whole : c.len-count.result ≡ length tiers = search rules in
    let end : length new ≡ c.len-count.result = c.pass_forward.ensures.count ∙ length-set tiers at tier ∙ sym whole in
    sym (items_with-last new result) ∙ ap (λ n. items_with new n result) end ∙ c.pass_forward.ensures.items ∙ put
