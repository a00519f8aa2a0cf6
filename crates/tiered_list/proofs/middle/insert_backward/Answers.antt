use Rattle.std.proofs.Common.{◌≡◌, ◌+◌, ◌*◌, ◌≤◌, ◌∙◌, [], length, get_or, arith, ap, sym, refl}
use Rattle.std.proofs.lemmas.List.{get_or_read}
use Rattle.std.proofs.lemmas.List.Edits.{length-insert}
use Rattle.std.specs.List.{insert}
use Rattle.tiered_list.proofs.FullTiers.{items_with-first, full-set, full_at, put_at_start, put_backward}
use Rattle.tiered_list.proofs.middle.insert_backward.Goals as goal

pub returns-then-place-eq0-clause-items : goal.returns-then-place-eq0-clause-items
returns-then-place-eq0-clause-items g c =
    sym (items_with-first c.pass_backward.new.middle.items c.pass_backward.result)
    ∙ c.pass_backward.ensures.items
    ∙ put_at_start c.args.middle.now.items c.args.at (128 * c.args.at + c.args.place) c.args.item c.requires.full c.requires.at (omega (arith, c.if-place-eq0.true))

pub pass_backward-requires-2-clause-full : goal.pass_backward-requires-2-clause-full
pass_backward-requires-2-clause-full g c =
    let tiers = c.args.middle.now.items in
    let at = c.args.at in
    let old = c.index_mut.result.now in
    let tier = c.insert_backward-first.new.self in
    let read : old ≡ get_or tiers at [] = get_or_read tiers at old c.requires.at c.index_mut.ensures.value [] in
    let whole : length old ≡ 128 = ap length read ∙ full_at tiers at c.requires.full c.requires.at in
    let within : c.args.place ≤ length old = omega (arith, whole, c.requires.place) in
    full-set tiers at tier c.requires.full (omega (arith, whole, length-insert old c.args.place c.args.item within, ap length c.insert_backward-first.ensures))

pub returns-clause-items : goal.returns-clause-items
returns-clause-items g c =
    let tiers = c.args.middle.now.items in
    let at = c.args.at in
    let place = c.args.place in
    let item = c.args.item in
    let old = c.index_mut.result.now in
    let read : old ≡ get_or tiers at [] = get_or_read tiers at old c.requires.at c.index_mut.ensures.value [] in
    sym (items_with-first c.pass_backward-2.new.middle.items c.pass_backward-2.result)
    ∙ c.pass_backward-2.ensures.items
    ∙ put_backward tiers at place (128 * at + place) c.insert_backward-first.new.self item c.insert_backward-first.result c.requires.full c.requires.at c.requires.place refl (ap (λ l. insert l place item) (sym read) ∙ c.insert_backward-first.ensures)
