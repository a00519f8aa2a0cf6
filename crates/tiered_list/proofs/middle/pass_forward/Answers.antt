use Rattle.std.proofs.Common.{◌≡◌, ◌<◌, ◌∙◌, [], ◌∷◌, length, get_or, arith, ap, sym, add-one}
use Rattle.std.proofs.lemmas.List.{get_or_read, length-set}
use Rattle.tiered_list.proofs.FullTiers.{passed_forward, full-set, full_at, as_long_forward}
use Rattle.tiered_list.proofs.middle.pass_forward.Goals as goal

pub loop-at-preserved : goal.loop-at-preserved
loop-at-preserved g c =
    let tiers = c.loop-at.middle.items in
    let at = c.loop-at.at in
    let old = c.index_mut.result.now in
    let new = c.shift_forward-item.new.self in
    let inside : at < length tiers = omega (arith, c.loop-at.invariant.2) in
    let read : old ≡ get_or tiers at [] = get_or_read tiers at old inside c.index_mut.ensures.value [] in
    let moved = c.shift_forward-item.ensures in
    let long : length new ≡ 128 = as_long_forward old new c.loop-at.item c.shift_forward-item.result moved ∙ ap length read ∙ full_at tiers at c.loop-at.invariant.1 inside in (
      rw add-one (passed_forward tiers at new c.loop-at.item c.shift_forward-item.result inside (ap (λ l. c.loop-at.item ∷ l) (sym read) ∙ moved)) ∙ c.loop-at.invariant.0,
      full-set tiers at new c.loop-at.invariant.1 long,
      length-set tiers at new ∙ c.loop-at.invariant.2,
      c.loop-at.invariant.3,
    )
