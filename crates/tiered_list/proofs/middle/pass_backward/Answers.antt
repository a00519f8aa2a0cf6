use Rattle.std.proofs.Common.{◌≡◌, ◌-◌, ◌<◌, ◌++◌, ◌∙◌, [], ◌∷◌, suc, length, get_or, arith, ap, sym}
use Rattle.std.proofs.lemmas.List.{get_or_read, length-set}
use Rattle.tiered_list.specs.Tiers.{items_with}
use Rattle.tiered_list.proofs.FullTiers.{passed_backward, full-set, full_at, as_long_backward}
use Rattle.tiered_list.proofs.middle.pass_backward.Goals as goal

pub loop-at-preserved : goal.loop-at-preserved
loop-at-preserved g c =
    let tiers = c.loop-at.middle.items in
    let at = c.loop-at.at - 1 in
    let item = c.loop-at.item in
    let old = c.index_mut.result.now in
    let new = c.shift_backward-item.new.self in
    let next : suc at ≡ c.loop-at.at = omega (arith, c.loop-at-test.true) in
    let inside : at < length tiers = omega (arith, c.loop-at.invariant.2, c.loop-at.invariant.4, c.loop-at-test.true, c.requires.end) in
    let read : old ≡ get_or tiers at [] = get_or_read tiers at old inside c.index_mut.ensures.value [] in
    let moved = c.shift_backward-item.ensures in
    let long : length new ≡ 128 = as_long_backward old new item c.shift_backward-item.result moved ∙ ap length read ∙ full_at tiers at c.loop-at.invariant.1 inside in (
      passed_backward tiers at new item c.shift_backward-item.result inside (ap (λ l. l ++ item ∷ []) (sym read) ∙ moved)
          ∙ ap (λ n. items_with tiers n item) next
          ∙ c.loop-at.invariant.0,
      full-set tiers at new c.loop-at.invariant.1 long,
      length-set tiers at new ∙ c.loop-at.invariant.2,
      c.loop-at.invariant.3,
      omega (arith, c.loop-at.invariant.4),
      omega (arith, c.loop-at-test.true),
    )
