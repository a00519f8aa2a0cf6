use Rattle.std.proofs.Common.{◌≡◌, ◌∙◌, ◌+◌, ◌<◌, ℕ, Bool, List, get_or, min, take, length, ap, sym, arith}
use Rattle.std.specs.Prelude.{◌||◌, nat_lt}
use Rattle.std.proofs.lemmas.Bool.{le-ltb}
use Rattle.std.proofs.lemmas.List.{get_or_read}
use Rattle.std.proofs.lemmas.List.Folds.{list_any_more}
use Rattle.logic_sim.specs.Horizon.{any_near, never}
use Rattle.logic_sim.proofs.OwnMoments.{lt_min}
use Rattle.logic_sim.proofs.horizon.Horizon.least_near.Goals as goal

pub loop-signal-init : goal.loop-signal-init
loop-signal-init c = λ limit early. le-ltb never limit early

pub loop-signal-preserved : goal.loop-signal-preserved
loop-signal-preserved c = λ limit early.
    let near : List ℕ = c.args.self.now.near.items in
    let signals : List ℕ = c.args.signals.now in
    let signal : ℕ = get_or signals c.loop-signal.signal-index 0 in
    let below : signal < length near = c.requires c.loop-signal.signal-index 0 c.loop-signal-test.true in
    let time : c.index.result.now ≡ get_or near signal 0 = get_or_read near signal c.index.result.now below c.index.ensures 0 in
    ap (λ (n : ℕ). nat_lt n limit) c.min-least.ensures ∙ lt_min c.loop-signal.least c.index.result.now limit
    ∙ ap (λ (b : Bool). b || nat_lt c.index.result.now limit) (c.loop-signal.invariant limit early)
    ∙ ap (λ (n : ℕ). any_near near (take c.loop-signal.signal-index signals) limit || nat_lt n limit) time
    ∙ sym (list_any_more (λ s. nat_lt (get_or near s 0) limit) signals c.loop-signal.signal-index 0 c.loop-signal-test.true)
