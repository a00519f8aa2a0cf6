use Rattle.std.proofs.Common.{◌≡◌, ◌≢◌, ℕ, zero, suc, ◌+◌, ◌<◌, length, refl, ap, ◌∙◌, arith, get_or-set_other, get_or-set_same, below_more}
use Rattle.rand_pcg.specs.Lcg.{Lcg, advance, increment_of, next, next_state, started, state_after}
use Rattle.rand_pcg.specs.Pcg.{multiplier_64, output_xsh_rr}
use Rattle.outer_edge.proofs.gate.SeededGate.choose_ahead.Goals as goal

-- a step after so many is one more
next_after : (w m increment n state : ℕ) → next_state w m increment (state_after w m increment n state) ≡ state_after w m increment (suc n) state
unfolding state_after
next_after w m increment zero state = refl
next_after w m increment (suc n) state = next_after w m increment n (next_state w m increment state)

one_further : (n : ℕ) (g : Lcg) → next 64 multiplier_64 (advance 64 multiplier_64 n g) ≡ advance 64 multiplier_64 (suc n) g
one_further n g = ap (λ state. record g { state = state }) (next_after 64 multiplier_64 g.increment n g.state)

pub loop-pick-preserved : goal.loop-pick-preserved
loop-pick-preserved c =
    let at = c.loop-pick.pick-index in
    let further : suc (c.args.turn + at) ≡ c.args.turn + (at + 1) = omega arith in
    let start = started 64 multiplier_64 c.args.seed (increment_of 64 c.args.worker) in
    let inside : at < length c.loop-pick.picks = omega arith in
    record {
      generator = ap (λ (given : ℕ × Lcg). given.1) c.next_word.ensures ∙ ap (next 64 multiplier_64) c.loop-pick.invariant.generator
          ∙ one_further (c.args.turn + at) start ∙ ap (λ n. advance 64 multiplier_64 n start) further;
      picks = below_more _ _
          (λ k low. let other : k ≢ at = omega arith in rw get_or-set_other (c.loop-pick.invariant.picks k low))
          (rw get_or-set_same (c.from.ensures ∙ ap (λ (given : ℕ × Lcg). given.0) c.next_word.ensures ∙ ap (λ (g : Lcg). output_xsh_rr g.state) c.loop-pick.invariant.generator));
    }
