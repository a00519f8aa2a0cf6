use Rattle.std.specs.Prelude.{◌≡◌, ℕ, ◌+◌, ◌*◌, ◌^◌, ◌<◌, List, bit_and}
use Rattle.std.specs.Int.{bit_at, bit_not}
use Rattle.std.proofs.Common.{arith, ap, sym, ◌∙◌, subst, get_or, w64}
use Rattle.std.proofs.lemmas.List.{get_or_read}
use Rattle.gf2_eliminate.specs.Covers.{IsLeastBeyond}
use Rattle.gf2_eliminate.specs.Lines.{has}
use Rattle.gf2_eliminate.specs.Ones.{IsLeastBit, places_of}
use Rattle.gf2_eliminate.proofs.FirstBeyond.{all_within, found_beyond, word_within}
use Rattle.gf2_eliminate.proofs.ones.OneSet.first_beyond.Goals as goal

pub loop-at-init : goal.loop-at-init
loop-at-init c = record { low = omega arith; ahead = omega arith; all = λ n beyond before. absurd (omega (arith, beyond, before)) }

pub first_bit-requires : goal.first_bit-requires
first_bit-requires c = c.loop-at.invariant.low

pub returns-in-Some : goal.returns-in-Some
returns-in-Some c =
    let words = c.self.inside.words.items in
    let others = c.other.inside.words.items in
    let at = c.loop-at.at in
    let one : c.index.result.now ≡ get_or words at 0 = get_or_read words at c.index.result.now (omega arith) c.index.ensures 0 in
    let two : c.word_at.result ≡ get_or others at 0 = c.word_at.ensures ∙ ap (λ (ws : List ℕ). get_or ws at 0) c.deref.ensures.value in
    let fits : get_or others at 0 < 2 ^ 64 = omega (arith, two) in
    let least = subst (λ w. IsLeastBit (bit_and w (bit_not w64 (get_or others at 0))) c.loop-at.bit c.in-Some.found) one
    (subst (λ w. IsLeastBit (bit_and c.index.result.now (bit_not w64 w)) c.loop-at.bit c.in-Some.found) two c.in-Some.ensures) in
    subst (λ (ns : List ℕ). IsLeastBeyond ns c.args.other.now c.args.from (at * 64 + c.in-Some.found)) c.self.view_is
    (subst (λ (ns : List ℕ). IsLeastBeyond (places_of words) ns c.args.from (at * 64 + c.in-Some.found)) c.other.view_is
    (found_beyond words others at fits c.args.from c.loop-at.bit c.in-Some.found c.loop-at.invariant least))

pub loop-at-preserved : goal.loop-at-preserved
loop-at-preserved c =
    let words = c.self.inside.words.items in
    let others = c.other.inside.words.items in
    let at = c.loop-at.at in
    let one : c.index.result.now ≡ get_or words at 0 = get_or_read words at c.index.result.now (omega arith) c.index.ensures 0 in
    let two : c.word_at.result ≡ get_or others at 0 = c.word_at.ensures ∙ ap (λ (ws : List ℕ). get_or ws at 0) c.deref.ensures.value in
    let fits : get_or others at 0 < 2 ^ 64 = omega (arith, two) in
    word_within words others at fits c.args.from c.loop-at.bit c.loop-at.invariant (λ k above.
    ap (λ w. bit_at (bit_and w (bit_not w64 (get_or others at 0))) k) (sym one) ∙ ap (λ w. bit_at (bit_and c.index.result.now (bit_not w64 w)) k) (sym two) ∙ c.in_default.ensures k above)

pub returns : goal.returns
returns c = λ n beyond there.
    let words = c.self.inside.words.items in
    let others = c.other.inside.words.items in
    ap (λ (ns : List ℕ). has ns n) (sym c.other.view_is)
    ∙ all_within words others c.args.from c.loop-at.at c.loop-at.bit c.loop-at.invariant (omega arith) n beyond (ap (λ (ns : List ℕ). has ns n) c.self.view_is ∙ there)
