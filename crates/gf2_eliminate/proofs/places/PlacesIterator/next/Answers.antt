use Rattle.std.specs.Prelude.{◌≡◌, ◌+◌, ◌*◌, ◌%◌, ◌^◌, ◌∷◌, length, bit_and}
use Rattle.std.specs.Int.{bit_not, trailing_zeros}
use Rattle.std.proofs.Common.{arith, ap, sym, ◌∙◌, rules, w64}
use Rattle.gf2_eliminate.specs.Ones.{places_left}
use Rattle.gf2_eliminate.proofs.Listing.{lowest_left, next_word, whole_word}
use Rattle.gf2_eliminate.proofs.places.PlacesIterator.next.Goals as goal

pub loop-self-preserved : goal.loop-self-preserved
loop-self-preserved c =
    let s = c.loop-self.self-inside in
    record {
      left = c.loop-self.invariant.left ∙ next_word s.words.now s.at s.left c.loop-self-test.true ∙ sym (whole_word s.words.now (s.at + 1));
      among = record { few = c.loop-self.invariant.among.few; before = omega (arith, c.loop-self.invariant.among.few, c.if-self.false) };
    }

pub returns-clause-steps : goal.returns-clause-steps
returns-clause-steps c =
    let s = c.loop-self.self-inside in
    c.loop-self.invariant.left ∙ lowest_left s.left (omega (arith, c.loop-self-test.false)) (search rules) s.words.now s.at

pub returns-clause-goes : goal.returns-clause-goes
returns-clause-goes c =
    let s = c.loop-self.self-inside in
    let all : c.args.self.now ≡ (s.at * 64 + trailing_zeros w64 s.left) ∷ places_left s.words.now s.at (bit_and s.left (bit_not w64 (1 * 2 ^ trailing_zeros w64 s.left % 2 ^ 64))) =
    c.loop-self.invariant.left ∙ lowest_left s.left (omega (arith, c.loop-self-test.false)) (search rules) s.words.now s.at in
    record { on = λ _. (tt, tt, omega (arith, ap length all)); keeps = tt; rests = λ _. tt }
