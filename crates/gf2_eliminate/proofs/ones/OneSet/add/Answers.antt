use Rattle.std.specs.Prelude.{◌≡◌, length, bit_xor}
use Rattle.std.proofs.Common.{arith, ap, sym, ◌∙◌, subst, get_or}
use Rattle.std.proofs.lemmas.List.{with_items_is}
use Rattle.gf2_eliminate.specs.Ones.{places_of}
use Rattle.gf2_eliminate.specs.Lines.{IsListTo}
use Rattle.gf2_eliminate.specs.Plans.{sum_to}
use Rattle.gf2_eliminate.proofs.Words.{sum_is}
use Rattle.gf2_eliminate.proofs.ones.OneSet.add.Goals as goal

pub returns : goal.returns
returns c = λ bound in-self in-added.
    let before = c.self.inside.words.items in
    let others = c.added.inside.words.items in
    let words = c.turn_bits.new.words in
    let long : length words ≡ c.self.inside.words.len = omega (arith, ap length c.deref_mut.ensures.value, c.self.inside.words.ok.0) in
    ap places_of (with_items_is c.self.inside.words words long)
    ∙ sum_is before others words bound (subst (IsListTo bound) (sym c.self.view_is) in-self) (subst (IsListTo bound) (sym c.added.view_is) in-added)
    (λ k. c.turn_bits.ensures k ∙ ap (λ ws. bit_xor (get_or ws k 0) (get_or c.deref.result.now k 0)) c.deref_mut.ensures.value ∙ ap (λ ws. bit_xor (get_or before k 0) (get_or ws k 0)) c.deref.ensures.value)
    ∙ ap (λ ns. sum_to bound ns (places_of others)) c.self.view_is ∙ ap (sum_to bound c.args.self.now) c.added.view_is
