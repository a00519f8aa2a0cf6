use Rattle.std.specs.Prelude.{◌≡◌, ◌||◌, length, bit_or}
use Rattle.std.specs.Vec.{with_items}
use Rattle.std.proofs.Common.{arith, ap, ◌∙◌, get_or}
use Rattle.std.proofs.lemmas.List.{with_items_is}
use Rattle.gf2_eliminate.specs.Ones.{places_of}
use Rattle.gf2_eliminate.specs.Lines.{has}
use Rattle.gf2_eliminate.proofs.Words.{ascending_places, included}
use Rattle.gf2_eliminate.proofs.ones.OneSet.include.Goals as goal

pub returns-in_err-lengthen-clause-ascending : goal.returns-in_err-lengthen-clause-ascending
returns-in_err-lengthen-clause-ascending c = ascending_places c.lengthen.new.words.items

pub returns-clause-both : goal.returns-clause-both
returns-clause-both c = λ n.
    let before = c.self.inside.words.items in
    let others = c.other.inside.words.items in
    let words = c.set_bits.new.words in
    let long : length words ≡ c.lengthen.new.words.len = omega (arith, ap length c.deref_mut.ensures.value, c.lengthen.new.words.ok.0) in
    ap (λ ws. has (places_of ws) n) (with_items_is c.lengthen.new.words words long)
    ∙ included before c.lengthen.new.words.items others words c.in_ok-lengthen.ensures.same
    (λ k. c.set_bits.ensures k ∙ ap (λ ws. bit_or (get_or ws k 0) (get_or c.deref.result.now k 0)) c.deref_mut.ensures.value
    ∙ ap (λ ws. bit_or (get_or c.lengthen.new.words.items k 0) (get_or ws k 0)) c.deref.ensures.value) n
    ∙ ap (λ ns. has ns n || has (places_of others) n) c.self.view_is ∙ ap (λ ns. has c.args.self.now n || has ns n) c.other.view_is

pub returns-clause-ascending : goal.returns-clause-ascending
returns-clause-ascending c = ascending_places (with_items c.lengthen.new.words c.set_bits.new.words).items
