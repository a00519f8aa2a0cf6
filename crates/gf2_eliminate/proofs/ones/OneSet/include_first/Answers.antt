use Rattle.std.specs.Prelude.{◌≡◌, ◌*◌, ◌&&◌, ◌||◌, nat_lt, ℕ, List, length, take, min, bit_or}
use Rattle.std.proofs.Common.{arith, ap, ◌∙◌, get_or}
use Rattle.std.proofs.lemmas.List.{with_items_is}
use Rattle.gf2_eliminate.specs.Lines.{has}
use Rattle.gf2_eliminate.specs.Ones.{places_of}
use Rattle.gf2_eliminate.proofs.Including.{included_first}
use Rattle.gf2_eliminate.proofs.ones.OneSet.include_first.Goals as goal

pub returns-clause-ok : goal.returns-clause-ok
returns-clause-ok c = λ n.
    let before = c.self.inside.words.items in
    let others = c.other.inside.words.items in
    let words = c.set_bits.new.words in
    let long : length words ≡ c.lengthen.new.words.len = omega (arith, ap length c.deref_mut.ensures.value, c.lengthen.new.words.ok.0) in
    let count : c.min.result ≡ min (length others) c.args.words = omega arith in
    ap (λ ws. has (places_of ws) n) (with_items_is c.lengthen.new.words words long)
    ∙ included_first before c.lengthen.new.words.items others words c.args.words c.in_ok-lengthen.ensures.same
    (λ k. c.set_bits.ensures k ∙ ap (λ ws. bit_or (get_or ws k 0) (get_or (take c.min.result c.deref.result.now) k 0)) c.deref_mut.ensures.value
    ∙ ap (λ ws. bit_or (get_or c.lengthen.new.words.items k 0) (get_or (take c.min.result ws) k 0)) c.deref.ensures.value
    ∙ ap (λ m. bit_or (get_or c.lengthen.new.words.items k 0) (get_or (take m others) k 0)) count) n
    ∙ ap (λ (ns : List ℕ). has ns n || (nat_lt n (64 * c.args.words) && has (places_of others) n)) c.self.view_is
    ∙ ap (λ (ns : List ℕ). has c.args.self.now n || (nat_lt n (64 * c.args.words) && has ns n)) c.other.view_is
