use Rattle.std.specs.Prelude.{◌≡◌, ◌/◌, ◌%◌, ◌^◌, ◌==◌, ℕ, List}
use Rattle.std.proofs.Common.{arith, ap, sym, ◌∙◌, get_or}
use Rattle.std.proofs.lemmas.Bool.{le-ltb}
use Rattle.std.proofs.lemmas.List.{get_or_read}
use Rattle.gf2_eliminate.specs.Lines.{has}
use Rattle.gf2_eliminate.proofs.FirstCommon.{no_bit_past}
use Rattle.gf2_eliminate.proofs.Words.{has_places}
use Rattle.gf2_eliminate.proofs.ones.OneSet.has.Goals as goal

pub returns-then-at-len : goal.returns-then-at-len
returns-then-at-len c =
    let words = c.self.inside.words.items in
    let place = c.args.place in
    let word : c.index.result.now ≡ get_or words (place / 64) 0 = get_or_read words (place / 64) c.index.result.now (omega arith) c.index.ensures 0 in
    ap (λ w. w / 2 ^ (place % 64) % 2 == 1) word ∙ sym (has_places words place) ∙ ap (λ (ns : List ℕ). has ns place) c.self.view_is

pub returns-else-at-len : goal.returns-else-at-len
returns-else-at-len c =
    let words = c.self.inside.words.items in
    let place = c.args.place in
    le-ltb (place / 64) c.len.result c.if-at-len.false ∙ sym (no_bit_past words place (omega arith)) ∙ sym (has_places words place) ∙ ap (λ (ns : List ℕ). has ns place) c.self.view_is
