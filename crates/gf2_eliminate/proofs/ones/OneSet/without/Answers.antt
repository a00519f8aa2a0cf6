use Rattle.std.specs.Prelude.{◌≡◌, ◌*◌, ◌/◌, ◌%◌, ◌^◌, ◌<◌, ◌==◌, not, length, filter, slice_set, bit_and}
use Rattle.std.specs.Int.{bit_not}
use Rattle.std.proofs.Common.{arith, ap, ◌∙◌, get_or, w64}
use Rattle.std.proofs.lemmas.List.{get_or_read}
use Rattle.std.proofs.lemmas.List.Elements.{same_from_all_zip}
use Rattle.gf2_eliminate.specs.Ones.{places_of}
use Rattle.gf2_eliminate.proofs.Words.{left_out, not_there}
use Rattle.gf2_eliminate.proofs.ones.OneSet.without.Goals as goal
use Rattle.gf2_eliminate.proofs.ones.OneSet.without.Goals.{then-at-len, else-at-len}

pub returns : goal.returns
returns c =
    let before = c.self.inside.words.items in
    let words = c.in_ok-words.words.items in
    let place = c.args.place in
    let same : words ≡ before = same_from_all_zip (λ x y. y ≡ x) before words c.in_ok-words.ensures.cases.0 (λ x y copied. copied) in
    let others = ap (filter (λ other. not (other == place))) (ap places_of same ∙ c.self.view_is) in
    elim c.if-at-len.branch [
      | then-at-len w ↦
          let within : place / 64 < length words = omega arith in
          let word : w.index_mut.result.now ≡ get_or words (place / 64) 0 = get_or_read words (place / 64) w.index_mut.result.now within w.index_mut.ensures.value 0 in
          ap (λ ws. places_of ws.items) w.words-is
          ∙ ap (λ x. places_of (slice_set words (place / 64) (bit_and x (bit_not w64 (1 * 2 ^ (place % 64) % 2 ^ 64))))) word ∙ left_out words place within ∙ others
      | else-at-len w ↦ ap (λ ws. places_of ws.items) w.words-is ∙ not_there words place (omega arith) ∙ others
    ]
