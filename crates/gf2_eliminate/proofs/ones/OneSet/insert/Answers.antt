use Rattle.std.specs.Prelude.{◌≡◌, ◌*◌, ◌/◌, ◌%◌, ◌^◌, ◌<◌, ◌||◌, ◌==◌, ℕ, List, length, slice_set, bit_or}
use Rattle.std.proofs.Common.{arith, ap, ◌∙◌, get_or}
use Rattle.std.proofs.lemmas.List.{get_or_read}
use Rattle.gf2_eliminate.specs.Lines.{has}
use Rattle.gf2_eliminate.specs.Ones.{places_of}
use Rattle.gf2_eliminate.proofs.Including.{inserted}
use Rattle.gf2_eliminate.proofs.ones.OneSet.insert.Goals as goal

pub returns-clause-ok : goal.returns-clause-ok
returns-clause-ok c = λ n.
    let words = c.make_room.new.words.items in
    let place = c.args.place in
    let within : place / 64 < length words = omega (arith, c.in_ok-make_room.ensures.there) in
    let word : c.index_mut.result.now ≡ get_or words (place / 64) 0 = get_or_read words (place / 64) c.index_mut.result.now within c.index_mut.ensures.value 0 in
    ap (λ w. has (places_of (slice_set words (place / 64) (bit_or w (1 * 2 ^ (place % 64) % 2 ^ 64)))) n) word
    ∙ inserted c.self.inside.words.items words place c.in_ok-make_room.ensures.same within n ∙ ap (λ (ns : List ℕ). has ns n || place == n) c.self.view_is
