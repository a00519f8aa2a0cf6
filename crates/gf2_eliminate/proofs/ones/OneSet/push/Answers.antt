use Rattle.std.specs.Prelude.{◌≡◌, ◌*◌, ◌/◌, ◌%◌, ◌^◌, ◌<◌, ◌++◌, [], ◌∷◌, length, slice_set, bit_or}
use Rattle.std.specs.List.{AllByRecursion}
use Rattle.std.proofs.Common.{arith, ap, sym, ◌∙◌, subst, get_or}
use Rattle.std.proofs.lemmas.List.{get_or_read}
use Rattle.gf2_eliminate.specs.Ones.{places_of}
use Rattle.gf2_eliminate.proofs.Words.{pushed}
use Rattle.gf2_eliminate.proofs.ones.OneSet.push.Goals as goal

pub returns-clause-ok : goal.returns-clause-ok
returns-clause-ok c =
    let before = c.self.inside.words.items in
    let words = c.make_room.new.words.items in
    let place = c.args.place in
    let within : place / 64 < length words = omega (arith, c.in_ok-make_room.ensures.there) in
    let word : c.index_mut.result.now ≡ get_or words (place / 64) 0 = get_or_read words (place / 64) c.index_mut.result.now within c.index_mut.ensures.value 0 in
    ap (λ w. places_of (slice_set words (place / 64) (bit_or w (1 * 2 ^ (place % 64) % 2 ^ 64)))) word
    ∙ pushed before words place c.in_ok-make_room.ensures.same within (subst (AllByRecursion (λ other. other < place)) (sym c.self.view_is) c.requires) ∙ ap (λ ns. ns ++ place ∷ []) c.self.view_is
