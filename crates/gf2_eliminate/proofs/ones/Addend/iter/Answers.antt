use Rattle.std.proofs.Common.{ap, ◌∙◌, get_or}
use Rattle.gf2_eliminate.specs.Ones.{places_left}
use Rattle.gf2_eliminate.proofs.Listing.{all_left}
use Rattle.gf2_eliminate.proofs.ones.Addend.iter.Goals as goal

pub returns : goal.returns
returns c =
    let first = c.self.inside.first in
    c.new.ensures ∙ ap (λ words. places_left words first (get_or words first 0)) c.deref.ensures.value ∙ all_left c.self.inside.words.items first c.self.invariant.nothing ∙ c.self.view_is
