use Rattle.std.proofs.Common.{arith, ap, ◌∙◌, get_or}
use Rattle.gf2_eliminate.specs.Ones.{places_left}
use Rattle.gf2_eliminate.proofs.Listing.{all_left}
use Rattle.gf2_eliminate.proofs.ones.OneSet.iter.Goals as goal

pub returns : goal.returns
returns c = c.new.ensures ∙ ap (λ words. places_left words 0 (get_or words 0 0)) c.deref.ensures.value ∙ all_left c.self.inside.words.items 0 (λ k below. absurd (omega (arith, below))) ∙ c.self.view_is
