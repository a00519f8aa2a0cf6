use Rattle.std.specs.Prelude.{◌*◌, ◌<◌}
use Rattle.std.specs.List.{AllByRecursion}
use Rattle.std.proofs.Common.{ap, sym, ◌∙◌, subst, get_or}
use Rattle.gf2_eliminate.specs.Ones.{least_words, places_of}
use Rattle.gf2_eliminate.proofs.Words.{places_within, without_end}
use Rattle.gf2_eliminate.proofs.ones.Addend.new.Goals as goal

pub returns : goal.returns
returns c =
    let words = c.truncate.new.self.items in
    ap places_of c.truncate-2.ensures.items
    ∙ without_end words c.end_of_words-end.result (λ k past. sym (ap (λ ws. get_or ws k 0) c.deref-2.ensures.value) ∙ c.end_of_words-end.ensures.none k past)
    ∙ ap places_of c.truncate.ensures.items ∙ places_within c.ones.inside.words.items least_words (subst (AllByRecursion (λ place. place < 64 * least_words)) (sym c.ones.view_is) c.requires)
    ∙ c.ones.view_is
