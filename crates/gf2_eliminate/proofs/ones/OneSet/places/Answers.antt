use Rattle.std.specs.Prelude.{◌++◌, [], ◌∷◌}
use Rattle.std.proofs.Common.{ap, sym, ◌∙◌, append_assoc, append-nil}
use Rattle.gf2_eliminate.proofs.ones.OneSet.places.Goals as goal

pub loop-place-init : goal.loop-place-init
loop-place-init c = ap (λ ns. ns ++ c.into_iter-place-iterator.result) c.new-places.ensures.items ∙ c.into_iter-place-iterator.ensures.into_iter_gives ∙ c.iter-place-items.ensures

pub loop-place-preserved : goal.loop-place-preserved
loop-place-preserved c =
    ap (λ ns. ns ++ c.next.new.self) c.in_ok-push.ensures.items ∙ append_assoc c.loop-place.places.items (c.in-Some.place ∷ []) c.next.new.self
    ∙ ap (λ ns. c.loop-place.places.items ++ ns) (sym c.in-Some.ensures.steps) ∙ c.loop-place.invariant

pub returns : goal.returns
returns c = sym (append-nil c.loop-place.places.items) ∙ ap (λ ns. c.loop-place.places.items ++ ns) (sym c.in-None.ensures.steps.0) ∙ c.loop-place.invariant
