use Rattle.std.proofs.Common.{arith, sym, ◌∙◌, ◌∷◌, ◌++◌, []}
use Rattle.std.proofs.lemmas.List.FromFn.{map-range_with_len_more}
use Rattle.level_walk.specs.Edges.{edges_to}
use Rattle.level_walk.proofs.edges.edge_ends.Goals as goal

pub loop-vertex-preserved : goal.loop-vertex-preserved
loop-vertex-preserved c =
    c.in_ok-push.ensures.items
    ∙ (λ i. c.loop-vertex.invariant i ++ c.edges_to.ensures i ∷ [])
    ∙ sym (map-range_with_len_more (edges_to c.args.edges.now) 0 c.loop-vertex.vertex c.loop-vertex.vertex (omega arith))
