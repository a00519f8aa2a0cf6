use Rattle.std.proofs.Common.{ℕ, List, arith, ap, max, subst, sym, take, take_all, ◌∙◌, ◌+◌}
use Rattle.level_search.specs.Counts.{IsMost}
use Rattle.level_search.proofs.Times.{count_few, counted_more, most_more, new_count}
use Rattle.level_search.proofs.counting.most_to_one.Goals as goal

pub overflow_add-index_mut : goal.overflow_add-index_mut
overflow_add-index_mut c =
    let few = count_few c.args.vertices.now c.loop-vertex.vertex-index c.loop-vertex-test.true c.args.count c.loop-vertex.visits.items c.requires.vertices c.loop-vertex.invariant.counted
    c.index_mut.result.now c.index_mut.ensures.value in
    omega (arith, few, c.loop-vertex-test.true, c.requires.few)

pub loop-vertex-preserved : goal.loop-vertex-preserved
loop-vertex-preserved c =
    let vertices = c.args.vertices.now in
    let at = c.loop-vertex.vertex-index in
    let new = new_count vertices at c.loop-vertex-test.true c.args.count c.loop-vertex.visits.items c.requires.vertices c.loop-vertex.invariant.counted
    c.index_mut.result.now c.index_mut.ensures.value c.index.result.now c.index.ensures in record {
      counted = counted_more vertices at c.loop-vertex-test.true c.args.count c.loop-vertex.visits.items c.requires.vertices c.loop-vertex.invariant.counted
          c.index_mut.result.now c.index_mut.ensures.value;
      most = subst (IsMost (take (at + 1) vertices)) (sym (c.max-most.ensures ∙ ap (max c.loop-vertex.most) new))
          (most_more vertices at c.loop-vertex-test.true c.loop-vertex.most c.loop-vertex.invariant.most);
    }

pub returns : goal.returns
returns c = subst (λ (vertices : List ℕ). IsMost vertices c.loop-vertex.most) (take_all c.loop-vertex.vertex-index c.args.vertices.now c.loop-vertex-test.false) c.loop-vertex.invariant.most
