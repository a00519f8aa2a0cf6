use Rattle.std.proofs.Common.{◌≡◌, [], ◌∷◌, ◌++◌, sym, subst, arith}
use Rattle.std.specs.List.{All}
use Rattle.std.proofs.lemmas.List.Elements.{All-push}
use Rattle.run_laws.specs.Jobs.{Done, Job}
use Rattle.source_pool.specs.declared.hands.Hand.{Hand}
use Rattle.source_pool.proofs.hands.empty_hands.Goals as goal

pub loop-alloc-preserved : goal.loop-alloc-preserved
loop-alloc-preserved g c =
    let at = c.loop-alloc in
    let hand : Hand (Job g.row.V.Denot) (Done g.row.V.Denot) = c.of.result in
    let IsEmpty = λ (h : Hand (Job g.row.V.Denot) (Done g.row.V.Denot)). h.jobs.items ≡ [] in
    let added : c.push.new.self.items ≡ at.hands.items ++ hand ∷ [] = c.in_ok-push.ensures.items in
    let longer = c.in_ok-push.ensures.len in
    let count = c.len.ensures in
    let less = c.loop-alloc-test.true in
    record {
      few = omega (arith, longer, count, less);
      empty = subst (All IsEmpty) (sym added) (All-push IsEmpty at.hands.items hand at.invariant.empty c.of.ensures.none);
    }
