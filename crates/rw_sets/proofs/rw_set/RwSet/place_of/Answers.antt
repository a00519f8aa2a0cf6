use Rattle.std.proofs.Common.{length, refl, rules, arith}
use Rattle.std.proofs.lemmas.List.Sorted.{answers_always}
use Rattle.rw_sets.proofs.Places.{searched, gap_at_end, IsFound}
use Rattle.rw_sets.proofs.rw_set.RwSet.place_of.Goals.{then-len-eq0-via-then-len-eq0, then-len-eq0-via-else-len-eq0+then-pairs-len}
use Rattle.rw_sets.proofs.rw_set.RwSet.place_of.Goals as goal

-- every location of the set is lower
pub returns-then-len-eq0-clause-absent : goal.returns-then-len-eq0-clause-absent
returns-then-len-eq0-clause-absent c =
    let items = c.items-pairs.result.now in
    rw (← c.self.view_is, ← c.items-pairs.ensures) (gap_at_end items c.args.loc (length items) (rw c.items-pairs.ensures c.self.invariant) refl (λ some. elim c.then-len-eq0.branch [
      | then-len-eq0-via-then-len-eq0 w ↦ absurd (omega arith)
      | then-len-eq0-via-else-len-eq0+then-pairs-len w ↦ w.if-pairs-len.true
    ]))

-- the closure gives a pair's location, and the slice is the set's pairs
found : (c : goal.After-binary_search_by_key) → IsFound c.args.self.now c.args.loc c.binary_search_by_key.result
found c =
    let facts = c.binary_search_by_key.ensures in
    let by_key = facts.position (λ pair. pair.0) (answers_always _ _ _ (λ f a r g called. search rules)) in
    rw (← c.self.view_is, ← c.items-pairs.ensures) (searched c.items-pairs.result.now (rw c.items-pairs.ensures c.self.invariant) c.args.loc c.binary_search_by_key.result facts.bound by_key)

pub returns-clause-found : goal.returns-clause-found
returns-clause-found c = (found c).found

pub returns-clause-absent : goal.returns-clause-absent
returns-clause-absent c = (found c).absent
