use Rattle.std.proofs.Common.{ap, ◌∙◌}
use Rattle.rw_sets.specs.Accesses.{put_access}
use Rattle.rw_sets.specs.MergeLaws.{ascending_put}
use Rattle.rw_sets.proofs.Places.{written_over, inserted_or_not}
use Rattle.rw_sets.proofs.rw_set.RwSet.add.Goals as goal

-- the location was there, and its pair is written over
pub invariant_of-self : goal.invariant_of-self
invariant_of-self c =
    let at = rw (← c.self.view_is) at c.in-Ok.ensures.found in
    let stronger = rw c.items.ensures at c.stronger.ensures in
    rw (c.replace.ensures, written_over _ _ _ c.args.access _ c.self.invariant at stronger) (ascending_put _ _ c.self.invariant)

pub returns-in-Ok-clause-ok : goal.returns-in-Ok-clause-ok
returns-in-Ok-clause-ok c =
    let at = rw (← c.self.view_is) at c.in-Ok.ensures.found in
    let stronger = rw c.items.ensures at c.stronger.ensures in
    c.replace.ensures ∙ written_over _ _ _ c.args.access _ c.self.invariant at stronger ∙ ap (λ l. put_access l (c.args.loc, c.args.access)) c.self.view_is

-- it was not, and its pair is inserted
pub invariant_of-self-in-Err : goal.invariant_of-self-in-Err
invariant_of-self-in-Err c =
    let gap = rw (← c.self.view_is) at c.in-Err.ensures.absent in
    (inserted_or_not _ _ _ _ c.args.access _ c.self.invariant gap c.insert.ensures.ok c.insert.ensures.err).0

pub returns-in-Err-clause-ok : goal.returns-in-Err-clause-ok
returns-in-Err-clause-ok c =
    let gap = rw (← c.self.view_is) at c.in-Err.ensures.absent in
    rw (← c.self.view_is) (inserted_or_not _ _ _ _ c.args.access _ c.self.invariant gap c.insert.ensures.ok c.insert.ensures.err).1
