use Rattle.std.proofs.Common.{sym}
use Rattle.rw_sets.proofs.Places.{access_at_place, absent_in_gap}
use Rattle.rw_sets.proofs.rw_set.RwSet.contains.Goals as goal

pub returns-in-Ok : goal.returns-in-Ok
returns-in-Ok c =
    let at = rw (← c.self.view_is) at c.in-Ok.ensures.found in
    rw (← c.self.view_is, c.items.ensures) (sym (access_at_place _ _ _ c.self.invariant at))

pub returns-in-Err : goal.returns-in-Err
returns-in-Err c = sym (absent_in_gap _ _ _ c.in-Err.ensures.absent)
