use Rattle.worker_gate.proofs.InTurn.{claims_add, drains_add, ends_add, giving_up_adds, moved_may_leave, nothing_is_done, refusals_add}
use Rattle.worker_gate.proofs.laws.leaving_laws.Goals as goal

pub returns : goal.returns
returns g c =
    let moves = c.move_laws.ensures in
    record {
      moved = moved_may_leave;
      nothing = nothing_is_done moves.stays;
      claims = claims_add moves.follow moves.claims;
      ends = ends_add c.join_laws.ensures.length moves.follow moves.ends;
      refusals = refusals_add moves.follow moves.refusals;
      gives_up = giving_up_adds moves.follow moves.gives_up;
      drains = drains_add moves.follow moves.drains;
    }
