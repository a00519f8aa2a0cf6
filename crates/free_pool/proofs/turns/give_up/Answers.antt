use Rattle.std.proofs.Common.{[]}
use Rattle.free_pool.proofs.InTurn.{same_number, same_unjoined, still_seated, turn_found}
use Rattle.free_pool.proofs.turns.give_up.Goals as goal

pub returns-clause-seated : goal.returns-clause-seated
returns-clause-seated g c =
    let turn = c.enter-turn.result in
    let engine = c.give_up.new.self in
    let found = turn_found c.args.hall.now c.args.seat turn c.requires.seated c.enter-turn.ensures in
    still_seated c.args.hall.now c.args.seat turn c.requires.seated c.enter-turn.ensures engine turn.view.jobs [] c.leave-seat.result
    c.leave-seat.ensures.hall (c.leave-seat.ensures.view turn.engine found)

pub returns-clause-number : goal.returns-clause-number
returns-clause-number g c =
    let turn = c.enter-turn.result in
    let engine = c.give_up.new.self in
    let found = turn_found c.args.hall.now c.args.seat turn c.requires.seated c.enter-turn.ensures in
    same_number c.args.hall.now c.args.seat turn c.requires.seated c.enter-turn.ensures engine turn.view.jobs [] c.leave-seat.result
    c.leave-seat.ensures.hall (c.leave-seat.ensures.view turn.engine found)

pub returns-clause-unjoined : goal.returns-clause-unjoined
returns-clause-unjoined g c =
    let turn = c.enter-turn.result in
    let engine = c.give_up.new.self in
    let found = turn_found c.args.hall.now c.args.seat turn c.requires.seated c.enter-turn.ensures in
    same_unjoined c.args.hall.now c.args.seat turn c.requires.seated c.enter-turn.ensures engine turn.view.jobs [] c.leave-seat.result
    c.leave-seat.ensures.hall (c.leave-seat.ensures.view turn.engine found)
