use Rattle.std.proofs.Common.{◌<◌, add-one, arith, length}
use Rattle.kdg_graph.proofs.Searches.{found_ended, gap_ended, inside_tied, past_found, past_gap}
use Rattle.kdg_graph.proofs.lane.Lane.rank_past.Goals as goal

pub returns-in-Ok-clause-rank : goal.returns-in-Ok-clause-rank
returns-in-Ok-clause-rank c nodes lane =
    rw add-one (past_found c.args.key.now nodes c.in-Ok.place lane.ascending (found_ended c.args.slots.now c.args.key.now nodes c.args.self.now.ids.items c.in-Ok.place lane c.in-Ok.ensures.ended))

pub returns-in-Ok-clause-inside : goal.returns-in-Ok-clause-inside
returns-in-Ok-clause-inside c =
    let inside : c.in-Ok.place < length c.args.self.now.ids.items = inside_tied c.args.slots.now c.args.key.now c.args.self.now.ids.items c.in-Ok.place c.in-Ok.ensures.ended in
    omega (arith, inside)

pub returns-in-Err-clause-rank : goal.returns-in-Err-clause-rank
returns-in-Err-clause-rank c nodes lane =
    past_gap c.args.key.now nodes c.in-Err.place lane.ascending (gap_ended c.args.slots.now c.args.key.now nodes c.args.self.now.ids.items c.in-Err.place lane c.in-Err.ensures.ended)
