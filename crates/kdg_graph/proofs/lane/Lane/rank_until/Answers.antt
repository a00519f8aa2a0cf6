use Rattle.std.proofs.Common.{arith, sym}
use Rattle.kdg_graph.proofs.Searches.{found_ended, gap_ended, inside_tied, none_earlier}
use Rattle.kdg_graph.proofs.lane.Lane.rank_until.Goals as goal

pub returns-in-Greater-clause-rank : goal.returns-in-Greater-clause-rank
returns-in-Greater-clause-rank c nodes lane = none_earlier c.args.slots.now c.args.key.now nodes c.args.self.now.ids.items lane (sym c.in-Greater.ensures.order)

pub returns-in-Ok-clause-rank : goal.returns-in-Ok-clause-rank
returns-in-Ok-clause-rank c nodes lane = (found_ended c.args.slots.now c.args.key.now nodes c.args.self.now.ids.items c.in-Ok.place lane c.in-Ok.ensures).rank

pub returns-in-Ok-clause-inside : goal.returns-in-Ok-clause-inside
returns-in-Ok-clause-inside c = omega (arith, inside_tied c.args.slots.now c.args.key.now c.args.self.now.ids.items c.in-Ok.place c.in-Ok.ensures)

pub returns-in-Ok-2-clause-rank : goal.returns-in-Ok-2-clause-rank
returns-in-Ok-2-clause-rank c nodes lane = (gap_ended c.args.slots.now c.args.key.now nodes c.args.self.now.ids.items c.in-Ok.place lane c.in-Ok.ensures).rank
