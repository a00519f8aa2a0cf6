use Rattle.kdg_graph.proofs.Searches.{ended_inside, searched}
use Rattle.kdg_graph.proofs.lane.Lane.search.Goals as goal

pub returns-clause-found : goal.returns-clause-found
returns-clause-found c nodes lane = searched c.args.slots.now c.args.key.now nodes c.args.self.now.ids.items c.search_near.result lane c.search_near.ensures.ended

pub returns-clause-inside : goal.returns-clause-inside
returns-clause-inside c = ended_inside c.args.slots.now c.args.key.now c.args.self.now.ids.items c.search_near.result c.search_near.ensures.ended
