use Rattle.std.proofs.Common.{rules, ◌≡◌, ◌<◌, ◌≤◌, ◌∙◌, ap, get_or, length, sym}
use Rattle.kdg_graph.proofs.Common.{ids_for}
use Rattle.kdg_graph.proofs.Filing.{lane_at, lane_beyond}
use Rattle.kdg_graph.proofs.locations.Locations.lane.Goals as goal

pub returns-in-Some-clause-kept : goal.returns-in-Some-clause-kept
returns-in-Some-clause-kept c =
    let inside : c.args.loc < length c.args.self.now.locations.items = search rules in
    let here : c.in-Some.location.now ≡ get_or c.args.self.now.locations.items c.args.loc c.in-Some.location.now = search rules in
    c.clashing.ensures ∙ ap (ids_for c.args.access) here ∙ sym (lane_at c.args.self.now.locations.items c.args.loc c.args.access c.in-Some.location.now inside)

pub returns-in-None-clause-beyond : goal.returns-in-None-clause-beyond
returns-in-None-clause-beyond c =
    let beyond : length c.args.self.now.locations.items ≤ c.args.loc = search rules in
    lane_beyond c.args.self.now.locations.items c.args.loc c.args.access beyond
