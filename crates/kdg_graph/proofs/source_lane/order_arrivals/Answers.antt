use Rattle.std.proofs.Common.{◌≡◌, IsPermutation, List, is_lt, rules, subst}
use Rattle.std.proofs.lemmas.Fn.{always_returns_same}
use Rattle.plain_laws.specs.Lists.{All-shuffled}
use Rattle.kdg_graph.proofs.Common.{Arrival, IsPermutation-map, NodeId, TellsItsKey, arrival_cmp, arrived}
use Rattle.kdg_graph.proofs.Listed.{earliest_first}
use Rattle.kdg_graph.proofs.source_lane.order_arrivals.Goals as goal

pub returns-then-arrivals-gt1-clause-moved : goal.returns-then-arrivals-gt1-clause-moved
returns-then-arrivals-gt1-clause-moved c =
    subst (λ (ids : List NodeId). IsPermutation ids (arrived c.sort_unstable_by.new.self)) c.look_up.ensures.ids (IsPermutation-map (λ (arrival : Arrival). arrival.id) c.look_up.new.arrivals c.sort_unstable_by.new.self c.sort_unstable_by.ensures.permutation)

pub returns-then-arrivals-gt1-clause-told : goal.returns-then-arrivals-gt1-clause-told
returns-then-arrivals-gt1-clause-told c _ = All-shuffled (TellsItsKey c.args.nodes.now.nodes) c.look_up.new.arrivals c.sort_unstable_by.new.self c.sort_unstable_by.ensures.permutation c.look_up.ensures.told

pub returns-then-arrivals-gt1-clause-in_turn : goal.returns-then-arrivals-gt1-clause-in_turn
returns-then-arrivals-gt1-clause-in_turn c =
    c.sort_unstable_by.ensures.sorted (λ one other. is_lt (arrival_cmp c.args.nodes.now.nodes one other)) (earliest_first c.args.nodes.now.nodes) (always_returns_same _ (λ a r. is_lt r ≡ is_lt (arrival_cmp c.args.nodes.now.nodes a.0.now a.1.0.now)) _ (λ a r f k. search rules))
