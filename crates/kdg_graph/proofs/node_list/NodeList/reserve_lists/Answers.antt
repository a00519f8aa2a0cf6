use Rattle.std.proofs.Common.{◌≡◌, ◌∙◌, ◌≤◌, List, ap, length, refl, rules, subst, sym}
use Rattle.kdg_graph.specs.Kept.{IsKept}
use Rattle.kdg_graph.proofs.Common.{AreFiled, AreSome, IsGraph, Location, MarkedIds, Node, listed_in, recent_in, settled_in, unblocked_of}
use Rattle.kdg_graph.proofs.Marks.{listed_same, some_same}
use Rattle.kdg_graph.proofs.node_list.NodeList.reserve_lists.Goals.{in-Some+in_ok-reserve-2, in_default}
use Rattle.kdg_graph.proofs.node_list.NodeList.reserve_lists.Goals as goal

-- with more room among the unblocked nodes all is kept as before
kept_with_room : (was nodes : List Node) (filed locations : List Location) (before unblocked after : MarkedIds) → IsKept was filed before → nodes ≡ was → locations ≡ filed → unblocked ≡ before → settled_in after ≡ settled_in unblocked → recent_in after ≡ recent_in unblocked → unblocked.room ≤ after.room → length unblocked.standings ≤ length after.standings
    → IsKept nodes locations after
kept_with_room was nodes filed locations before unblocked after kept same same_filed same_unblocked settled recent room long =
    let are : AreSome nodes unblocked = subst (λ (l : List Node). AreSome l unblocked) (sym same) (subst (AreSome was) (sym same_unblocked) kept.some) in
    let all : listed_in nodes unblocked ≡ unblocked_of nodes = subst (λ (l : List Node). listed_in l unblocked ≡ unblocked_of l) (sym same) (ap (listed_in was) same_unblocked ∙ kept.unblocked_are) in
    record {
      graph = subst IsGraph (sym same) kept.graph;
      filed = subst (λ (l : List Node). AreFiled l locations) (sym same) (subst (AreFiled was) (sym same_filed) kept.filed);
      some = some_same nodes unblocked after settled recent room long are;
      unblocked_are = listed_same nodes unblocked after settled recent ∙ all;
    }

pub invariant_of-self-in_err-reserve-3 : goal.invariant_of-self-in_err-reserve-3
invariant_of-self-in_err-reserve-3 c =
    let m = c.match-self.self-inside in
    let told = c.reserve-2.ensures in
    let kept : IsKept m.nodes.nodes m.locations.locations.items c.reserve-2.new.self = elim c.match-self.branch [
      | in-Some+in_ok-reserve-2 w ↦ kept_with_room c.self.inside.nodes.nodes m.nodes.nodes c.self.inside.locations.locations.items m.locations.locations.items c.self.inside.sources m.sources c.reserve-2.new.self c.self.invariant.0 (rw w.self-inside-is c.reserve.ensures.nodes) (rw w.self-inside-is refl) (rw w.self-inside-is refl) told.settled told.recent told.no_less told.no_fewer
      | in_default w ↦ kept_with_room c.self.inside.nodes.nodes m.nodes.nodes c.self.inside.locations.locations.items m.locations.locations.items c.self.inside.sources m.sources c.reserve-2.new.self c.self.invariant.0 (rw w.self-inside-is c.reserve.ensures.nodes) (rw w.self-inside-is refl) (rw w.self-inside-is refl) told.settled told.recent told.no_less told.no_fewer
    ] in
    search rules

pub invariant_of-self-2 : goal.invariant_of-self-2
invariant_of-self-2 c =
    let m = c.match-self.self-inside in
    let told = c.reserve-2.ensures in
    let kept : IsKept m.nodes.nodes m.locations.locations.items c.reserve-2.new.self = elim c.match-self.branch [
      | in-Some+in_ok-reserve-2 w ↦ kept_with_room c.self.inside.nodes.nodes m.nodes.nodes c.self.inside.locations.locations.items m.locations.locations.items c.self.inside.sources m.sources c.reserve-2.new.self c.self.invariant.0 (rw w.self-inside-is c.reserve.ensures.nodes) (rw w.self-inside-is refl) (rw w.self-inside-is refl) told.settled told.recent told.no_less told.no_fewer
      | in_default w ↦ kept_with_room c.self.inside.nodes.nodes m.nodes.nodes c.self.inside.locations.locations.items m.locations.locations.items c.self.inside.sources m.sources c.reserve-2.new.self c.self.invariant.0 (rw w.self-inside-is c.reserve.ensures.nodes) (rw w.self-inside-is refl) (rw w.self-inside-is refl) told.settled told.recent told.no_less told.no_fewer
    ] in
    search rules
