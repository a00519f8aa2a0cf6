use Rattle.std.proofs.Common.{◌≡◌, ◌∙◌, ◌∷◌, [], ◌++◌, ◌<◌, Bool, true, false, cond, List, ap, length, get_or, set, subst, sym, refl, arith}
use Rattle.std.proofs.lemmas.Bool.{or_parts}
use Rattle.kdg_graph.proofs.Common.{Absent, AreMarked, AreRetested, AreSome, Arrival, MarkedIds, Node, Recent, Standing, has_number, ids_in, is_settled, recent_among, settled_among}
use Rattle.kdg_graph.proofs.Listed.{has_mark, selected_set, set_as_it_is}
use Rattle.kdg_graph.proofs.Marks.{marked_waiting, settled_stays, waits}
use Rattle.kdg_graph.proofs.source_lane.SourceLane.list.Goals as goal

-- what a push leaves, by what was told of it
pushed_as_told : (all more less : List Arrival) (ok told answer : Bool) → all ≡ cond ok more less → told ≡ ok → told ≡ answer → all ≡ cond answer more less
pushed_as_told all more less ok told answer is tells answers = is ∙ ap (λ b. cond b more less) (sym tells ∙ answers)

-- ---- it is there

pub returns-then-is_listed : goal.returns-then-is_listed
returns-then-is_listed c =
    let has : has_number c.args.id.at (ids_in c.args.self.now) ≡ true = sym c.is_listed.ensures.listed ∙ c.if-is_listed.true in
    record {
      ids = λ test was. selected_set c.args.nodes.now.nodes test c.args.id true (ids_in c.args.self.now) (ids_in c.args.self.now) c.requires.graph (set_as_it_is c.args.id (ids_in c.args.self.now) true has) was;
      some = c.requires.some;
      room = omega arith;
      marks = refl;
    }

-- ---- it waits

pub index_mut-requires : goal.index_mut-requires
index_mut-requires c =
    let some = subst (AreSome c.args.nodes.now.nodes) (sym c.self.view_is) c.requires.some in
    omega (arith, c.self.inside.standings.ok.0, has_mark c.args.nodes.now.nodes c.args.id (length c.self.inside.standings.items) c.requires.there some.marks)

pushed : (c : goal.After-self-1) → c.push.new.self.items ≡ c.self.inside.arrivals.items ++ c.new-arrival.result ∷ []
pushed c = pushed_as_told _ _ _ _ _ true c.push.ensures.items c.is_ok.ensures.value c.if-is_ok.true

absent : (c : goal.After-self-1) → is_settled (get_or c.self.inside.standings.items c.args.id.at Absent) ≡ false
absent c = ap (λ (m : MarkedIds). is_settled (get_or m.standings c.args.id.at Absent)) c.self.view_is ∙ (or_parts _ _ (sym c.is_listed.ensures.mark ∙ c.if-is_listed.false)).0

pub invariant_of-self : goal.invariant_of-self
invariant_of-self c =
    let standings : List Standing = c.self.inside.standings.items in
    let now : List Standing = set standings c.args.id.at Recent in
    let some = subst (AreSome c.args.nodes.now.nodes) (sym c.self.view_is) c.requires.some in
    let inside : c.args.id.at < length standings = has_mark c.args.nodes.now.nodes c.args.id (length standings) c.requires.there some.marks in (
      subst (λ (l : List Arrival). AreMarked (settled_among now c.self.inside.settled.ids.items) (recent_among now l) now) (sym (pushed c)) (marked_waiting standings c.self.inside.settled.ids.items c.self.inside.arrivals.items c.new-arrival.result c.args.id c.self.invariant.0 inside c.new-arrival.ensures (absent c)),
      omega (arith, c.self.invariant.1, ap length (settled_stays standings c.self.inside.settled.ids.items c.args.id Recent inside refl (absent c))),
    )

pub returns-then-is_ok : goal.returns-then-is_ok
returns-then-is_ok c =
    let nodes : List Node = c.args.nodes.now.nodes in
    let inside : MarkedIds = record { entries = c.self.inside.settled.ids.items; arrivals = c.self.inside.arrivals.items; standings = c.self.inside.standings.items; room = c.self.inside.settled.ids.capacity } in
    let some = subst (AreSome nodes) (sym c.self.view_is) c.requires.some in
    let done = waits nodes c.args.id c.new-arrival.result inside c.new-arrival.ensures c.requires.graph c.requires.there some (absent c) in
    let as_pushed = subst (λ (l : List Arrival). AreRetested nodes (λ _. true) (c.args.id ∷ []) inside (record inside { arrivals = l; standings = set inside.standings c.args.id.at Recent })) (sym (pushed c)) done in
    subst (λ (before : MarkedIds). AreRetested nodes (λ _. true) (c.args.id ∷ []) before (record inside { arrivals = c.push.new.self.items; standings = set inside.standings c.args.id.at Recent })) c.self.view_is as_pushed
