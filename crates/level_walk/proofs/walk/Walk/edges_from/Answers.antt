use Rattle.std.proofs.Common.{arith, ap, sym, subst, ◌∙◌, ◌≡◌, ◌+◌, ◌-◌, ◌≤◌, ℕ, List, length, take, drop}
use Rattle.std.specs.List.{AllByRecursion}
use Rattle.std.proofs.lemmas.List.FromFn.{length-map-range_with_len}
use Rattle.mtx_reader.specs.declared.pattern.Pattern.{Pattern}
use Rattle.mtx_reader.specs.Places.{Place, IsWithin}
use Rattle.level_walk.specs.Edges.{edges_to}
use Rattle.level_walk.specs.Walks.{Search, edges_from, vertex_count}
use Rattle.level_walk.proofs.Between.{part_in_order, part_is, part_within}
use Rattle.level_walk.proofs.Together.{edges_within, few_edges}
use Rattle.level_walk.proofs.walk.Walk.edges_from.Goals as goal

-- the vertex is one of the inner pattern's
inner : (p q : Pattern) (vertex : ℕ) → p ≡ q → vertex ≤ vertex_count q → vertex ≤ vertex_count p
inner p q vertex same within = subst (λ (r : Pattern). vertex ≤ vertex_count r) (sym same) within

pub index-requires : goal.index-requires
index-requires c =
    let inside = c.self.inside in
    let within = inner inside.pattern c.args.self.now.pattern c.args.vertex (ap (λ (s : Search). s.pattern) c.self.view_is) c.requires.vertex in
    let long = ap length c.self.invariant.ends_are ∙ length-map-range_with_len (edges_to inside.pattern.places) 0 (vertex_count inside.pattern + 1) in
    omega (arith, within, long, inside.ends.ok.0, c.requires.some)

pub index-requires-2 : goal.index-requires-2
index-requires-2 c =
    let inside = c.self.inside in
    let within = inner inside.pattern c.args.self.now.pattern c.args.vertex (ap (λ (s : Search). s.pattern) c.self.view_is) c.requires.vertex in
    let long = ap length c.self.invariant.ends_are ∙ length-map-range_with_len (edges_to inside.pattern.places) 0 (vertex_count inside.pattern + 1) in
    omega (arith, within, long, inside.ends.ok.0)

pub edges_between-requires-clause-order : goal.edges_between-requires-clause-order
edges_between-requires-clause-order c =
    let inside = c.self.inside in
    part_in_order inside.pattern.places (vertex_count inside.pattern) c.args.vertex c.index.result.now c.index-2.result.now inside.ends.items c.self.invariant.ends_are c.requires.some
    (inner inside.pattern c.args.self.now.pattern c.args.vertex (ap (λ (s : Search). s.pattern) c.self.view_is) c.requires.vertex) c.index.ensures c.index-2.ensures

pub edges_between-requires-clause-end : goal.edges_between-requires-clause-end
edges_between-requires-clause-end c =
    let inside = c.self.inside in
    subst (λ (places : List Place). c.index-2.result.now ≤ length places) (sym c.items.ensures.all)
    (part_within inside.pattern.places (vertex_count inside.pattern) c.args.vertex c.index.result.now c.index-2.result.now inside.ends.items c.self.invariant.ends_are c.requires.some
    (inner inside.pattern c.args.self.now.pattern c.args.vertex (ap (λ (s : Search). s.pattern) c.self.view_is) c.requires.vertex) c.index.ensures c.index-2.ensures)

pub returns-clause-edges : goal.returns-clause-edges
returns-clause-edges c =
    let inside = c.self.inside in
    let pattern-is : inside.pattern ≡ c.args.self.now.pattern = ap (λ (s : Search). s.pattern) c.self.view_is in
    c.edges_between.ensures ∙ ap (λ (places : List Place). take (c.index-2.result.now - c.index.result.now) (drop c.index.result.now places)) c.items.ensures.all
    ∙ part_is inside.pattern.places (vertex_count inside.pattern) c.args.vertex c.index.result.now c.index-2.result.now inside.ends.items c.self.invariant.ends_are c.requires.some
    (inner inside.pattern c.args.self.now.pattern c.args.vertex pattern-is c.requires.vertex) c.index.ensures c.index-2.ensures c.self.invariant.is_pattern.ascending
    ∙ ap (λ (p : Pattern). edges_from p c.args.vertex) pattern-is

pub returns-clause-few : goal.returns-clause-few
returns-clause-few c =
    let inside = c.self.inside in
    let same : c.edges_between.result.now ≡ edges_from inside.pattern c.args.vertex =
    c.edges_between.ensures ∙ ap (λ (places : List Place). take (c.index-2.result.now - c.index.result.now) (drop c.index.result.now places)) c.items.ensures.all
    ∙ part_is inside.pattern.places (vertex_count inside.pattern) c.args.vertex c.index.result.now c.index-2.result.now inside.ends.items c.self.invariant.ends_are c.requires.some
    (inner inside.pattern c.args.self.now.pattern c.args.vertex (ap (λ (s : Search). s.pattern) c.self.view_is) c.requires.vertex) c.index.ensures c.index-2.ensures c.self.invariant.is_pattern.ascending in
    let long = ap length same in
    omega (arith, long, few_edges inside.pattern c.self.invariant.is_pattern c.args.vertex)

pub returns-clause-to_vertices : goal.returns-clause-to_vertices
returns-clause-to_vertices c =
    let inside = c.self.inside in
    let pattern-is : inside.pattern ≡ c.args.self.now.pattern = ap (λ (s : Search). s.pattern) c.self.view_is in
    let same : c.edges_between.result.now ≡ edges_from inside.pattern c.args.vertex =
    c.edges_between.ensures ∙ ap (λ (places : List Place). take (c.index-2.result.now - c.index.result.now) (drop c.index.result.now places)) c.items.ensures.all
    ∙ part_is inside.pattern.places (vertex_count inside.pattern) c.args.vertex c.index.result.now c.index-2.result.now inside.ends.items c.self.invariant.ends_are c.requires.some
    (inner inside.pattern c.args.self.now.pattern c.args.vertex pattern-is c.requires.vertex) c.index.ensures c.index-2.ensures c.self.invariant.is_pattern.ascending in
    subst (λ (p : Pattern). AllByRecursion (IsWithin (vertex_count p) (vertex_count p)) c.edges_between.result.now) pattern-is
    (subst (AllByRecursion (IsWithin (vertex_count inside.pattern) (vertex_count inside.pattern))) (sym same) (edges_within inside.pattern c.self.invariant.is_pattern c.args.vertex))
