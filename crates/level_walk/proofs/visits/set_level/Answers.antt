use Rattle.std.proofs.Common.{arith, ap, subst, suc, ◌+◌, ◌≡◌, ◌∙◌, ℕ}
use Rattle.mtx_reader.specs.Patterns.{IsPattern}
use Rattle.hook_app.specs.OneLocation.{asked_written}
use Rattle.level_walk.specs.Levels.{next_children, vertex_sets, visit_text, walking}
use Rattle.level_walk.specs.VisitLaws.{own_at}
use Rattle.level_walk.specs.Walks.{Search, vertex_count}
use Rattle.level_walk.proofs.Searching.{few_vertices}
use Rattle.level_walk.proofs.Together.{edges_within}
use Rattle.level_walk.proofs.Visiting.{set_effect}
use Rattle.level_walk.proofs.visits.set_level.Goals as goal

pub overflow_add-vertex : goal.overflow_add-vertex
overflow_add-vertex c =
    let pattern = c.args.walk.now.pattern in
    let is : IsPattern pattern = subst IsPattern (ap (λ (s : Search). s.pattern) c.walk.view_is) c.walk.invariant.is_pattern in
    omega (arith, few_vertices pattern is, c.requires.asked.fit.vertex)

pub put-requires : goal.put-requires
put-requires c =
    let pattern = c.args.walk.now.pattern in
    let at = c.args.task.now.body.at in
    asked_written (walking pattern) (vertex_sets (vertex_count pattern)) c.args.task.now c.args.bundle (own_at (vertex_count pattern) at c.requires.asked.fit.vertex) c.requires.asked

pub returns : goal.returns
returns c = λ values are is.
    let pattern = c.args.walk.now.pattern in
    let at = c.args.task.now.body.at in
    let is-pattern : IsPattern pattern = subst IsPattern (ap (λ (s : Search). s.pattern) c.walk.view_is) c.walk.invariant.is_pattern in
    let next : at + 1 ≡ suc at = omega arith in
    set_effect pattern c.args.task.now c.args.bundle values c.requires.asked.fit.vertex are is c.put.new.self c.in-Ok.children c.in-Ok-visit_text.text c.requires.unset c.put.ensures
    (edges_within pattern is-pattern (suc at))
    (c.in-Ok.ensures ∙ ap (λ (v : ℕ). next_children pattern v c.args.task.now.key.prio) next)
    (c.in-Ok-visit_text.ensures ∙ ap (λ (v : ℕ). visit_text v c.args.task.now.key.prio) next)
