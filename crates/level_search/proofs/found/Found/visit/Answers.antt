use Rattle.std.proofs.Common.{arith, ap, length, subst, ◌≡◌, ◌∙◌}
use Rattle.std.proofs.lemmas.Result.{on_ok_weaker}
use Rattle.level_search.specs.Turns.{Left, after_visit}
use Rattle.level_search.proofs.Finding.{after_passing, after_reaching}
use Rattle.level_search.proofs.found.Found.visit.Goals as goal

pub returns-in-At : goal.returns-in-At
returns-in-At c =
    subst (λ (left : Left). left ≡ after_visit c.args.walk.now.pattern c.args.level left c.args.vertex) c.self.view_is
    (after_passing c.args.walk.now.pattern c.args.level _ c.args.vertex c.index.result.now c.index.ensures c.in-At.field-0 c.in-At.is)

pub returns-in_ok-push_visit-in-Unset : goal.returns-in_ok-push_visit-in-Unset
returns-in_ok-push_visit-in-Unset c =
    let found = c.self.inside in
    let left : Left = record { levels = found.levels.items; lines = found.lines; next = found.next.items } in
    let count = ap (λ (l : Left). length l.levels) c.self.view_is ∙ c.requires.levels in
    on_ok_weaker c.push_vertices.result
    (λ next. after_reaching c.args.walk.now.pattern c.args.level left c.args.vertex c.index.result.now c.index.ensures (omega (arith, count, c.requires.vertex.some, c.requires.vertex.within))
    c.in-Unset.is c.push_visit.new.text c.push_vertices.new.next.items c.in_ok-push_visit-in-Unset.ensures next
    ∙ ap (λ (l : Left). after_visit c.args.walk.now.pattern c.args.level l c.args.vertex) c.self.view_is)
    c.push_vertices.ensures
