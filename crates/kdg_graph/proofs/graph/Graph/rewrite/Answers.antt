use Rattle.std.proofs.Common.{rules, ◌≡◌, ◌∙◌, ℕ, ◌++◌, arith, List, Some, ap, subst, sym}
use Rattle.kdg_graph.proofs.Common.{AllByRecursion, Task, tasks_without_key, SetChange, Fresh, Node, HasNode, IsGraph, task_at, tasks_of, HaveNewKeys, without, HasRoomFor, changed_sets, fresh_sets}
use Rattle.kdg_graph.proofs.Rewrites.{all_have_without, new_without, tasks-with_sets, tasks-without}
use Rattle.kdg_graph.proofs.Rooms.{named-append}
use Rattle.kdg_graph.proofs.graph.Graph.rewrite.Goals as goal

pub set_sets-requires-clause-there : goal.set_sets-requires-clause-there
set_sets-requires-clause-there c =
    let gone : c.remove-task.new.self.nodes ≡ without c.args.ended c.args.self.now =
    c.remove-task.ensures.nodes ∙ ap (without c.args.ended) (c.reserve_all.ensures.nodes ∙ c.self.view_is) in
    subst (λ (l : List Node). AllByRecursion (λ (change : SetChange). HasNode l change.node) c.args.changed.items) (sym gone)
    (all_have_without c.args.ended c.args.changed.items c.args.self.now c.requires.changes.stay c.requires.changes.there)

pub put_all-requires-clause-new : goal.put_all-requires-clause-new
put_all-requires-clause-new c =
    let old : List Node = c.args.self.now in
    let same : c.reserve_all.new.self.nodes ≡ old = c.reserve_all.ensures.nodes ∙ c.self.view_is in
    let graph : IsGraph old = subst IsGraph c.self.view_is c.self.invariant in
    let task : task_at old c.args.ended ≡ Some c.remove-task.result = ap (λ l. task_at l c.args.ended) (sym same) ∙ c.remove-task.ensures.task in
    let left : tasks_of c.set_sets.new.self.nodes ≡ tasks_without_key c.remove-task.result.key (tasks_of old) =
    ap tasks_of c.set_sets.ensures.nodes ∙ tasks-with_sets c.args.changed.items c.remove-task.new.self.nodes ∙ ap tasks_of (c.remove-task.ensures.nodes ∙ ap (without c.args.ended) same)
    ∙ tasks-without c.args.ended old c.remove-task.result graph task in
    subst (λ (l : List Task). HaveNewKeys l c.args.fresh.now.items) (sym left) (new_without c.remove-task.result.key c.args.fresh.now.items (tasks_of old) c.requires.new)

-- what was made room for has room before the sets change
made : (changed : List SetChange) (fresh : List Fresh) (shown : List SetChange) (others : List Fresh) (rooms : List ℕ) → shown ≡ changed → others ≡ fresh → HasRoomFor (changed_sets shown ++ fresh_sets others) rooms → HasRoomFor (changed_sets changed ++ fresh_sets fresh) rooms
made changed fresh shown others rooms is are room = subst (λ (l : List SetChange). HasRoomFor (changed_sets l ++ fresh_sets fresh) rooms) is (subst (λ (l : List Fresh). HasRoomFor (changed_sets shown ++ fresh_sets l) rooms) are room)

pub set_sets-requires-clause-rooms : goal.set_sets-requires-clause-rooms
set_sets-requires-clause-rooms c loc =
    let changed : List SetChange = c.args.changed.items in
    let fresh : List Fresh = c.args.fresh.now.items in
    let shown : HasRoomFor (changed_sets c.deref.result.now ++ fresh_sets c.deref-2.result.now) c.reserve_all.new.self.rooms = search rules in
    let reserved = made changed fresh c.deref.result.now c.deref-2.result.now c.reserve_all.new.self.rooms c.deref.ensures.value c.deref-2.ensures.value shown in
    omega (arith, reserved loc, named-append (changed_sets changed) (fresh_sets fresh) loc, c.remove-task.ensures.rooms loc)

pub put_all-requires-clause-rooms : goal.put_all-requires-clause-rooms
put_all-requires-clause-rooms c loc =
    let changed : List SetChange = c.args.changed.items in
    let fresh : List Fresh = c.args.fresh.now.items in
    let shown : HasRoomFor (changed_sets c.deref.result.now ++ fresh_sets c.deref-2.result.now) c.reserve_all.new.self.rooms = search rules in
    let reserved = made changed fresh c.deref.result.now c.deref-2.result.now c.reserve_all.new.self.rooms c.deref.ensures.value c.deref-2.ensures.value shown in
    omega (arith, reserved loc, named-append (changed_sets changed) (fresh_sets fresh) loc, c.remove-task.ensures.rooms loc, c.set_sets.ensures.rooms loc)
