use Rattle.std.proofs.Common.{◌≡◌, ℕ, List, ◌++◌, length, drop, take, sym, ap, subst, ◌∙◌}
use Rattle.std.proofs.Math.Seq.{take-append_seam}
use Rattle.std.specs.Borrow.{Bor}
use Rattle.std.specs.List.{AllByRecursion}
use Rattle.task_order.specs.declared.task.Task.{Task}
use Rattle.rw_sets.specs.Accesses.{Accesses, IsInRange}
use Rattle.cell_store.specs.Values.{values_of}
use Rattle.mark_board.specs.Ranks.{marks_from}
use Rattle.mark_rounds.specs.Pending.{sets_in, tasks_in}
use Rattle.mark_rounds.specs.Writers.{HaveFirstWriters}
use Rattle.mark_rounds.proofs.AllMarked.{all_in_range, all_marked}
use Rattle.mark_rounds.proofs.finding.find_clear.Goals as goal

pub mark_sets-requires-clause-wide : goal.mark_sets-requires-clause-wide
mark_sets-requires-clause-wide g c =
    let app = g.A.App.meaning c.args.app.now in
    let cells = values_of c.args.store.now in
    let basis = c.basis.ensures c.args.app.now in
    all_in_range app basis.lawful cells c.args.pending.now c.deref.result.now c.deref-2.result.now c.requires.ready
    (ap tasks_in c.deref.ensures.value ∙ c.in_ok-tasks.ensures) (c.deref-2.ensures.value ∙ c.in_ok-find_sets.ensures) c.args.board.now c.args.marker.now c.requires.fresh

pub note_writers-requires-clause-wide : goal.note_writers-requires-clause-wide
note_writers-requires-clause-wide g c =
    let app = g.A.App.meaning c.args.app.now in
    let cells = values_of c.args.store.now in
    let basis = c.basis.ensures c.args.app.now in
    let count_is : c.args.board.now.cells ≡ length c.deref_mut.result.now = c.requires.fresh.alone.wide ∙ sym (ap (λ (all : List ℕ). length all) c.deref_mut.ensures.value ∙ c.requires.wide) in
    subst (λ (count : ℕ). AllByRecursion (λ (set : Accesses). IsInRange set count) c.deref-3.result.now) count_is
    (all_in_range app basis.lawful cells c.args.pending.now c.deref.result.now c.deref-3.result.now c.requires.ready
    (ap tasks_in c.deref.ensures.value ∙ c.in_ok-tasks.ensures) (c.deref-3.ensures.value ∙ c.in_ok-find_sets.ensures) c.args.board.now c.args.marker.now c.requires.fresh)

pub test_all-requires-clause-writers : goal.test_all-requires-clause-writers
test_all-requires-clause-writers g c κs within =
    let old = c.args.lists.now.writers in
    let noted = c.note_writers.new.writers in
    let kept : take old.len (noted ++ drop (length noted) old.items) ≡ noted =
    subst (λ (n : ℕ). take n (noted ++ drop (length noted) old.items) ≡ noted) (c.note_writers.ensures.count ∙ c.deref_mut.ensures.len) (take-append_seam noted (drop (length noted) old.items)) in
    subst (λ (writers : List ℕ). HaveFirstWriters writers 0 c.find_sets.new.sets.items) (sym kept)
    (subst (λ (sets : List Accesses). HaveFirstWriters noted 0 sets) c.deref-3.ensures.value c.note_writers.ensures.noted)

pub test_all-requires-clause-marked : goal.test_all-requires-clause-marked
test_all-requires-clause-marked g c κs within =
    let app = g.A.App.meaning c.args.app.now in
    let cells = values_of c.args.store.now in
    let basis = c.basis.ensures c.args.app.now in
    all_marked app basis.lawful cells c.args.pending.now c.deref-4.result.now c.find_sets.new.sets.items c.requires.ready
    (ap tasks_in c.deref-4.ensures.value ∙ c.in_ok-tasks.ensures)
    (c.in_ok-find_sets.ensures ∙ ap (λ (tasks : List (Bor Task)). sets_in app cells tasks) (c.deref.ensures.value ∙ sym c.deref-4.ensures.value))
    c.args.board.now c.args.marker.now c.requires.fresh c.mark_sets.new.marker
    (c.mark_sets.ensures ∙ ap (λ (sets : List Accesses). record c.args.marker.now { marks = c.args.marker.now.marks ++ marks_from 0 sets }) c.deref-2.ensures.value)
