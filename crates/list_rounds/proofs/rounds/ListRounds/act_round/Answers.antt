use Rattle.std.proofs.Common.{◌≡◌, ◌≢◌, ◌+◌, List, [], ◌∷◌, length, drop, sym, ap, ◌∙◌, subst, arith}
use Rattle.std.proofs.lemmas.Result.{err_from_is_err_and}
use Rattle.plain_laws.specs.Lists.{nothing_left}
use Rattle.task_order.specs.declared.task.Task.{Task}
use Rattle.commuting.specs.Rounds.{after_round, clear_tasks}
use Rattle.list_rounds.specs.Course.{IsActing, state_in}
use Rattle.list_rounds.specs.Rounds.{IsRunFault, PassesLimit, RoundsState}
use Rattle.list_rounds.proofs.Course.{never_ends, new_entry}
use Rattle.list_rounds.proofs.Steps.{acting_begins, acting_goes_on, passes_here, passes_later, rested, round_comes_to_rest, round_has_tasks}
use Rattle.list_rounds.proofs.rounds.ListRounds.act_round.Goals as goal

pub loop-task-init : goal.loop-task-init
loop-task-init g c =
    let app = g.A.App.meaning c.self.inside.app.now in
    let parts = c.self.inside.parts in
    let clear : c.args.clear.now.items ≡ clear_tasks app (state_in parts) =
    subst (λ (r : RoundsState g.row.A.Denot g.row.A-Val.Denot). c.args.clear.now.items ≡ clear_tasks (g.A.App.meaning r.app) r.state) (sym c.self.view_is) c.requires.clear in
    record {
      acting = subst (λ (r : RoundsState g.row.A.Denot g.row.A-Val.Denot). IsActing app r.start c.self.inside.limit (after_round app r.state) parts c.args.clear.now.items) c.self.view_is
          (acting_begins (c.basis.ensures c.self.inside.app.now) c.self.inside.rounds parts c.args.clear.now.items c.self.invariant clear);
      told = subst (λ (r : RoundsState g.row.A.Denot g.row.A-Val.Denot). g.A.App.tells r.app c.args.horizon.now r.state.pending) (sym c.self.view_is) c.requires.told;
      ended = ap (λ (r : RoundsState g.row.A.Denot g.row.A-Val.Denot). r.ended + length c.args.clear.now.items) c.self.view_is;
      passes = λ created over. subst (λ (r : RoundsState g.row.A.Denot g.row.A-Val.Denot). PassesLimit (g.A.App.meaning r.app) r.state r.ended r.limit c.args.clear.now.items created) c.self.view_is over;
    }

pub act_one-requires-clause-new : goal.act_one-requires-clause-new
act_one-requires-clause-new g c κs within =
    let app = g.A.App.meaning c.self.inside.app.now in
    let acting = subst (IsActing app c.args.self.start c.self.inside.limit (after_round app c.args.self.state) c.loop-task.parts) c.in-Some.ensures.items c.loop-task.invariant.acting in
    new_entry (c.basis.ensures c.self.inside.app.now) acting.course c.in-Some.task acting.clear.clear.0.pending

pub loop-task-preserved : goal.loop-task-preserved
loop-task-preserved g c =
    let app = g.A.App.meaning c.self.inside.app.now in
    let rest = c.pop_front.new.self.items in
    let taken : c.loop-task.clear.items ≡ c.in-Some.task ∷ rest = c.in-Some.ensures.items in
    let acting = subst (IsActing app c.args.self.start c.self.inside.limit (after_round app c.args.self.state) c.loop-task.parts) taken c.loop-task.invariant.acting in
    let acted = c.in_ok-act_one.ensures.acted in
    record {
      acting = acting_goes_on (c.basis.ensures c.self.inside.app.now) c.in-Some.task rest c.act_one.new.parts acting acted c.in_ok-act_one.ensures.within;
      told = c.in_ok-act_one.ensures.told;
      ended = omega (arith, acted.ended, ap length taken, c.loop-task.invariant.ended);
      passes = λ created over. c.loop-task.invariant.passes created
          (subst (λ (tasks : List Task). PassesLimit app (state_in c.loop-task.parts) c.loop-task.parts.ended c.self.inside.limit tasks created) (sym taken)
          (passes_later (c.basis.ensures c.self.inside.app.now) c.in-Some.task rest c.act_one.new.parts acting acted c.in_ok-act_one.ensures.within created over));
    }

pub returns-in_err-act_one-clause-fault : goal.returns-in_err-act_one-clause-fault
returns-in_err-act_one-clause-fault g c =
    let app = g.A.App.meaning c.self.inside.app.now in
    let acting = subst (IsActing app c.args.self.start c.self.inside.limit (after_round app c.args.self.state) c.loop-task.parts) c.in-Some.ensures.items c.loop-task.invariant.acting in
    let e = err_from_is_err_and c.from_residual.result c.from_residual.ensures.1 in
    rw (e.1, e.2)
    (subst (λ (r : RoundsState g.row.A.Denot g.row.A-Val.Denot). IsRunFault (g.A.App.meaning r.app) c.args.self.start r.limit c.in_err-act_one.field-0.0) c.self.view_is
    (never_ends (c.basis.ensures c.self.inside.app.now) acting.course c.in-Some.task acting.clear.clear.0 c.self.inside.limit c.in_err-act_one.field-0.0 acting.within c.in_err-act_one.ensures.fault))

pub returns-in_err-act_one-clause-first : goal.returns-in_err-act_one-clause-first
returns-in_err-act_one-clause-first g c =
    let app = g.A.App.meaning c.self.inside.app.now in
    let rest = c.pop_front.new.self.items in
    let e = err_from_is_err_and c.from_residual.result c.from_residual.ensures.1 in
    rw (e.1, e.2)
    (passes_here (g.A.App.meaning c.args.self.app) app c.args.self c.loop-task.parts c.in-Some.task rest c.args.clear.now.items c.self.inside.limit c.in_err-act_one.field-0.0 c.in_err-act_one.ensures.fault
    (λ created over. c.loop-task.invariant.passes created
    (subst (λ (tasks : List Task). PassesLimit app (state_in c.loop-task.parts) c.loop-task.parts.ended c.self.inside.limit tasks created) (sym c.in-Some.ensures.items) over)))

pub invariant_of-result : goal.invariant_of-result
invariant_of-result g c =
    let app = g.A.App.meaning c.self.inside.app.now in
    let parts = c.self.inside.parts in
    let none : c.loop-task.clear.items ≡ [] = nothing_left c.pop_front.result c.loop-task.clear.items (λ some. c.pop_front.ensures.variant.1 (omega (arith, some))) c.in_default.not-Some in
    let acting = subst (IsActing app c.args.self.start c.self.inside.limit (after_round app c.args.self.state) c.loop-task.parts) none c.loop-task.invariant.acting in
    let some = subst (λ (r : RoundsState g.row.A.Denot g.row.A-Val.Denot). r.state.pending ≢ []) (sym c.self.view_is) c.requires.some in
    let clear : c.args.clear.now.items ≡ clear_tasks app (state_in parts) =
    subst (λ (r : RoundsState g.row.A.Denot g.row.A-Val.Denot). c.args.clear.now.items ≡ clear_tasks (g.A.App.meaning r.app) r.state) (sym c.self.view_is) c.requires.clear in
    let many = round_has_tasks (c.basis.ensures c.self.inside.app.now) (state_in parts) c.args.clear.now.items c.self.invariant.course.stands.ready some clear in
    let ended = ap (λ (r : RoundsState g.row.A.Denot g.row.A-Val.Denot). r.ended) c.self.view_is in
    (round_comes_to_rest (c.basis.ensures c.self.inside.app.now) parts c.loop-task.parts c.drain.new.parts c.self.invariant some
    (subst (λ (r : RoundsState g.row.A.Denot g.row.A-Val.Denot). IsActing app r.start c.self.inside.limit (after_round app r.state) c.loop-task.parts []) (sym c.self.view_is) acting)
    (omega (arith, c.loop-task.invariant.ended, ap length none, many, ended)) c.in_ok-drain.ensures).0

pub returns-clause-next : goal.returns-clause-next
returns-clause-next g c =
    let app = g.A.App.meaning c.self.inside.app.now in
    let parts = c.self.inside.parts in
    let none : c.loop-task.clear.items ≡ [] = nothing_left c.pop_front.result c.loop-task.clear.items (λ some. c.pop_front.ensures.variant.1 (omega (arith, some))) c.in_default.not-Some in
    let acting = subst (IsActing app c.args.self.start c.self.inside.limit (after_round app c.args.self.state) c.loop-task.parts) none c.loop-task.invariant.acting in
    let some = subst (λ (r : RoundsState g.row.A.Denot g.row.A-Val.Denot). r.state.pending ≢ []) (sym c.self.view_is) c.requires.some in
    let clear : c.args.clear.now.items ≡ clear_tasks app (state_in parts) =
    subst (λ (r : RoundsState g.row.A.Denot g.row.A-Val.Denot). c.args.clear.now.items ≡ clear_tasks (g.A.App.meaning r.app) r.state) (sym c.self.view_is) c.requires.clear in
    let many = round_has_tasks (c.basis.ensures c.self.inside.app.now) (state_in parts) c.args.clear.now.items c.self.invariant.course.stands.ready some clear in
    let drain = c.in_ok-drain.ensures in
    record {
      same_app = ap (λ (r : RoundsState g.row.A.Denot g.row.A-Val.Denot). r.app) c.self.view_is;
      same_start = ap (λ (r : RoundsState g.row.A.Denot g.row.A-Val.Denot). r.start) c.self.view_is;
      same_limit = ap (λ (r : RoundsState g.row.A.Denot g.row.A-Val.Denot). r.limit) c.self.view_is;
      one_round = ap (λ (r : RoundsState g.row.A.Denot g.row.A-Val.Denot). r.rounds + 1) c.self.view_is;
      state = rested (c.basis.ensures c.self.inside.app.now) acting c.drain.new.parts drain ∙ ap (λ (r : RoundsState g.row.A.Denot g.row.A-Val.Denot). after_round (g.A.App.meaning r.app) c.args.self.state) c.self.view_is;
      some_ended = omega (arith, c.loop-task.invariant.ended, ap length none, many, drain.ended);
    }

pub returns-clause-told : goal.returns-clause-told
returns-clause-told g c =
    let drain = c.in_ok-drain.ensures in
    subst (λ (r : RoundsState g.row.A.Denot g.row.A-Val.Denot). g.A.App.tells r.app c.loop-task.horizon c.drain.new.parts.pending) c.self.view_is
    (subst (g.A.App.tells c.self.inside.app.now c.loop-task.horizon) (sym drain.pending) c.loop-task.invariant.told)

pub returns-clause-none : goal.returns-clause-none
returns-clause-none g c =
    let none : c.loop-task.clear.items ≡ [] = nothing_left c.pop_front.result c.loop-task.clear.items (λ some. c.pop_front.ensures.variant.1 (omega (arith, some))) c.in_default.not-Some in
    c.pop_front.ensures.rest ∙ ap (λ (items : List Task). drop 1 items) none

pub overflow_add-result : goal.overflow_add-result
overflow_add-result g c = let come = c.self.invariant in omega (arith, come.some_each, come.within, come.limited)
