use Rattle.std.proofs.Common.{◌≡◌, ◌+◌, ◌∷◌, length, drop, slice_index_or, sym, ap, subst, ◌∙◌, arith}
use Rattle.std.proofs.lemmas.List.{drop_all, drop_more}
use Rattle.std.proofs.lemmas.Result.{err_from_is_err_and}
use Rattle.cell_store.specs.Values.{values_of}
use Rattle.kdg_graph.specs.Nodes.{HasNode}
use Rattle.run_laws.specs.Acting.{HasActed, IsActFault}
use Rattle.run_laws.specs.Events.{IsOfClear}
use Rattle.source_pool.specs.Course.{IsActing}
use Rattle.source_pool.proofs.Faults.{acts_pass, not_acted, passes_at}
use Rattle.source_pool.proofs.acting.act_in_turn.Goals as goal

pub cells_of-requires : goal.cells_of-requires
cells_of-requires g c =
    let app = g.A.App.meaning c.args.engine.now.app in
    let at = c.loop-id in
    let id = slice_index_or c.args.ids.now at.id-index (record { at = 0 }) in
    let rest = drop (at.id-index + 1) c.args.ids.now in
    let left : drop at.id-index c.args.ids.now ≡ id ∷ rest = drop_more c.args.ids.now at.id-index (record { at = 0 }) c.loop-id-test.true in
    let acting = subst (IsActing app g.to.start (values_of g.to.start.cells) g.to.state g.to.text at.engine.progress) left at.invariant.acting in
    let may = c.acting_laws.ensures.first c.args.engine.now.app g.to.start at.engine.progress (values_of g.to.start.cells) g.to.state g.to.text id rest acting in
    subst (λ nodes. HasNode nodes id) (sym c.graph.ensures.nodes) may.1

pub act-requires-clause-clear : goal.act-requires-clause-clear
act-requires-clause-clear g c κs within =
    let app = g.A.App.meaning c.args.engine.now.app in
    let at = c.loop-id in
    let id = slice_index_or c.args.ids.now at.id-index (record { at = 0 }) in
    let rest = drop (at.id-index + 1) c.args.ids.now in
    let left : drop at.id-index c.args.ids.now ≡ id ∷ rest = drop_more c.args.ids.now at.id-index (record { at = 0 }) c.loop-id-test.true in
    let acting = subst (IsActing app g.to.start (values_of g.to.start.cells) g.to.state g.to.text at.engine.progress) left at.invariant.acting in
    let may = c.acting_laws.ensures.first c.args.engine.now.app g.to.start at.engine.progress (values_of g.to.start.cells) g.to.state g.to.text id rest acting in
    subst (λ (app : g.row.A.Denot). IsOfClear (g.A.App.meaning app) at.engine.progress.nodes id) (sym at.invariant.app) may.0

pub act-requires-clause-not_over : goal.act-requires-clause-not_over
act-requires-clause-not_over g c κs within = c.loop-id.invariant.acting.rest.course.over

pub returns-in_err-act-clause-fault : goal.returns-in_err-act-clause-fault
returns-in_err-act-clause-fault g c =
    let app = g.A.App.meaning c.args.engine.now.app in
    let at = c.loop-id in
    let id = slice_index_or c.args.ids.now at.id-index (record { at = 0 }) in
    let rest = drop (at.id-index + 1) c.args.ids.now in
    let left : drop at.id-index c.args.ids.now ≡ id ∷ rest = drop_more c.args.ids.now at.id-index (record { at = 0 }) c.loop-id-test.true in
    let acting = subst (IsActing app g.to.start (values_of g.to.start.cells) g.to.state g.to.text at.engine.progress) left at.invariant.acting in
    let fault = subst (λ (app : g.row.A.Denot). IsActFault (g.A.App.meaning app) at.engine.progress id c.act.new.self.progress c.in_err-act.field-0.0) at.invariant.app c.in_err-act.ensures.fault in
    let e = err_from_is_err_and c.from_residual.result c.from_residual.ensures.1 in
    let same : at.engine.progress.ended + length (id ∷ rest) ≡ c.args.engine.now.progress.ended + length c.args.ids.now = omega (arith, at.invariant.ended, ap length left) in
    rw (e.1, e.2) (record {
      fault = not_acted app (c.acting_laws.ensures.too_many c.args.engine.now.app) g.to.start at.engine.progress c.act.new.self.progress g.to.state g.to.text id rest acting c.in_err-act.field-0.0 fault;
      passes =
          passes_at g.to.start.limit (at.engine.progress.ended + length (id ∷ rest)) (c.args.engine.now.progress.ended + length c.args.ids.now) g.to.state c.in_err-act.field-0.0 same
          (acts_pass app (c.kept_laws.ensures.acts_pass c.args.engine.now.app) g.to.start at.engine.progress c.act.new.self.progress g.to.state g.to.text id rest acting c.in_err-act.field-0.0 fault);
    })

pub loop-id-preserved : goal.loop-id-preserved
loop-id-preserved g c =
    let app = g.A.App.meaning c.args.engine.now.app in
    let at = c.loop-id in
    let id = slice_index_or c.args.ids.now at.id-index (record { at = 0 }) in
    let rest = drop (at.id-index + 1) c.args.ids.now in
    let left : drop at.id-index c.args.ids.now ≡ id ∷ rest = drop_more c.args.ids.now at.id-index (record { at = 0 }) c.loop-id-test.true in
    let acting = subst (IsActing app g.to.start (values_of g.to.start.cells) g.to.state g.to.text at.engine.progress) left at.invariant.acting in
    let acted = subst (λ (app : g.row.A.Denot). HasActed (g.A.App.meaning app) at.engine.progress id c.act.new.self.progress) at.invariant.app c.in_ok-act.ensures.acted in
    let next = c.acting_laws.ensures.goes_on c.args.engine.now.app g.to.start at.engine.progress c.act.new.self.progress (values_of g.to.start.cells) g.to.state g.to.text id rest acting acted in
    record {
      app = c.act.ensures.app ∙ at.invariant.app;
      acting = next.0;
      ended = omega (arith, next.1, ap length left, at.invariant.ended);
    }

pub returns-clause-rest : goal.returns-clause-rest
returns-clause-rest g c =
    let app = g.A.App.meaning c.args.engine.now.app in
    let at = c.loop-id in
    let none = drop_all at.id-index c.args.ids.now c.loop-id-test.false in
    let acting = subst (IsActing app g.to.start (values_of g.to.start.cells) g.to.state g.to.text at.engine.progress) none at.invariant.acting in
    c.acting_laws.ensures.rest c.args.engine.now.app g.to.start at.engine.progress (values_of g.to.start.cells) g.to.state g.to.text acting
