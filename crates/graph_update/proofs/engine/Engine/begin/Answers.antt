use Rattle.std.proofs.Common.{◌≤◌, List, [], length, sym, ap, subst, ◌∙◌}
use Rattle.task_order.specs.declared.start.Start.{Start}
use Rattle.cell_store.specs.Values.{homes, values_of}
use Rattle.graph_update.proofs.Begun.{begun, begun_fixed, begun_kept, begun_sound}
use Rattle.graph_update.proofs.ReadyIds.{some_are_ready}
use Rattle.graph_update.proofs.engine.Engine.begin.Goals as goal

pub put_first-requires-clause-home : goal.put_first-requires-clause-home
put_first-requires-clause-home g c κs within =
    let values = ap values_of c.in_ok-store.ensures ∙ c.value_laws.ensures.values.values_of_homes c.args.cells.items in
    c.in_ok-store.ensures ∙ ap homes (sym values)

pub put_first-requires-clause-fit_cells : goal.put_first-requires-clause-fit_cells
put_first-requires-clause-fit_cells g c κs within =
    let values = ap values_of c.in_ok-store.ensures ∙ c.value_laws.ensures.values.values_of_homes c.args.cells.items in
    subst (g.A.App.meaning c.args.app.now).is_fit_cells (sym values) c.requires.fit_cells

pub invariant_of-result : goal.invariant_of-result
invariant_of-result g c =
    let app = g.A.App.meaning c.args.app.now in
    let values = ap values_of c.in_ok-store.ensures ∙ c.value_laws.ensures.values.values_of_homes c.args.cells.items in
    let first = c.items-starts.ensures in
    let few : length c.args.first ≤ c.args.budget = subst (λ (starts : List Start). length starts ≤ c.args.budget) first c.if-asked-budget.false in (
      begun_kept app c.args.cells.items _ c.args.first _ c.args.budget _ _ _ values first c.in_ok-store.ensures c.in_ok-graph.ensures.nodes c.new-3.ensures (c.basis.ensures c.args.app.now).as_many
          (c.begin_laws.ensures.sound c.args.app.now) c.requires.fit_cells c.requires.fit_first few c.requires.budget,
      record {
        clear = some_are_ready app _ c.new.result [] c.new.ensures.ids c.new.ensures.current tt tt;
        fixed = begun_fixed app c.args.cells.items _ c.args.first _ c.args.budget _ _ _ values first c.in_ok-store.ensures c.in_ok-graph.ensures.nodes c.new-3.ensures (c.basis.ensures c.args.app.now).as_many
            (c.begin_laws.ensures.sound c.args.app.now) c.requires.fit_cells c.requires.fit_first few;
        told = c.in_ok-horizon.ensures _;
      },
    )

pub returns-clause-begun : goal.returns-clause-begun
returns-clause-begun g c =
    let app = g.A.App.meaning c.args.app.now in
    let values = ap values_of c.in_ok-store.ensures ∙ c.value_laws.ensures.values.values_of_homes c.args.cells.items in
    let first = c.items-starts.ensures in
    begun app c.args.cells.items _ c.args.first _ c.args.budget _ _ _ values first c.in_ok-store.ensures c.in_ok-graph.ensures.nodes c.new-3.ensures (c.basis.ensures c.args.app.now).as_many

pub returns-clause-sound : goal.returns-clause-sound
returns-clause-sound g c =
    let app = g.A.App.meaning c.args.app.now in
    let values = ap values_of c.in_ok-store.ensures ∙ c.value_laws.ensures.values.values_of_homes c.args.cells.items in
    let first = c.items-starts.ensures in
    let few : length c.args.first ≤ c.args.budget = subst (λ (starts : List Start). length starts ≤ c.args.budget) first c.if-asked-budget.false in
    begun_sound app c.args.cells.items _ c.args.first _ c.args.budget _ _ _ values first c.in_ok-store.ensures c.in_ok-graph.ensures.nodes c.new-3.ensures (c.basis.ensures c.args.app.now).as_many
    (c.begin_laws.ensures.sound c.args.app.now) c.requires.fit_cells c.requires.fit_first few
