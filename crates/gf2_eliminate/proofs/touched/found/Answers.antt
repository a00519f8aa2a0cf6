use Rattle.std.specs.Prelude.{◌+◌, ◌-◌, ◌||◌, ◌==◌, [], ◌∷◌, ◌++◌}
use Rattle.std.specs.List.{list_any}
use Rattle.std.specs.Ordering.{nat_cmp}
use Rattle.std.proofs.Common.{arith, sym, ap, ◌∙◌, subst}
use Rattle.std.proofs.lemmas.List.{take_all}
use Rattle.mtx_reader.specs.Ascending.{IsAscendingBy}
use Rattle.gf2_eliminate.specs.Lines.{has}
use Rattle.gf2_eliminate.specs.Touched.{ones_at}
use Rattle.gf2_eliminate.proofs.Finding.{row_more, found_listed}
use Rattle.gf2_eliminate.proofs.touched.found.Goals as goal

pub loop-row-init : goal.loop-row-init
loop-row-init c =
    let is = c.in_ok-push.ensures.ok ∙ ap (λ ns. ns ++ (c.args.column + 1) ∷ []) c.new-found.ensures in
    record { ascending = subst (IsAscendingBy nat_cmp) (sym is) (tt, tt); each = λ n. ap (λ ns. has ns n) is }

pub loop-row-preserved : goal.loop-row-preserved
loop-row-preserved c =
    let rows = c.args.rows.now in
    let i = c.loop-row.row-index in
    record {
      ascending = c.in_ok-include_line.ensures.ascending c.loop-row.invariant.ascending;
      each = λ n. c.in_ok-include_line.ensures.both n ∙ row_more c.args.store.now c.args.column rows i c.loop-row-test.true n (has c.loop-row.found n) (c.loop-row.invariant.each n);
    }

pub returns : goal.returns
returns c = λ columns below have.
    let rows = c.args.rows.now in
    found_listed c.args.store.now c.args.column columns rows c.loop-row.found below have c.loop-row.invariant.ascending
    (λ n. c.loop-row.invariant.each n ∙ ap (λ rs. c.args.column + 1 == n || list_any (λ row. has (ones_at c.args.store.now (row - 1)) n) rs) (take_all c.loop-row.row-index rows (omega arith)))
