use Rattle.std.specs.Prelude.{◌*◌, ◌<◌, ◌&&◌, ◌||◌, nat_lt, ℕ, List, None}
use Rattle.std.proofs.Common.{arith, ap, ◌∙◌, subst}
use Rattle.gf2_eliminate.specs.Covers.{IsFirstBeyond, IsLeastBeyond}
use Rattle.gf2_eliminate.specs.Lines.{has}
use Rattle.gf2_eliminate.proofs.Covering.{added_beyond, added_none, beyond_all, column_home, row_home, row_within}
use Rattle.gf2_eliminate.proofs.cover.include_new_columns.Goals as goal

pub value-requires-after_bounds : goal.value-requires-after_bounds
value-requires-after_bounds c κs = column_home c.args.pattern.now c.args.column c.args.store.now c.requires.home

pub loop-row-init : goal.loop-row-init
loop-row-init c = added_none c.args.pattern.now c.args.column c.args.store.now c.requires.home c.value.result.now c.value.ensures c.args.columns.now

pub overflow_sub-row : goal.overflow_sub-row
overflow_sub-row c = omega (arith, c.in-Some.ensures.beyond, c.loop-row.invariant.some)

pub value-requires-in-Some-after_bounds : goal.value-requires-in-Some-after_bounds
value-requires-in-Some-after_bounds c κs =
    let least = subst (λ (ns : List ℕ). IsLeastBeyond ns c.args.rows.now c.loop-row.from c.in-Some.row) c.ones-holders.ensures c.in-Some.ensures in
    row_home c.args.pattern.now c.args.column c.args.store.now c.requires.home c.value.result.now c.value.ensures c.in-Some.row least.in_set

pub loop-row-smaller : goal.loop-row-smaller
loop-row-smaller c =
    let least = subst (λ (ns : List ℕ). IsLeastBeyond ns c.args.rows.now c.loop-row.from c.in-Some.row) c.ones-holders.ensures c.in-Some.ensures in
    let within = row_within c.args.pattern.now c.args.column c.args.store.now c.requires.home c.value.result.now c.value.ensures c.in-Some.row least.in_set in
    omega (arith, within.1, least.beyond)

pub loop-row-preserved : goal.loop-row-preserved
loop-row-preserved c =
    let least = subst (λ (ns : List ℕ). IsLeastBeyond ns c.args.rows.now c.loop-row.from c.in-Some.row) c.ones-holders.ensures c.in-Some.ensures in
    let enough : c.args.pattern.now.cols < 64 * c.words_to-words.result = omega (arith, c.words_to-words.ensures) in
    added_beyond c.args.pattern.now c.args.column c.args.store.now c.requires.home c.value.result.now c.value.ensures c.args.rows.now c.args.columns.now c.loop-row.columns c.include_first.new.self c.loop-row.from
    c.in-Some.row c.words_to-words.result c.value-in-Some.result.now c.requires.in_already enough c.loop-row.invariant least c.value-in-Some.ensures
    (λ n. c.in_ok-include_first.ensures.ok n ∙ ap (λ (ns : List ℕ). has c.loop-row.columns n || (nat_lt n (64 * c.words_to-words.result) && has ns n)) c.ones.ensures)

pub returns : goal.returns
returns c =
    let none = subst (λ (ns : List ℕ). IsFirstBeyond ns c.args.rows.now c.loop-row.from None) c.ones-holders.ensures c.in_default.ensures in
    beyond_all c.args.pattern.now c.args.column c.args.store.now c.requires.home c.value.result.now c.value.ensures c.args.rows.now c.args.columns.now c.loop-row.columns c.loop-row.from c.requires.in_already
    c.loop-row.invariant none
