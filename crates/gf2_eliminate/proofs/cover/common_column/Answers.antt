use Rattle.std.specs.Prelude.{ℕ, List, None}
use Rattle.std.proofs.Common.{arith, sym, subst}
use Rattle.gf2_eliminate.specs.Covers.{IsFirstCommon, IsLeastCommon}
use Rattle.gf2_eliminate.proofs.Covering.{column_home, none_found, none_more, none_yet, row_home, row_within, some_found}
use Rattle.gf2_eliminate.proofs.cover.common_column.Goals as goal

pub value-requires-after_bounds : goal.value-requires-after_bounds
value-requires-after_bounds c κs = column_home c.args.pattern.now c.args.column c.args.store.now c.requires

pub loop-row-init : goal.loop-row-init
loop-row-init c = none_yet c.args.pattern.now c.args.column c.args.store.now c.requires c.value.result.now c.value.ensures c.args.columns.now

pub overflow_sub-row : goal.overflow_sub-row
overflow_sub-row c = omega (arith, c.in-Some.ensures.beyond, c.loop-row.invariant.some)

pub value-requires-in-Some-after_bounds : goal.value-requires-in-Some-after_bounds
value-requires-in-Some-after_bounds c κs =
    let least = subst (λ (ns : List ℕ). IsLeastCommon ns ns c.loop-row.from c.in-Some.row) c.ones-holders.ensures c.in-Some.ensures in
    row_home c.args.pattern.now c.args.column c.args.store.now c.requires c.value.result.now c.value.ensures c.in-Some.row least.in_set

pub returns-then-is_some : goal.returns-then-is_some
returns-then-is_some c =
    let least = subst (λ (ns : List ℕ). IsLeastCommon ns ns c.loop-row.from c.in-Some.row) c.ones-holders.ensures c.in-Some.ensures in
    let common = subst (λ (ns : List ℕ). IsFirstCommon ns c.args.columns.now 1 c.first_common-found.result) c.ones.ensures c.first_common-found.ensures in
    some_found c.args.pattern.now c.args.column c.args.store.now c.requires c.value.result.now c.value.ensures c.args.columns.now c.in-Some.row c.value-in-Some.result.now c.first_common-found.result least.in_set
    c.value-in-Some.ensures common (sym c.if-is_some.ensures)

pub loop-row-smaller : goal.loop-row-smaller
loop-row-smaller c =
    let least = subst (λ (ns : List ℕ). IsLeastCommon ns ns c.loop-row.from c.in-Some.row) c.ones-holders.ensures c.in-Some.ensures in
    let within = row_within c.args.pattern.now c.args.column c.args.store.now c.requires c.value.result.now c.value.ensures c.in-Some.row least.in_set in
    omega (arith, within.1, least.beyond)

pub loop-row-preserved : goal.loop-row-preserved
loop-row-preserved c =
    let least = subst (λ (ns : List ℕ). IsLeastCommon ns ns c.loop-row.from c.in-Some.row) c.ones-holders.ensures c.in-Some.ensures in
    let common = subst (λ (ns : List ℕ). IsFirstCommon ns c.args.columns.now 1 c.first_common-found.result) c.ones.ensures c.first_common-found.ensures in
    none_more c.args.pattern.now c.args.column c.args.store.now c.requires c.value.result.now c.value.ensures c.args.columns.now c.loop-row.from c.in-Some.row c.value-in-Some.result.now c.first_common-found.result
    c.loop-row.invariant least c.value-in-Some.ensures common (sym c.if-is_some.ensures)

pub returns : goal.returns
returns c =
    let none = subst (λ (ns : List ℕ). IsFirstCommon ns ns c.loop-row.from None) c.ones-holders.ensures c.in_default.ensures in
    none_found c.args.pattern.now c.args.column c.args.store.now c.requires c.value.result.now c.value.ensures c.args.columns.now c.loop-row.from c.loop-row.invariant none
