use Rattle.std.specs.Prelude.{ℕ, List, None}
use Rattle.std.proofs.Common.{sym, subst}
use Rattle.gf2_eliminate.specs.Covers.{IsFirstCommon, IsLeastCommon}
use Rattle.gf2_eliminate.proofs.Covering.{column_common, column_home, itself_common, none_common, row_common}
use Rattle.gf2_eliminate.proofs.cover.LineCover.common.Goals as goal

pub returns-then-has : goal.returns-then-has
returns-then-has c = itself_common c.args.pattern.now c.args.column c.args.store.now c.requires c.args.self.now (sym c.if-has.ensures)

pub returns-in-Some : goal.returns-in-Some
returns-in-Some c = column_common c.args.pattern.now c.args.column c.args.store.now c.requires c.args.self.now c.in-Some.place c.in-Some.ensures

pub value-requires-after_bounds : goal.value-requires-after_bounds
value-requires-after_bounds c κs = column_home c.args.pattern.now c.args.column c.args.store.now c.requires

pub returns-in-Some-first_common : goal.returns-in-Some-first_common
returns-in-Some-first_common c =
    let place = c.in-Some-first_common.place in
    row_common c.args.pattern.now c.args.column c.args.store.now c.requires c.args.self.now c.value.result.now c.value.ensures place
    (subst (λ (ns : List ℕ). IsLeastCommon ns c.args.self.now.rows 1 place) c.ones.ensures c.in-Some-first_common.ensures)

pub returns-in-None : goal.returns-in-None
returns-in-None c =
    none_common c.args.pattern.now c.args.column c.args.store.now c.requires c.args.self.now c.value.result.now c.value.ensures (sym c.if-has.ensures) c.in_default.ensures
    (subst (λ (ns : List ℕ). IsFirstCommon ns c.args.self.now.rows 1 None) c.ones.ensures c.in-None.ensures)
