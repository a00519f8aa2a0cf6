use Rattle.std.specs.Prelude.{◌*◌, ◌<◌, ◌&&◌, ◌||◌, ◌==◌, nat_lt, ℕ, suc, ◌+◌, List}
use Rattle.std.proofs.Common.{arith, ap, ◌∙◌}
use Rattle.std.proofs.lemmas.Bool.{or_left}
use Rattle.std.proofs.lemmas.Result.{on_ok_weaker}
use Rattle.gf2_eliminate.specs.Lines.{has}
use Rattle.gf2_eliminate.proofs.Covering.{column_home, set_included}
use Rattle.gf2_eliminate.proofs.cover.LineCover.gather_set.Goals as goal

pub include_new_columns-requires-clause-in_already : goal.include_new_columns-requires-clause-in_already
include_new_columns-requires-clause-in_already c = λ row other row-below below in-rows has-it.
    c.in_ok-insert.ensures.ok (suc other) ∙ or_left (has c.args.self.now.columns (suc other)) (c.args.column + 1 == suc other) (c.requires.closed row other row-below below in-rows has-it)

pub value-requires-after_bounds : goal.value-requires-after_bounds
value-requires-after_bounds c κs = column_home c.args.pattern.now c.args.column c.args.store.now c.requires.home

pub returns : goal.returns
returns c =
    let enough : c.args.pattern.now.rows < 64 * c.words_to.result = omega (arith, c.words_to.ensures) in
    on_ok_weaker c.include_first.result (λ rows-in. set_included c.args.pattern.now c.args.column c.args.store.now c.requires.home c.args.self.now c.value.result.now c.value.ensures c.insert.new.self
    (record { rows = c.include_first.new.self; columns = c.include_new_columns.new.columns }) c.words_to.result enough
    (λ n. rows-in n ∙ ap (λ (ns : List ℕ). has c.args.self.now.rows n || (nat_lt n (64 * c.words_to.result) && has ns n)) c.ones-holders.ensures)
    c.in_ok-insert.ensures.ok c.in_ok-include_new_columns.ensures)
    c.include_first.ensures.ok
