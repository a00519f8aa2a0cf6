use Rattle.std.specs.Prelude.{◌≡◌, ◌≤◌}
use Rattle.cell_store.specs.Values.{values_of}
use Rattle.mtx_reader.specs.Ascending.{numbers_from}
use Rattle.gf2_eliminate.specs.Start.{row_texts, used_among}
use Rattle.gf2_eliminate.proofs.finals.finals.Given as goal

abbrev pub invariant-loop-row : goal.invariant-loop-row
invariant-loop-row l = record {
  text : l.text ≡ row_texts (values_of l.store) (numbers_from 0 l.row);
  rank : l.rank ≡ used_among (values_of l.store) (numbers_from 0 l.row);
  few : l.rank ≤ l.row;
}
