use Rattle.std.proofs.Common.{◌≡◌, ◌≤◌, [], length}
use Rattle.std.specs.List.{AllByRecursion}
use Rattle.mtx_reader.specs.Places.{IsWithin}
use Rattle.mtx_reader.specs.Readings.{answer_from, end_of, forms_left}
use Rattle.mtx_reader.proofs.reader.kept_places.Given as goal

abbrev pub invariant-loop-line : goal.invariant-loop-line
invariant-loop-line l = record {
  whole : answer_from l.banner l.size 0 [] (end_of l.fn.lines) (forms_left l.banner.field l.fn.lines) ≡ answer_from l.banner l.size l.count l.named.items (end_of l.fn.lines) (forms_left l.banner.field l.lines);
  end : end_of l.lines ≡ end_of l.fn.lines;
  few : l.count ≤ l.size.entries;
  within : AllByRecursion (IsWithin l.size.rows l.size.columns) l.named.items;
}

abbrev pub decreases-loop-line : goal.decreases-loop-line
decreases-loop-line l = length l.lines.lines
