use Rattle.std.proofs.Common.{◌≡◌, ◌-◌, ◌≤◌, length}
use Rattle.std.specs.List.{AllByRecursion}
use Rattle.mtx_reader.specs.Places.{IsWithin}
use Rattle.mtx_reader.specs.Readings.{answer_from, end_of, forms_left}
use Rattle.mtx_reader.proofs.reader.keep_plain_lines.Given as goal

abbrev pub invariant-loop-count : goal.invariant-loop-count
invariant-loop-count l = record {
  whole : answer_from l.banner l.size l.before l.fn.named.items (end_of l.fn.lines) (forms_left l.banner.field l.fn.lines) ≡ answer_from l.banner l.size l.count l.named.items (end_of l.fn.lines) (forms_left l.banner.field l.left);
  end : end_of l.left ≡ end_of l.fn.lines;
  few : l.count ≤ l.size.entries;
  within : AllByRecursion (IsWithin l.size.rows l.size.columns) l.named.items;
  shorter : length l.left.lines ≤ length l.fn.lines.lines;
}

abbrev pub decreases-loop-count : goal.decreases-loop-count
decreases-loop-count l = l.size.entries - l.count
