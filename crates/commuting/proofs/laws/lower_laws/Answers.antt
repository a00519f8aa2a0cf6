use Rattle.commuting.proofs.laws.lower_laws.Goals as goal

pub returns : goal.returns
returns c = record {
  children_later = c.key_order.ensures.child_later;
  irreflexive = c.earlier_laws.ensures.irreflexive;
  transitive = c.earlier_laws.ensures.transitive;
  connected = c.earlier_laws.ensures.connected;
  earliest_first = c.put_in_laws.ensures.earliest_first;
  puts_keep_tasks = c.put_in_laws.ensures.tasks;
  puts_ascend = c.put_in_laws.ensures.ascending;
  put_all_commutes = c.put_all_laws.ensures.commutes;
  before_is_earlier = c.before_laws.ensures.earlier;
  before_ascends = c.before_laws.ensures.ascending;
  before_skips = c.before_laws.ensures.skips_later;
  before_takes = c.before_laws.ensures.takes_earlier;
  without_put = c.without_laws.ensures.forgets_put;
  put_without = c.without_laws.ensures.restored;
  others = c.without_laws.ensures.others;
  without_commutes = c.without_laws.ensures.commutes;
  without_ascends = c.without_laws.ensures.ascending;
  distinct = c.ascending_laws.ensures.distinct;
  determined = c.ascending_laws.ensures.determined;
  distinct_in_any_order = c.ascending_laws.ensures.any_order;
  independent = c.independence_laws.ensures.without_conflict;
  turned = c.conflict_laws.ensures.«mutual»;
  grows = c.conflict_laws.ensures.grows;
  decided = c.conflict_laws.ensures.decided;
  by_parts = c.conflict_laws.ensures.by_parts;
  children_apart = c.family_laws.ensures.apart;
  siblings_apart = c.family_laws.ensures.siblings;
  children_new = c.family_laws.ensures.new;
  children_go_on = c.family_laws.ensures.go_on;
  first_apart = c.family_laws.ensures.first;
  entries_in_order = c.put_laws.ensures.order;
  entries_in_one_part = c.put_laws.ensures.one_part;
  parts_in_order = c.part_laws.ensures.order;
  before_end = c.part_laws.ensures.end;
  joins_with_none = c.join_laws.ensures.none;
  joins_take_puts = c.join_laws.ensures.puts;
  joins_add_lengths = c.join_laws.ensures.length;
}
