use Rattle.run_laws.proofs.finish_laws.finish_basis.Goals as goal

pub returns : goal.returns
returns g c = λ app. record {
  lawful = c.lawful.ensures app;
  stays_ready = c.independent_tasks_commute.ensures.ready app;
  left_alone = c.independent_tasks_commute.ensures.left_alone app;
  stay_clear = c.clear_tasks_stay_clear.ensures.stay app;
  have_ids = c.node_laws.ensures.have_ids;
  have_keys = c.node_laws.ensures.have_keys;
  keys_find = c.node_laws.ensures.keys_find;
  ids_find = c.node_laws.ensures.ids_find;
  keeps = c.rewrite_laws.ensures.keeps;
  no_other = c.rewrite_laws.ensures.no_other;
  replaces = c.rewrite_laws.ensures.tasks;
  exact = c.key_order.ensures.exact;
  connected = c.earlier_laws.ensures.connected;
  adds_each = c.put_all_laws.ensures.length;
  put_without = c.without_laws.ensures.restored;
  puts_add_one = c.put_in_laws.ensures.length;
  entries_in_order = c.put_laws.ensures.order;
  earlier_first = c.part_laws.ensures.first;
  children_apart = c.family_laws.ensures.apart;
  siblings_apart = c.family_laws.ensures.siblings;
  children_new = c.family_laws.ensures.new;
  children_go_on = c.family_laws.ensures.go_on;
  independent = c.independence_laws.ensures.without_conflict;
  independence_turned = c.independence_laws.ensures.mutual;
  turned = c.conflict_laws.ensures.mutual;
  decided = c.conflict_laws.ensures.decided;
  by_parts = c.conflict_laws.ensures.by_parts;
  grows = c.conflict_laws.ensures.grows;
  within_itself = c.within_laws.ensures.reflexive;
  within_all = c.within_laws.ensures.transitive;
  within_by_members = c.within_laws.ensures.by_members;
  merges_join = c.merge_laws.ensures.by_location;
  merges_hold = c.within_laws.ensures.merge_holds_both;
  merges_least = c.within_laws.ensures.merge_is_least;
  merges_ascend = c.merge_laws.ensures.ascending;
  given = c.location_laws.ensures.given;
  parts = c.location_laws.ensures.parts;
  takes_back = c.return_laws.ensures.takes_back;
  regains = c.return_laws.ensures.regains;
  giving_forgets = c.return_laws.ensures.giving_forgets;
  all_homes = c.value_laws.ensures.values;
  agreement = c.value_laws.ensures.agreement;
  changes = c.value_laws.ensures.changes;
}
