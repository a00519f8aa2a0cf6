use Rattle.list_rounds.proofs.laws.basis.Goals as goal

pub returns : goal.returns
returns g c = λ app. record {
  lawful = c.lawful.ensures app;
  starts_ready = c.standing_laws.ensures.starts_ready app;
  starts = c.standing_laws.ensures.starts app;
  acts = c.standing_laws.ensures.acts app;
  end = c.standing_laws.ensures.end app;
  too_many = c.standing_laws.ensures.too_many app;
  log_later = c.standing_laws.ensures.later app;
  log_new_keys = c.standing_laws.ensures.new_keys app;
  come_to_same = c.listed_tasks_come_to_same.ensures.same app;
  named = c.naming_laws.ensures;
  listed = c.round_laws.ensures.listed app;
  in_turn = c.clear_tasks_all_commute.ensures.in_turn app;
  earliest = c.clear_tasks_stay_clear.ensures.earliest app;
  stays_ready = c.independent_tasks_commute.ensures.ready app;
  children_later = c.key_order.ensures.child_later;
  transitive = c.earlier_laws.ensures.transitive;
  distinct = c.ascending_laws.ensures.distinct;
  distinct_in_any_order = c.ascending_laws.ensures.any_order;
  restores = c.without_laws.ensures.restored;
  put_all_keeps = c.put_all_laws.ensures.tasks;
  put_all_adds = c.put_all_laws.ensures.length;
  earlier_first = c.part_laws.ensures.first;
  before_end = c.part_laws.ensures.end;
  joins_commute = c.join_laws.ensures.commutative;
  silent_joins = c.join_laws.ensures.silent;
  joins_add_lengths = c.join_laws.ensures.length;
  texts_follow = c.part_laws.ensures.texts;
  values = c.value_laws.ensures.values;
}
