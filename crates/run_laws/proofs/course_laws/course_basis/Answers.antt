use Rattle.run_laws.proofs.course_laws.course_basis.Goals as goal

pub returns : goal.returns
returns g c = λ app. record {
  begun = c.basis.ensures app;
  ended = c.finish_basis.ensures app;
  finishes_sound = c.sound_finish_laws.ensures app;
  starts = c.standing_laws.ensures.starts app;
  acts = c.standing_laws.ensures.acts app;
  first = c.standing_laws.ensures.first app;
  last = c.standing_laws.ensures.end app;
  too_many = c.standing_laws.ensures.too_many app;
  log_later = c.standing_laws.ensures.later app;
  log_new_keys = c.standing_laws.ensures.new_keys app;
  children_later = c.key_order.ensures.child_later;
  any_order = c.ascending_laws.ensures.any_order;
  all_before_end = c.part_laws.ensures.end;
  joins_with_none = c.join_laws.ensures.none;
  joins_commute = c.join_laws.ensures.commutative;
  joins_associate = c.join_laws.ensures.associative;
  joins_take_puts = c.join_laws.ensures.puts;
  joins_add_lengths = c.join_laws.ensures.length;
  joins_keep_order = c.join_laws.ensures.order;
  joins_have_all = c.join_laws.ensures.all;
  parts_join = c.join_laws.ensures.parts;
}
