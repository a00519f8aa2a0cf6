use Rattle.run_laws.proofs.laws.lower_laws.Goals as goal

pub returns : goal.returns
returns c = record {
  irreflexive = c.earlier_laws.ensures.irreflexive;
  transitive = c.earlier_laws.ensures.transitive;
  connected = c.earlier_laws.ensures.connected;
  equal = c.earlier_laws.ensures.equal;
  put_all_length = c.put_all_laws.ensures.length;
  turned = c.conflict_laws.ensures.«mutual»;
  grows = c.conflict_laws.ensures.grows;
  decided = c.conflict_laws.ensures.decided;
  independent = c.independence_laws.ensures.without_conflict;
  reflexive = c.within_laws.ensures.reflexive;
  parts_in_order = c.part_laws.ensures.order;
  have_ids = c.node_laws.ensures.have_ids;
  have_keys = c.node_laws.ensures.have_keys;
  keys_find = c.node_laws.ensures.keys_find;
  starts_keep_tasks = c.put_laws.ensures.keeps_tasks;
}
