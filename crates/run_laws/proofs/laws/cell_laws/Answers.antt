use Rattle.run_laws.proofs.laws.cell_laws.Goals as goal

pub returns : goal.returns
returns g c = record {
  determine = c.location_laws.ensures.determine_cells;
  taken = c.location_laws.ensures.taken;
  parts = c.location_laws.ensures.parts;
  values = c.value_laws.ensures.values;
  agreement = c.value_laws.ensures.agreement;
  changes = c.value_laws.ensures.changes;
}
