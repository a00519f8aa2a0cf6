use Rattle.cell_store.proofs.Values.{homes_by_location, homes_are_values, agreement_lasts, gives_new_values, value_changes}
use Rattle.cell_store.proofs.laws.value_laws.Goals as goal

pub returns-clause-homes : goal.returns-clause-homes
returns-clause-homes g c = homes_by_location

pub returns-clause-values : goal.returns-clause-values
returns-clause-values g c = homes_are_values

pub returns-clause-agreement : goal.returns-clause-agreement
returns-clause-agreement g c = agreement_lasts

pub returns-clause-new_values : goal.returns-clause-new_values
returns-clause-new_values g c = gives_new_values

pub returns-clause-changes : goal.returns-clause-changes
returns-clause-changes g c = value_changes
