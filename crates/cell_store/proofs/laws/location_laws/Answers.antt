use Rattle.cell_store.proofs.Parts.{same_cells}
use Rattle.cell_store.proofs.Returns.{lookups_determine_parts, taken_by_location, given_by_location, parts_by_location, writes_by_location, shells_by_location}
use Rattle.cell_store.proofs.laws.location_laws.Goals as goal

pub returns-clause-determine_cells : goal.returns-clause-determine_cells
returns-clause-determine_cells g c = same_cells

pub returns-clause-determine_parts : goal.returns-clause-determine_parts
returns-clause-determine_parts g c = lookups_determine_parts

pub returns-clause-taken : goal.returns-clause-taken
returns-clause-taken g c = taken_by_location

pub returns-clause-given : goal.returns-clause-given
returns-clause-given g c = given_by_location

pub returns-clause-parts : goal.returns-clause-parts
returns-clause-parts g c = parts_by_location

pub returns-clause-writes : goal.returns-clause-writes
returns-clause-writes g c = writes_by_location

pub returns-clause-shells : goal.returns-clause-shells
returns-clause-shells g c = shells_by_location
