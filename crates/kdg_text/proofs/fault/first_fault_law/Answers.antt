use Rattle.kdg_text.proofs.FirstFault.{first_fault-found, first_fault-none}
use Rattle.kdg_text.proofs.fault.first_fault_law.Goals as goal

pub returns-clause-found : goal.returns-clause-found
returns-clause-found g c = first_fault-found

pub returns-clause-none : goal.returns-clause-none
returns-clause-none g c = first_fault-none
