use Rattle.std.proofs.Common.{Result, Ok, Err, IfOk, sym, subst}
use Rattle.std.specs.Prelude.{ℕ}
use Rattle.cell_store.specs.Laws.{HomesAreValues}
use Rattle.cell_store.specs.Values.{AreAllHome}
use Rattle.app_laws.specs.declared.serial_run.Finals.{Finals}
use Rattle.app_laws.specs.declared.serial_run.SerialFault.{SerialFault}
use Rattle.app_laws.specs.Execution.{Execution, Operator}
use Rattle.app_laws.specs.Serial.{IsRun}
use Rattle.spring_mesh.specs.declared.file.MeshNode.{MeshNode}
use Rattle.format_trials.proofs.springs.run.Goals as goal

homes_left : (act : Operator MeshNode) (budget : ℕ) (start : Execution MeshNode) (result : Result (Finals MeshNode) SerialFault) → HomesAreValues MeshNode → IfOk result (IsRun act budget start)
    → IfOk result (λ finals. AreAllHome finals.store)
homes_left act budget start (Ok finals) values run = subst AreAllHome (sym run.store) (values.all_home run.end.cells)
homes_left act budget start (Err fault) values run = tt

pub returns-clause-home : goal.returns-clause-home
returns-clause-home c = homes_left _ _ _ c.serial.result c.value_laws.ensures.values c.serial.ensures.run
