use Rattle.std.proofs.Common.{List, [], ◌∷◌, Option, sym, subst}
use Rattle.std.specs.declared.alloc.Global.{Global}
use Rattle.std.specs.declared.boxed.Box.{Box}
use Rattle.atomic_table.specs.Table.{opening}
use Rattle.graph_update.specs.Engine.{EngineState}
use Rattle.worker_gate.specs.Hall.{HallRule, first_view}
use Rattle.worker_gate.proofs.Beginning.{begins}
use Rattle.worker_gate.proofs.hall.opened.Goals as goal

pub new-requires : goal.new-requires
new-requires g c =
    let full = c.requires.full in
    let origin = c.args.origin.now.value in
    subst (λ (slots : List (Option (Box (EngineState g.row.A.Denot g.row.A-Val.Denot) Global))). HallRule g.A.App.meaning origin (opening (0 ∷ []) slots (first_view origin)))
    (sym full.1) (begins origin full.0 full.2 c.requires.fits)
