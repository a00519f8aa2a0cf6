-- The numbers of the type parameters in a row are those of the function that names it.
use denote.Param.{param}
use denote.Param.Send.{IsSend, sendable}
use denote.Ref.{NamedLft}
use Rattle.std.proofs.Crossing.{crosses}
use Rattle.graph_update.specs.contracts.engine.Engine as engine
use Rattle.worker_gate.proofs.hall.HallOf.TheSendSync as hall_of
use Rattle.worker_gate.proofs.sends.hall_shares.Goals as goal

pub returns : goal.returns
returns g c ℓ =
    let sends : (ℓ : NamedLft) → IsSend (engine.the_row ℓ (param 0 g.row.A) (param 2 g.row.A-Val) (param 3 g.row.A-Horizon) g.A.App) =
    λ ℓ. record { owned = (c.engine_sends.ensures ℓ).owned; leaving = (c.engine_sends.ensures ℓ).leaving } in
    search (sendable, crosses, hall_of.the_sync, sends) depth 40
