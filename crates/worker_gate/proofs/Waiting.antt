-- A seat that is refused again is as it was, but for how often it was refused and by whom at last.
use Rattle.std.proofs.Common.{◌≡◌, ℕ, suc, sym, ap, ◌∙◌}
use Rattle.app_laws.specs.Applications.{Application}
use Rattle.graph_update.specs.Engine.{EngineState}
use Rattle.worker_gate.specs.declared.view.View.{View}
use Rattle.worker_gate.specs.Turns.{IsRefused, IsTried, SeatState}

module _ {A V : Type 0} {meaning : A → Application V} where
  pub tried_again : {seat now back : SeatState (EngineState A V) V} {holder : ℕ} → IsTried seat now → IsRefused meaning now back holder → IsTried seat back
  tried_again {seat} {now} {back} {holder} tried refused =
      let is : back.view ≡ record seat.view { tries = suc now.view.tries; holder = holder } =
      ap (λ (s : SeatState (EngineState A V) V). s.view) refused.back_is
      ∙ ap (λ (v : View (EngineState A V) V). record v { tries = suc now.view.tries; holder = holder }) tried.view in
      record {
        hall = ap (λ (s : SeatState (EngineState A V) V). s.hall) refused.back_is ∙ tried.hall;
        view = is ∙ sym (ap (λ (v : View (EngineState A V) V). record seat.view { tries = v.tries; holder = v.holder }) is);
      }
