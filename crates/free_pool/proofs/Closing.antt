-- A run at a hall, from its beginning to what it answers once the hall is closed.
use Rattle.std.proofs.Common.{◌≡◌, ℕ, false, List, [], ◌∷◌, ◌++◌, Option, sym, ap, subst, ◌∙◌}
use Rattle.cell_store.specs.Values.{values_of}
use Rattle.app_laws.specs.Applications.{Application}
use Rattle.run_laws.specs.Progress.{Progress}
use Rattle.run_laws.specs.Sound.{IsSound}
use Rattle.graph_update.specs.Engine.{EngineState}
use Rattle.source_pool.specs.TellingLaws.{TellingsBegin}
use Rattle.text_outlet.specs.declared.outlet.Outlet.{Outlet}
use Rattle.text_outlet.specs.Sending.{HasTold, TellsOn}
use Rattle.worker_gate.specs.Fits.{Fits}
use Rattle.worker_gate.specs.Hall.{first_view, sum_of}
use Rattle.worker_gate.specs.Steps.{Seen}
use Rattle.worker_gate.specs.Turns.{HallState, SeatState}
use Rattle.free_pool.specs.Streams.{IsStreaming, IsTellable, IsToldTo}
use Rattle.free_pool.proofs.Told.{nothing_told}

-- ---- a new hall

-- it may be told what is drained at it, since it is sound and nothing runs
pub tellable_from : {A V : Type 0} (meaning : A → Application V) (engine : EngineState A V) (hall : HallState (EngineState A V)) → hall.origin ≡ engine
    → IsSound (meaning engine.app) engine.progress [] (values_of engine.progress.cells) → IsTellable (meaning hall.origin.app) hall.origin.progress
tellable_from {A} {V} meaning engine hall origin sound =
    subst (λ (e : EngineState A V). IsTellable (meaning e.app) e.progress) (sym origin)
    (record { sound = sound; logged = sound.keys_and_counts.logged })

-- nothing is told at first
pub untold_at : {A V : Type 0} (meaning : A → Application V) (engine : EngineState A V) (hall : HallState (EngineState A V)) (seat : SeatState (EngineState A V) V) → hall.origin ≡ engine
    → seat ≡ record { hall = hall.id; view = first_view engine } → (told : List ℕ) → told ≡ [] → IsToldTo (meaning hall.origin.app) hall.origin.progress seat.view.drained told
untold_at {A} {V} meaning engine hall seat origin seat_is told none =
    subst (λ (e : EngineState A V). IsToldTo (meaning e.app) e.progress seat.view.drained told) (sym origin)
    (subst (λ (text : List ℕ). IsToldTo (meaning engine.app) engine.progress seat.view.drained text) (sym none)
    (subst (λ (one : SeatState (EngineState A V) V). IsToldTo (meaning engine.app) engine.progress one.view.drained []) (sym seat_is) (nothing_told engine.progress)))

-- all that a new outlet has told since then
pub told_since : {K : Type 0} (known : K → Option (List ℕ)) (faults : K → ℕ) → TellingsBegin known faults → (outlet next : Outlet) (begin sink : K) → outlet.held ≡ [] → outlet.has_failed ≡ false → outlet.told ≡ []
    → TellsOn known faults outlet begin next sink → HasTold known faults begin next sink next.told
told_since known faults begins outlet next begin sink held no_fault none tells =
    subst (λ (text : List ℕ). HasTold known faults begin next sink text) (sym (tells.1 ∙ ap (λ (front : List ℕ). front ++ tells.0) none))
    (tells.2 begin [] (begins outlet begin held no_fault))

-- ---- a closed hall

-- the run is told on from there, also after a claim that left it as it was
pub closed : {A V K : Type 0} (meaning : A → Application V) (known : K → Option (List ℕ)) (faults : K → ℕ) (origin engine : EngineState A V) (view : Seen A V) (outlet : Outlet) (begin sink : K)
    → Fits meaning origin engine (sum_of (view ∷ [])) → IsTellable (meaning origin.app) origin.progress → IsToldTo (meaning origin.app) origin.progress view.drained outlet.told
    → HasTold known faults begin outlet sink outlet.told → (now : EngineState A V) → now.app ≡ engine.app → now.progress ≡ engine.progress
    → IsStreaming (meaning now.app) known faults origin.progress (sum_of (view ∷ [])) begin now.progress outlet sink
closed {A} {V} meaning known faults origin engine view outlet begin sink fits tellable told sent now app progress =
    let sum = sum_of (view ∷ []) in
    let at : IsStreaming (meaning origin.app) known faults origin.progress sum begin engine.progress outlet sink = record {
      continues = fits.progress;
      tellable = tellable;
      told = subst (λ (n : ℕ). IsToldTo (meaning origin.app) origin.progress n outlet.told) (sym fits.progress.count) told;
      sent = sent;
    } in
    subst (λ (a : A). IsStreaming (meaning a) known faults origin.progress sum begin now.progress outlet sink) (sym (app ∙ fits.app))
    (subst (λ (p : Progress V). IsStreaming (meaning origin.app) known faults origin.progress sum begin p outlet sink) (sym progress) at)
