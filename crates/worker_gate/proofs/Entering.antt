-- What a seat is after a try to take the turn.
use Rattle.std.proofs.Common.{◌≡◌, ◌≢◌, ◌-◌, ◌<◌, ◌≤◌, ℕ, List, [], ◌∷◌, Some, sym, ap, subst, ◌∙◌, arith}
use Rattle.std.specs.Prelude.{Contains}
use Rattle.std.specs.declared.alloc.Global.{Global}
use Rattle.std.specs.declared.boxed.Box.{Box}
use mathlib.Core.Option.{none}
use Rattle.atomic_table.specs.Seated.{TableId}
use Rattle.atomic_table.specs.Table.{Me, step}
use Rattle.app_laws.specs.Applications.{Application}
use Rattle.graph_update.specs.Engine.{EngineState}
use Rattle.worker_gate.specs.Steps.{HasTaken, IsFound, Seen, Slot, TakesTurn, WasRefused, refused_by}
use Rattle.worker_gate.specs.Turns.{HasEntered, IsRefused, SeatState}
use Rattle.worker_gate.proofs.Freeing.{holding, same_held}

module _ {A V : Type 0} {meaning : A → Application V} (me after : Me (Slot A V) (Seen A V)) (found : ℕ) (tells : TakesTurn meaning (step 1 0 0 0 none) me found after) where
  -- ---- another seat has the turn

  pub was_refused : 0 < found → WasRefused meaning me (found - 1) after
  was_refused above = tells.1 (found - 1) (omega (arith, above))

  pub refused_is : 0 < found → (after.0.found ≡ me.0.found) × (after.0.origin ≡ me.0.origin) × (after.0.number ≡ me.0.number) × (after.0.splits ≡ me.0.splits) × (after.1 ≡ me.1)
  refused_is above =
      let is = (was_refused above).0 in (
        ap (λ (it : Me (Slot A V) (Seen A V)). it.0.found) is,
        ap (λ (it : Me (Slot A V) (Seen A V)). it.0.origin) is,
        ap (λ (it : Me (Slot A V) (Seen A V)). it.0.number) is,
        ap (λ (it : Me (Slot A V) (Seen A V)). it.0.splits) is,
        ap (λ (it : Me (Slot A V) (Seen A V)). it.1) is,
      )

  pub is_refused : 0 < found → (seat : SeatState (EngineState A V) V) (hall : TableId) → hall ≡ seat.hall → me.0 ≡ seat.view
      → IsRefused meaning seat (record { hall = hall; view = after.0 }) (found - 1)
  is_refused above seat hall same view =
      let was = was_refused above in
      let now : after.0 ≡ refused_by seat.view (found - 1) =
      ap (λ (it : Me (Slot A V) (Seen A V)). it.0) was.0 ∙ ap (λ (v : Seen A V). refused_by v (found - 1)) view in
      record {
        back_is = λ i. record { hall = same i; view = now i };
        other = subst (λ (v : Seen A V). (found - 1) ≢ v.number) view was.2;
        unjoined = subst (λ (v : Seen A V). v.number ≡ 0 → Contains v.unjoined (found - 1)) view was.3;
      }

  -- ---- the seat has it

  pub taken_is : found ≤ 0 → me.1 ≡ [] → (b : Box (EngineState A V) Global) × (after ≡ (record me.0 { found = Some b.value }, (0, Some b) ∷ [])) × IsFound meaning me.0 b.value
  taken_is below nothing =
      let taken : HasTaken meaning me after = tells.0 (omega (arith, below)) in
      (taken.0, taken.1 ∙ ap (λ (carried : List (ℕ × Slot A V)). (record me.0 { found = Some taken.0.value }, (0, Some taken.0) ∷ carried)) nothing, taken.2)

  pub is_entered : (below : found ≤ 0) (nothing : me.1 ≡ []) (seat : SeatState (EngineState A V) V) (hall : TableId) (held : Box (EngineState A V) Global) (slot : Slot A V) (last : Seen A V)
      → hall ≡ seat.hall → me.0 ≡ seat.view → after.1 ≡ (0, slot) ∷ [] → slot ≡ Some held → last ≡ after.0
      → HasEntered meaning seat (record { hall = hall; view = last; engine = held.value })
  is_entered below nothing seat hall held slot last same view out full kept =
      let taken = taken_is below nothing in
      let is = taken.1 in
      let lies : holding taken.0 ≡ holding held =
      sym (ap (λ (it : Me (Slot A V) (Seen A V)). it.1) is) ∙ out ∙ ap (λ (it : Slot A V). (0, it) ∷ []) full in
      let box : taken.0 ≡ held = same_held taken.0 held lies in
      let now : last ≡ record seat.view { found = Some held.value } =
      kept ∙ ap (λ (it : Me (Slot A V) (Seen A V)). it.0) is ∙ ap (λ (v : Seen A V). record v { found = Some taken.0.value }) view
      ∙ ap (λ (b : Box (EngineState A V) Global). record seat.view { found = Some b.value }) box in
      record {
        hall = same;
        view = now;
        found = subst (λ (b : Box (EngineState A V) Global). IsFound meaning seat.view b.value) box (subst (λ (v : Seen A V). IsFound meaning v taken.0.value) view taken.2);
      }

module _ {X Y : Type 0} where
  pub firsts : {a b : X × Y} → a ≡ b → a.0 ≡ b.0
  firsts same = ap (λ (it : X × Y). it.0) same

  pub seconds : {a b : X × Y} → a ≡ b → a.1 ≡ b.1
  seconds same = ap (λ (it : X × Y). it.1) same
