-- Seats that are split from the first one, and joined to it again.
use Rattle.std.proofs.Common.{◌≡◌, ◌==◌, not, ℕ, suc, List, [], ◌∷◌, Some, refl, sym, ap, subst, ◌∙◌, arith}
use Rattle.std.specs.Prelude.{Contains, filter}
use Rattle.plain_laws.specs.Ranges.{down_from, down_from-others_stay, down_from-without_first}
use Rattle.graph_update.specs.Engine.{EngineState}
use Rattle.worker_gate.specs.Fits.{drained_count}
use Rattle.worker_gate.specs.Hall.{first_view}
use Rattle.worker_gate.specs.Steps.{both_views, first_half, second_half}
use Rattle.worker_gate.specs.Turns.{HallState, SeatState}
use Rattle.hall_trials.specs.Seated.{HasWorked}
use Rattle.hall_trials.specs.Team.{IsFirst, IsSplit}

module _ {A V : Type 0} (hall : HallState (EngineState A V)) where
  abbrev Seat : Type 0
  Seat = SeatState (EngineState A V) V

  pub still_split : {number : ℕ} {unjoined : List ℕ} {old now : Seat} → IsSplit hall number unjoined old → HasWorked hall old now → IsSplit hall number unjoined now
  still_split split worked = record {
    seated = worked.seated;
    number_is = worked.number ∙ split.number_is;
    unjoined_are = worked.unjoined ∙ split.unjoined_are;
  }

  -- a hall's first seat, at its beginning
  pub begun : {origin : EngineState A V} {seat : Seat} → hall.origin ≡ origin → seat ≡ record { hall = hall.id; view = first_view origin } → IsFirst hall [] seat
  begun {origin} same is = record {
    split = record {
      seated = record {
        here = ap (λ (s : Seat). s.hall) is;
        origin_is = ap (λ (s : Seat). s.view.origin) is ∙ ap (λ (e : EngineState A V). Some e) (sym same);
      };
      number_is = ap (λ (s : Seat). s.view.number) is;
      unjoined_are = ap (λ (s : Seat). s.view.unjoined) is;
    };
    drained = ap (λ (s : Seat). s.view.drained) is ∙ ap (λ (e : EngineState A V). drained_count e.progress) (sym same);
  }

  -- so many were split from it
  pub first_split : {seat now : Seat} (n : ℕ) → IsSplit hall 0 (down_from n) seat → seat.view.splits ≡ n → now ≡ record seat { view = first_half seat.view } → IsSplit hall 0 (down_from (suc n)) now
  first_split {seat} {now} n split splits is = record {
    seated = record {
      here = ap (λ (s : Seat). s.hall) is ∙ split.seated.here;
      origin_is = ap (λ (s : Seat). s.view.origin) is ∙ split.seated.origin_is;
    };
    number_is = ap (λ (s : Seat). s.view.number) is ∙ split.number_is;
    unjoined_are =
        ap (λ (s : Seat). s.view.unjoined) is ∙ ap (λ (k : ℕ). suc k ∷ seat.view.unjoined) splits ∙ ap (λ (xs : List ℕ). suc n ∷ xs) split.unjoined_are;
  }

  pub other_split : {unjoined : List ℕ} {seat other : Seat} (n : ℕ) → IsSplit hall 0 unjoined seat → seat.view.splits ≡ n → other ≡ record { hall = hall.id; view = second_half seat.view } → IsSplit hall (suc n) [] other
  other_split n split splits is = record {
    seated = record {
      here = ap (λ (s : Seat). s.hall) is;
      origin_is = ap (λ (s : Seat). s.view.origin) is ∙ split.seated.origin_is;
    };
    number_is = ap (λ (s : Seat). s.view.number) is ∙ ap (λ (k : ℕ). suc k) splits;
    unjoined_are = ap (λ (s : Seat). s.view.unjoined) is;
  }

  -- the one with the greatest number may be joined
  pub may_join : {seat other : Seat} (n : ℕ) → IsSplit hall 0 (down_from (suc n)) seat → IsSplit hall (suc n) [] other → Contains seat.view.unjoined other.view.number
  may_join {seat} {other} n split gone =
      subst (λ (xs : List ℕ). Contains xs other.view.number) (sym split.unjoined_are) (subst (Contains (down_from (suc n))) (sym gone.number_is) (0, omega arith, refl))

  pub joined : {seat other now : Seat} (n : ℕ) → IsSplit hall 0 (down_from (suc n)) seat → IsSplit hall (suc n) [] other → now ≡ record seat { view = both_views seat.view other.view } → IsSplit hall 0 (down_from n) now
  joined {seat} {other} {now} n split gone is = record {
    seated = record {
      here = ap (λ (s : Seat). s.hall) is ∙ split.seated.here;
      origin_is = ap (λ (s : Seat). s.view.origin) is ∙ split.seated.origin_is;
    };
    number_is = ap (λ (s : Seat). s.view.number) is ∙ split.number_is;
    unjoined_are =
        ap (λ (s : Seat). s.view.unjoined) is
        ∙ ap (λ (xs : List ℕ). filter (λ k. not (k == other.view.number)) xs) split.unjoined_are
        ∙ ap (λ (k : ℕ). filter (λ number. not (number == k)) (down_from (suc n))) gone.number_is
        ∙ down_from-without_first n;
  }
