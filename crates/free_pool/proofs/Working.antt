-- What holds of a worker's seat, and of what it has in hand, between two turns.
use Rattle.std.proofs.Common.{◌≡◌, ℕ, List, [], ◌++◌, drop, length, refl, sym, ap, subst, ◌∙◌, append-nil}
use Rattle.std.proofs.Math.Seq.{drop-length}
use Rattle.std.proofs.lemmas.Slice.Zip.{AllZip-long}
use Rattle.app_laws.specs.Applications.{Application}
use Rattle.run_laws.specs.Jobs.{Done, Job}
use Rattle.graph_update.specs.Engine.{EngineState}
use Rattle.source_pool.specs.Course.{IsJobDone}
use Rattle.worker_gate.specs.Turns.{HallState, SeatState}
use Rattle.free_pool.specs.Turns.{AreDone, IsSeated, jobs_left}

module _ {A V : Type 0} (meaning : A → Application V) (hall : HallState (EngineState A V)) where
  pub record IsWorking (old now : SeatState (EngineState A V) V) (dones : List (Done V)) : Type 0 where
    pub seated : IsSeated hall now
    pub number : now.view.number ≡ old.view.number
    pub unjoined : now.view.unjoined ≡ old.view.unjoined
    pub hand : AreDone (meaning hall.origin.app) now.view.jobs dones

  none_in_hand : (jobs : List (Job V)) (dones : List (Done V)) → jobs ≡ [] → dones ≡ [] → AreDone (meaning hall.origin.app) jobs dones
  none_in_hand jobs dones idle empty =
      subst (AreDone (meaning hall.origin.app) jobs) (sym empty) (subst (λ (js : List (Job V)). AreDone (meaning hall.origin.app) js []) (sym idle) tt)

  pub begins : (seat : SeatState (EngineState A V) V) (dones : List (Done V)) → IsSeated hall seat → seat.view.jobs ≡ [] → dones ≡ [] → IsWorking seat seat dones
  begins seat dones seated idle empty = record { seated = seated; number = refl; unjoined = refl; hand = none_in_hand seat.view.jobs dones idle empty }

  -- where all ended, the jobs are those that were claimed
  only_claimed : (had claimed : List (Job V)) (dones : List (Done V)) (ended : ℕ) → AreDone (meaning hall.origin.app) had dones → ended ≡ length dones → jobs_left had ended claimed ≡ claimed
  only_claimed had claimed dones ended done all =
      let long : ended ≡ length had = all ∙ AllZip-long (IsJobDone (meaning hall.origin.app)) had dones done in
      ap (λ (n : ℕ). claimed ++ drop n had) long ∙ ap (λ (rest : List (Job V)). claimed ++ rest) (drop-length had) ∙ append-nil claimed

  module _ (old seat now : SeatState (EngineState A V) V) (dones : List (Done V)) (working : IsWorking old seat dones)
      (seated : IsSeated hall now) (number : now.view.number ≡ seat.view.number) (unjoined : now.view.unjoined ≡ seat.view.unjoined) where
    pub same_number : now.view.number ≡ old.view.number
    same_number = number ∙ working.number

    pub same_unjoined : now.view.unjoined ≡ old.view.unjoined
    same_unjoined = unjoined ∙ working.unjoined

    module _ (ended : ℕ) (claimed : List (Job V)) (jobs : now.view.jobs ≡ jobs_left seat.view.jobs ended claimed) (all : ended ≡ length dones) where
      are_claimed : now.view.jobs ≡ claimed
      are_claimed = jobs ∙ only_claimed seat.view.jobs claimed dones ended working.hand all

      -- the tasks that were claimed are performed
      pub performs : (app : A) (did : List (Done V)) → app ≡ hall.origin.app → AreDone (meaning app) claimed did → IsWorking old now did
      performs app did same done = record {
        seated = seated;
        number = same_number;
        unjoined = same_unjoined;
        hand = subst (λ (js : List (Job V)). AreDone (meaning hall.origin.app) js did) (sym are_claimed) (subst (λ (a : A). AreDone (meaning a) claimed did) same done);
      }

      pub waits : (left : List (Done V)) → claimed ≡ [] → left ≡ [] → IsWorking old now left
      waits left none empty = record {
        seated = seated;
        number = same_number;
        unjoined = same_unjoined;
        hand = none_in_hand now.view.jobs left (are_claimed ∙ none) empty;
      }
