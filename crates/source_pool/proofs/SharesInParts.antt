-- The jobs of shares, of which the first one's end first, and those of the caller's hand, which end last.
use Rattle.std.proofs.Common.{◌≡◌, ◌++◌, List, ◌∷◌, None, subst}
use Rattle.app_laws.specs.Applications.{Application}
use Rattle.run_laws.specs.Jobs.{Done, Job}
use Rattle.source_pool.specs.declared.hands.Hand.{Hand}
use Rattle.source_pool.specs.declared.shares.Share.{Share}
use Rattle.source_pool.specs.Performing.{AreOfShares, AreShared, IsHandOf, IsShareOf}
use Rattle.source_pool.proofs.InParts.{Parts}

module _ {A V H : Type 0} (meaning : A → Application V) (app : A) where
  -- the first share's hand is back
  pub share_first : (share next : Share A V H) (more shares : List (Share A V H)) → shares ≡ share ∷ more → ((jobs : List (Job V)) → IsShareOf meaning app share jobs → IsShareOf meaning app next jobs) → next.errand ≡ None
      → (jobs : List (Job V)) → AreOfShares meaning app shares jobs → Parts (IsHandOf (meaning app) next.hand) (AreOfShares meaning app more) jobs
  share_first share next more shares are same back jobs such =
      let its : (own : List (Job V)) × (others : List (Job V)) × (jobs ≡ own ++ others) × IsShareOf meaning app share own × AreOfShares meaning app more others =
      subst (λ (l : List (Share A V H)). AreOfShares meaning app l jobs) are such in
      record { first = its.0; more = its.1; are = its.2; of_first = (same its.0 its.3).back back; of_more = its.4 }

  pub own_last : (shares : List (Share A V H)) (hand : Hand (Job V) (Done V)) (jobs : List (Job V)) → AreShared meaning app shares hand jobs → Parts (AreOfShares meaning app shares) (IsHandOf (meaning app) hand) jobs
  own_last shares hand jobs such = record { first = such.given; more = such.own; are = such.are; of_first = such.of_shares; of_more = such.of_hand }
