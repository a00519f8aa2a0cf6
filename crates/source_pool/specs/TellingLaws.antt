-- What holds of texts that outlets tell, for every sink.
use Rattle.std.specs.Prelude.{◌≡◌, ℕ, Bool, false, List, [], ◌++◌, Option}
use Rattle.outer_edge.specs.Transfers.{Transfer}
use Rattle.outer_edge.specs.Writing.{AppendsFront}
use Rattle.text_outlet.specs.declared.outlet.Outlet.{Outlet}
use Rattle.text_outlet.specs.Sending.{HasTold, IsSent, IsWritten, TellsMore}

module _ {K : Type 0} (known : K → Option (List ℕ)) (faults : K → ℕ) where
  -- an outlet that holds nothing has told nothing yet
  abbrev pub TellingsBegin : Type 0
  TellingsBegin = (outlet : Outlet) (sink : K) → outlet.held ≡ [] → outlet.has_failed ≡ false → HasTold known faults sink outlet sink []

  -- where nothing has changed, nothing more is told
  abbrev pub NothingIsTold : Type 0
  NothingIsTold = (outlet : Outlet) (sink : K) → TellsMore known faults outlet sink outlet sink []

  -- what is told after a text comes behind it
  abbrev pub TellingsAdd : Type 0
  TellingsAdd = (outlet next last : Outlet) (sink next_sink last_sink : K) (first second : List ℕ) →
      TellsMore known faults outlet sink next next_sink first → TellsMore known faults next next_sink last last_sink second →
      TellsMore known faults outlet sink last last_sink (first ++ second)

-- where nothing is held, all is written, unless a write has failed
abbrev pub AllIsWritten : Type 0
AllIsWritten = (transfer : Transfer) (failed : Bool) (text : List ℕ) → IsSent transfer failed [] text → IsWritten transfer failed text

-- what was written of a front is a front of the whole text
abbrev pub FrontsAreWritten : Type 0
FrontsAreWritten = (transfer : Transfer) (failed : Bool) (held told rest text : List ℕ) → text ≡ told ++ rest → IsSent transfer failed held told →
    AppendsFront transfer.before transfer.after text
