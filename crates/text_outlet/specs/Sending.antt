-- What a sink has got of a text that is told piece by piece.
use Rattle.std.specs.Prelude.{◌≡◌, ◌≤◌, ℕ, Bool, true, false, List, ◌++◌, Option}
use Rattle.std.specs.Io.KnownBytes.{Appends}
use Rattle.outer_edge.specs.Transfers.{HasFailed, Transfer, transfer_of}
use Rattle.outer_edge.specs.Writing.{AppendsFront}
use Rattle.text_outlet.specs.declared.outlet.Outlet.{Outlet}

-- a sink took all of the text, and no write failed; or some write did, and the sink took a front of it
abbrev pub IsWritten : Transfer → Bool → List ℕ → Type 0
IsWritten transfer false text = Appends transfer.before transfer.after text × (transfer.faults_after ≡ transfer.faults_before)
IsWritten transfer true text = HasFailed transfer × AppendsFront transfer.before transfer.after text

-- Of a text a sink took all but the end, which is held back, and no write failed; or a write failed, and it took a front of the text.
pub record IsSent (transfer : Transfer) (failed : Bool) (held text : List ℕ) : Type 0 where
  pub so_far : failed ≡ false → (front : List ℕ) × (text ≡ front ++ held) × IsWritten transfer false front
  pub since : failed ≡ true → IsWritten transfer true text
  pub never_falls : transfer.faults_before ≤ transfer.faults_after

-- since the sink was so at the beginning, the outlet has told it this text
abbrev pub HasTold : {K : Type 0} → (K → Option (List ℕ)) → (K → ℕ) → K → Outlet → K → List ℕ → Type 0
HasTold known faults begin outlet sink text = IsSent (transfer_of known faults begin sink) outlet.has_failed outlet.held text

-- from one state of an outlet and its sink to another this text was told, behind whatever was told before
abbrev pub TellsMore : {K : Type 0} → (K → Option (List ℕ)) → (K → ℕ) → Outlet → K → Outlet → K → List ℕ → Type 0
TellsMore {K} known faults outlet sink next next_sink told =
    (begin : K) (text : List ℕ) → HasTold known faults begin outlet sink text → HasTold known faults begin next next_sink (text ++ told)

-- what was told then comes behind what the outlet had told in this leg
abbrev pub TellsOn : {K : Type 0} → (K → Option (List ℕ)) → (K → ℕ) → Outlet → K → Outlet → K → Type 0
TellsOn known faults outlet sink next next_sink = (told : List ℕ) × (next.told ≡ outlet.told ++ told) × TellsMore known faults outlet sink next next_sink told
