-- What is told of a status on a sink for errors.
use Rattle.std.specs.Prelude.{◌≡◌, ◌⊎◌, ℕ, List, [], ◌∷◌, ◌++◌}
use Rattle.std.specs.Io.KnownBytes.{Appends}
use Rattle.outer_edge.specs.Transfers.{Transfer, HasFailed}
use Rattle.outer_edge.specs.Writing.{AppendsFront}
use Rattle.kdg_prog.specs.Status.{fault_text}
use Rattle.kdg_prog.specs.declared.status.Status.{Status}

-- the line of a status and a line feed
abbrev pub fault_line : Status → List ℕ
fault_line status = fault_text status ++ 10 ∷ []

-- the whole line, or a front of it where a write fails
abbrev pub IsTold : Status → Transfer → Type 0
IsTold status errors =
    (Appends errors.before errors.after (fault_line status) × (errors.faults_after ≡ errors.faults_before))
    ⊎ (AppendsFront errors.before errors.after (fault_line status) × HasFailed errors)
