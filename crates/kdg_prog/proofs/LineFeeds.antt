-- A line of text and a line feed, and how it is told.
use Rattle.std.proofs.Common.{◌≡◌, ◌∙◌, ◌+◌, ◌-◌, ◌<◌, ℕ, List, [], ◌∷◌, ◌++◌, length, take, drop, zero, suc, refl, subst, ap, arith, inl, inr}
use Rattle.std.specs.Prelude.{Result, Ok, Err, OnOk, OnErr, replicate}
use Rattle.std.specs.Io.KnownBytes.{Appends}
use Rattle.std.proofs.Math.Seq.{take-append-add}
use Rattle.std.proofs.lemmas.List.{drop-replicate}
use Rattle.outer_edge.specs.Transfers.{Transfer, HasFailed}
use Rattle.outer_edge.specs.Writing.{AppendsFront}
use Rattle.kdg_prog.specs.Telling.{IsTold, fault_line}
use Rattle.kdg_prog.specs.declared.status.Status.{Status}

-- the line feeds of the buffer begin behind the text
pub fed : (text line : List ℕ) (len : ℕ) → len ≡ length text → len < 64 → line ≡ text ++ drop len (replicate 64 10) → take (len + 1) line ≡ text ++ 10 ∷ []
fed text line len here within is =
    let one : take {A = ℕ} 1 (drop len (replicate 64 10)) ≡ 10 ∷ [] = ap (take 1) (drop-replicate len 64 10) ∙ one_of (64 - len) (omega (arith, within)) in
    rw (is, here) (take-append-add text (drop (length text) (replicate 64 10)) 1 ∙ ap (λ feed. text ++ feed) (rw (← here) one))
  where
    one_of : (n : ℕ) → 0 < n → take {A = ℕ} 1 (replicate n 10) ≡ 10 ∷ []
    one_of zero none = absurd (omega (arith, none))
    one_of (suc n) some = refl

-- the whole line was written, or a write failed behind a front of it
pub told_by : {U F : Type 0} (status : Status) (errors : Transfer) (piece : List ℕ) (result : Result U F) → piece ≡ fault_line status
    → OnOk result (Appends errors.before errors.after piece) → OnOk result (errors.faults_after ≡ errors.faults_before)
    → OnErr result (HasFailed errors) → OnErr result (AppendsFront errors.before errors.after piece) → IsTold status errors
told_by status errors piece (Ok done) is whole none failed front = inl (subst (Appends errors.before errors.after) is whole, none)
told_by status errors piece (Err fault) is whole none failed front = inr (subst (AppendsFront errors.before errors.after) is front, failed)
