-- What a sink has got of a text, piece by piece.
use Rattle.std.proofs.Common.{arith, ◌≡◌, ℕ, ◌+◌, ◌≤◌, Bool, true, false, List, [], ◌++◌, append-nil, append_assoc, length, take, length-append, Option, refl, sym, ap, subst, ◌∙◌}
use Rattle.std.proofs.Math.Seq.{take-append-add}
use Rattle.std.proofs.lemmas.Bool.{true≢false}
use Rattle.std.specs.Prelude.{Result, Ok, Err, OnOk, OnErr}
use Rattle.std.specs.Result.{is_err}
use Rattle.std.specs.Io.KnownBytes.{Appends}
use Rattle.std.proofs.KnownBytes.{Appends-trans}
use Rattle.outer_edge.specs.Transfers.{HasFailed, Transfer}
use Rattle.outer_edge.specs.Writing.{AppendsFront}
use Rattle.text_outlet.specs.Sending.{IsSent}

-- a front of the last piece, as a front of all
front_behind : (a b c : Option (List ℕ)) (front piece text : List ℕ) → text ≡ front ++ piece → Appends a b front → AppendsFront b c piece → AppendsFront a c text
front_behind a b c front piece text whole first last =
    let within : length front + last.0 ≤ length text = omega (arith, ap length whole, length-append front piece, last.1) in
    let taken : take (length front + last.0) text ≡ front ++ take last.0 piece = ap (take (length front + last.0)) whole ∙ take-append-add front piece last.0 in
    (length front + last.0, within, subst (Appends a c) (sym taken) (Appends-trans a b c front (take last.0 piece) first last.2))

-- ---- what is sent

-- a piece more is held
pub more_held : (transfer : Transfer) (held text piece : List ℕ) → IsSent transfer false held text → IsSent transfer false (held ++ piece) (text ++ piece)
more_held transfer held text piece sent = record {
  so_far = λ none.
      let so = sent.so_far refl in
      (so.0, ap (λ all. all ++ piece) so.1 ∙ append_assoc so.0 held piece, so.2);
  since = λ failed. absurd (true≢false (sym failed));
  never_falls = sent.never_falls;
}

module _ (before middle after : Option (List ℕ)) (faults_before faults_middle faults_after : ℕ) (held text : List ℕ) where
  abbrev was : Transfer
  was = record { before = before; after = middle; faults_before = faults_before; faults_after = faults_middle }

  abbrev now : Transfer
  now = record { before = before; after = after; faults_before = faults_before; faults_after = faults_after }

  abbrev last : Transfer
  last = record { before = middle; after = after; faults_before = faults_middle; faults_after = faults_after }

  -- what was held is written
  pub held_written : IsSent was false held text → Appends middle after held → faults_after ≡ faults_middle → IsSent now false [] text
  held_written sent written same =
      let so = sent.so_far refl in
      record {
        so_far = λ none. (so.0 ++ held, so.1 ∙ sym (append-nil (so.0 ++ held)), (Appends-trans before middle after so.0 held so.2.0 written, same ∙ so.2.1));
        since = λ failed. absurd (true≢false (sym failed));
        never_falls = omega (arith, same, so.2.1);
      }

  -- or the write fails
  pub held_lost : IsSent was false held text → AppendsFront middle after held → HasFailed last → faults_middle ≤ faults_after → IsSent now true [] text
  held_lost sent front risen never =
      let so = sent.so_far refl in
      record {
        so_far = λ none. absurd (true≢false none);
        since = λ failed. (subst (λ faults. HasFailed (record { before = before; after = after; faults_before = faults; faults_after = faults_after })) so.2.1 risen, front_behind before middle after so.0 held text so.1 so.2.0 front);
        never_falls = omega (arith, never, so.2.1);
      }

  -- one of the two
  pub flushed : {T E : Type 0} (failed : Bool) (result : Result T E) → failed ≡ false → OnOk result (Appends middle after held) → OnOk result (faults_after ≡ faults_middle)
      → OnErr result (AppendsFront middle after held) → OnErr result (HasFailed last) → faults_middle ≤ faults_after → IsSent was failed held text → IsSent now (is_err result) [] text
  flushed failed (Ok done) none written same front risen never sent = held_written (subst (λ b. IsSent was b held text) none sent) written same
  flushed failed (Err fault) none written same front risen never sent = held_lost (subst (λ b. IsSent was b held text) none sent) front risen never

-- a piece more is held while no write has failed
pub piece_held : (transfer : Transfer) (failed : Bool) (held text piece : List ℕ) → failed ≡ false → IsSent transfer failed held text → IsSent transfer failed (held ++ piece) (text ++ piece)
piece_held transfer failed held text piece none sent =
    subst (λ b. IsSent transfer b (held ++ piece) (text ++ piece)) (sym none) (more_held transfer held text piece (subst (λ b. IsSent transfer b held text) none sent))
