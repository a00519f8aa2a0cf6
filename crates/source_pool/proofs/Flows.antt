-- What a run that writes to a sink answers, by what it has told.
use Rattle.std.proofs.Common.{◌≡◌, ℕ, Bool, true, false, List, [], ◌++◌, append-nil, append_assoc, Some, refl, sym, ap, subst, ◌∙◌}
use Rattle.std.proofs.lemmas.Bool.{true≢false}
use Rattle.std.specs.Io.KnownBytes.{Appends}
use Rattle.outer_edge.specs.Transfers.{Transfer}
use Rattle.app_laws.specs.declared.serial_run.Finals.{Finals}
use Rattle.app_laws.specs.Applications.{Application}
use Rattle.crew.specs.declared.answers.OverCause.TheVariants as cause
use Rattle.run_laws.specs.Progress.{Progress}
use Rattle.source_pool.specs.Kept.{KeepsAfter, sequential_text}
use Rattle.source_pool.specs.KeptLaws.{KeptTextsAreFronts}
use Rattle.source_pool.specs.Legs.{BeginsAtRest}
use Rattle.source_pool.specs.Runs.{IsOverLimit, IsRoundsEnd}
use Rattle.source_pool.specs.Streams.{IsCutShort, IsStreamEnd, IsStreamOver, IsToldEnd, TakesFront}
use Rattle.text_outlet.specs.Sending.{IsSent, IsWritten}
use Rattle.source_pool.proofs.Sending.{all_written, front_written}

not_before : (had failed : Bool) → (had ≡ true → failed ≡ true) → failed ≡ false → had ≡ false
not_before false failed stays none = refl
not_before true failed stays none = absurd (true≢false (sym (stays refl) ∙ none))

module _ {V : Type 0} {app : Application V} (start : Progress V) (transfer : Transfer) (told : List ℕ) where
  pub stream_end : (had failed : Bool) (finals : Finals V) (rounds : ℕ) → (had ≡ true → failed ≡ true) → IsToldEnd app start had told finals rounds → IsSent transfer failed [] told
      → IsStreamEnd app start transfer finals rounds failed
  stream_end had failed finals rounds stays end sent = record {
    whole = end.whole;
    end = end.end;
    text = told;
    behind = end.behind;
    written = all_written transfer failed told sent;
    all = λ none. end.all (not_before had failed stays none);
  }

  pub stream_over : (had failed : Bool) (created limit : ℕ) → KeptTextsAreFronts app → BeginsAtRest app start → (had ≡ true → failed ≡ true) → IsOverLimit app start created limit
      → IsCutShort app start had told (cause.Budget created limit) → IsSent transfer failed [] told → IsStreamOver app start transfer created limit failed
  stream_over had failed created limit law begins stays over cut sent =
      let front = law start cut.rounds cut.state cut.text begins cut.keeps in
      let all = cut.text_is ∙ ap (λ rest. told ++ rest) (cut.all tt) ∙ append-nil told in
      let whole : sequential_text app start ≡ told ++ front.0 = front.1 ∙ ap (λ text. text ++ front.0) all in
      record {
        over = over;
        kept = λ none. record {
          rounds = cut.rounds;
          state = cut.state;
          text = told;
          keeps = subst (KeepsAfter app start cut.rounds cut.state) all cut.keeps;
          last = cut.last tt (not_before had failed stays none);
          written = subst (λ b. IsWritten transfer b told) none (all_written transfer failed told sent);
        };
        front = front_written transfer failed [] told front.0 (sequential_text app start) whole sent;
        fault = λ is. (sent.since is).0;
      }

  pub stream_front : (failed : Bool) (held : List ℕ) → KeptTextsAreFronts app → BeginsAtRest app start → IsCutShort app start failed told cause.NoRoom → IsSent transfer failed held told
      → TakesFront app start transfer
  stream_front failed held law begins cut sent =
      let front = law start cut.rounds cut.state cut.text begins cut.keeps in
      let whole : sequential_text app start ≡ told ++ (cut.rest ++ front.0) = front.1 ∙ ap (λ text. text ++ front.0) cut.text_is ∙ append_assoc told cut.rest front.0 in
      front_written transfer failed held told (cut.rest ++ front.0) (sequential_text app start) whole sent

-- where all went into an empty text, that text is the run's
pub text_end : {V : Type 0} (app : Application V) (start : Progress V) (transfer : Transfer) (text : List ℕ) (finals : Finals V) (rounds : ℕ) → transfer.before ≡ Some [] → transfer.after ≡ Some text
    → IsStreamEnd app start transfer finals rounds false → IsRoundsEnd app start (record finals { text = text }) rounds
text_end app start transfer text finals rounds before after stream =
    let written : Appends (Some []) (Some text) stream.text = subst (λ known. Appends known (Some text) stream.text) before (subst (λ known. Appends transfer.before known stream.text) after stream.written.0) in
    let whole : stream.whole.text ≡ text = stream.behind.text_is ∙ ap (λ rest. stream.text ++ rest) (stream.all refl) ∙ append-nil stream.text ∙ sym written in
    let end = stream.end in
    record {
      last = end.last;
      is_end = end.is_end;
      store = sym stream.behind.store ∙ end.store;
      text = sym whole ∙ end.text;
      count = sym stream.behind.count ∙ end.count;
      rounds_are = end.rounds_are;
    }
