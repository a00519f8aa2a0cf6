-- What a run that writes to a sink answers, by what it has told.
use Rattle.std.proofs.Common.{◌≡◌, ℕ, Bool, true, false, List, [], ◌++◌, append-nil, Some, refl, sym, ap, subst, ◌∙◌}
use Rattle.std.proofs.lemmas.Bool.{true≢false}
use Rattle.std.specs.Io.KnownBytes.{Appends}
use Rattle.cell_store.specs.Values.{homes, values_of}
use Rattle.outer_edge.specs.Transfers.{Transfer}
use Rattle.app_laws.specs.Applications.{Application}
use Rattle.app_laws.specs.declared.serial_run.Finals.{Finals}
use Rattle.run_laws.specs.Progress.{Progress}
use Rattle.source_pool.specs.Runs.{IsOverLimit}
use Rattle.source_pool.specs.Streams as rounds
use Rattle.source_pool.specs.Streams.{TakesFront}
use Rattle.source_pool.specs.TellingLaws.{AllIsWritten, FrontsAreWritten}
use Rattle.text_outlet.specs.Sending.{IsSent, IsWritten}
use Rattle.free_pool.specs.Runs.{IsRunEnd, end_of_rounds}
use Rattle.free_pool.specs.Streams.{IsFrontTold, IsStreamEnd, IsStreamOver, IsToldEnd}

module _ {V : Type 0} (app : Application V) (start : Progress V) (transfer : Transfer) where
  -- ---- by rounds, of which none is counted

  pub uncounted_end : (finals : Finals V) (number : ℕ) (failed : Bool) → rounds.IsStreamEnd app start transfer finals number failed → IsStreamEnd app start transfer finals 0 failed
  uncounted_end finals number failed is = record {
    whole = is.whole;
    end = end_of_rounds app start is.whole number is.end;
    uncounted = refl;
    text = is.text;
    behind = is.behind;
    written = is.written;
    all = is.all;
  }

  pub uncounted_over : (created limit : ℕ) (failed : Bool) → rounds.IsStreamOver app start transfer created limit failed → IsStreamOver app start transfer created limit failed
  uncounted_over created limit failed is = record { over = is.over; front = is.front; fault = is.fault; no_fault = λ none. (is.kept none).written.1 }

  -- ---- by what was told

  pub stream_end : AllIsWritten → (told : List ℕ) (failed : Bool) (finals : Finals V) → IsToldEnd app start told finals → IsSent transfer failed [] told → (failed ≡ false → finals.text ≡ [])
      → IsStreamEnd app start transfer finals 0 failed
  stream_end writes told failed finals end sent all = record {
    whole = end.whole;
    end = end.end;
    uncounted = refl;
    text = told;
    behind = end.behind;
    written = writes transfer failed told sent;
    all = all;
  }

  -- where a write has failed before
  pub lost_end : (told held : List ℕ) (finals : Finals V) → IsToldEnd app start told finals → IsSent transfer true held told → IsStreamEnd app start transfer finals 0 true
  lost_end told held finals end sent = record {
    whole = end.whole;
    end = end.end;
    uncounted = refl;
    text = told;
    behind = end.behind;
    written = sent.since refl;
    all = λ none. absurd (true≢false none);
  }

  pub stream_over : AllIsWritten → FrontsAreWritten → (told : List ℕ) (created limit : ℕ) (failed : Bool) → IsOverLimit app start created limit → IsFrontTold app start told → IsSent transfer failed [] told
      → IsStreamOver app start transfer created limit failed
  stream_over writes fronts told created limit failed over front sent = record {
    over = over;
    front = fronts transfer failed [] told front.0 _ front.1 sent;
    fault = λ is. (sent.since is).0;
    no_fault = λ none. (subst (λ b. IsWritten transfer b told) none (writes transfer failed told sent)).1;
  }

  pub stream_front : FrontsAreWritten → (told held : List ℕ) (failed : Bool) → IsFrontTold app start told → IsSent transfer failed held told → TakesFront app start transfer
  stream_front fronts told held failed front sent = fronts transfer failed held told front.0 _ front.1 sent

-- cells that are all home are the application's, where their values are
pub fit_at_home : {V : Type 0} (app : Application V) (finals : Finals V) (values : List V) → values_of (homes values) ≡ values → finals.store ≡ homes values → app.is_fit_cells values → app.is_fit_cells (values_of finals.store)
fit_at_home {V} app finals values same home fit = subst (λ (cells : List V). app.is_fit_cells cells) (sym (ap values_of home ∙ same)) fit

-- where all went into an empty text, that text is the run's
pub text_end : {V : Type 0} (app : Application V) (start : Progress V) (transfer : Transfer) (text : List ℕ) (finals : Finals V) (rounds : ℕ) → transfer.before ≡ Some [] → transfer.after ≡ Some text
    → IsStreamEnd app start transfer finals rounds false → IsRunEnd app start (record finals { text = text })
text_end app start transfer text finals rounds before after stream =
    let written : Appends (Some []) (Some text) stream.text = subst (λ known. Appends known (Some text) stream.text) before (subst (λ known. Appends transfer.before known stream.text) after stream.written.0) in
    let whole : stream.whole.text ≡ text = stream.behind.text_is ∙ ap (λ rest. stream.text ++ rest) (stream.all refl) ∙ append-nil stream.text ∙ sym written in
    let end = stream.end in
    record {
      last = end.last;
      is_end = end.is_end;
      store = sym stream.behind.store ∙ end.store;
      text = sym whole ∙ end.text;
      count = sym stream.behind.count ∙ end.count;
    }
