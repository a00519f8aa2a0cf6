-- Runs over a source and a sink in memory that never fail.
use Rattle.std.proofs.Common.{◌≡◌, ◌≢◌, ℕ, zero, suc, ◌+◌, ◌<◌, List, ◌++◌, length, take, Some, sym, ◌∙◌, ap, arith, inl, inr, ◌⊎◌, refl, length-append, length-take}
use Rattle.std.proofs.lemmas.Bool.{cond-true, lt-ltb}
use Rattle.outer_edge.specs.Faults.{HasRisen}
use Rattle.outer_edge.specs.Memory.{CleanWriter, clean_faults}
use Rattle.outer_edge.specs.Transfers.{Transfer, HasFailed, transfer_of}
use Rattle.kdg_prog.specs.declared.status.Status.{Status}
use Rattle.kdg_prog.specs.declared.status.Status.TheVariants as status
use Rattle.kdg_prog.specs.declared.words.Options.{Options}
use Rattle.kdg_prog.specs.Answer.{Answer, input_fault, over_budget, whole_print, answer_of}
use Rattle.kdg_prog.specs.Inputs.{Offers, read_of}
use Rattle.kdg_prog.specs.Headline.{IsAnswered, IsAnsweredInMemory, CompletesInMemory, Promises}
use Rattle.kdg_prog.proofs.Promising.{same_input}

never_rises : ¬ HasRisen 0 0
never_rises (inl above) = omega (arith, above)
never_rises (inr last) = omega (arith, last)

-- what the sink took, by the calls made of it
abbrev pub sink_transfer : CleanWriter → CleanWriter → Transfer
sink_transfer before after = transfer_of (λ writer. Some writer.held) clean_faults before after

no_fault_with_room : (writer : CleanWriter) → length writer.held < writer.room → clean_faults writer ≡ 0
no_fault_with_room writer room = cond-true _ _ _ (lt-ltb (length writer.held) writer.room room)

module _ (options : Options) (source : Transfer) (input : List ℕ) (before after : CleanWriter) (answer : Status) (promises : Promises options source (sink_transfer before after) answer)
    (told : Offers options.big source input) (same_room : after.room ≡ before.room) where
  -- where the print fits, it is written
  writes_bytes : (bytes : List ℕ) → answer_of options input ≡ whole_print bytes → (answer ≡ status.Ok) ⊎ ((answer ≡ status.WriteFault) × HasFailed (sink_transfer before after))
      → length before.held + length bytes < before.room → (answer ≡ status.Ok) × (after.held ≡ before.held ++ bytes)
  writes_bytes bytes is (inl ok) fits =
      let written = promises.print ok in
      let same : written.1.0 ≡ input = same_input options.big source written.1.0 input written.1.1 told in
      let prints : whole_print written.0 ≡ whole_print bytes = sym written.1.2 ∙ ap (answer_of options) same ∙ is in
      let whole : written.0 ≡ bytes = cc in
      (ok, written.2 ∙ ap (λ l. before.held ++ l) whole)
  writes_bytes bytes is (inr fault) fits =
      let cut = promises.written fault.0 in
      let same : cut.1.0 ≡ input = same_input options.big source cut.1.0 input cut.1.1 told in
      let prints : whole_print cut.0 ≡ whole_print bytes = sym cut.1.2 ∙ ap (answer_of options) same ∙ is in
      let whole : cut.0 ≡ bytes = cc in
      let longer = ap length cut.2.2 in
      let within : length after.held < after.room = omega (arith, longer, length-append before.held (take cut.2.0 cut.0), length-take cut.2.0 cut.0, cut.2.1, ap length whole, fits, same_room) in
      let room : length before.held < before.room = omega (arith, fits) in
      let none : HasRisen 0 0 = (λ (risen : HasRisen (clean_faults before) (clean_faults after)). rw (no_fault_with_room before room, no_fault_with_room after within) at risen) fault.1 in
      absurd (never_rises none)

  by_answer : (is : Answer) → answer_of options input ≡ is → IsAnswered options (sink_transfer before after) is answer → IsAnsweredInMemory options before after is answer
  by_answer (input_fault fault) is answered = answered
  by_answer over_budget is answered = answered
  by_answer (whole_print bytes) is answered = writes_bytes bytes is answered

  pub completes_in_memory : source.faults_before ≡ 0 → source.faults_after ≡ 0 → answer ≢ status.NoMemory → CompletesInMemory options input before after answer
  completes_in_memory none still room =
      let no_fault : ¬ HasFailed source = λ failed. never_rises (rw (none, still) at failed) in
      let complete = promises.complete no_fault room input told in record {
        large = complete.0;
        small = λ small. by_answer (answer_of options input) refl (complete.1 small);
      }

-- a source that tells its bytes offers those of them that are read
pub offers_read : (big : ℕ) (source : Transfer) (bytes : List ℕ) → source.before ≡ Some bytes → Offers big source (read_of big bytes)
offers_read zero source bytes told = told
offers_read (suc big) source bytes told = refl
