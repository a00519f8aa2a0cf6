-- What a sink has got of a text, from the first piece on.
use Rattle.std.proofs.Common.{arith, ◌≡◌, ℕ, ◌+◌, ◌≤◌, Bool, true, false, List, [], ◌++◌, append-nil, append_assoc, length, take, length-append, Option, refl, sym, ap, subst, ◌∙◌}
use Rattle.std.proofs.Math.Seq.{take-append-add}
use Rattle.std.proofs.lemmas.Bool.{true≢false}
use Rattle.std.proofs.lemmas.List.{take-append-le}
use Rattle.std.specs.Io.KnownBytes.{Appends}
use Rattle.std.proofs.KnownBytes.{Appends-nil}
use Rattle.outer_edge.specs.Transfers.{Transfer, transfer_of}
use Rattle.outer_edge.specs.Writing.{AppendsFront}
use Rattle.text_outlet.specs.declared.outlet.Outlet.{Outlet}
use Rattle.text_outlet.specs.Sending.{HasTold, IsSent, IsWritten, TellsMore}

-- all of the front of a text
front_of : (a b : Option (List ℕ)) (front rest text : List ℕ) → text ≡ front ++ rest → Appends a b front → AppendsFront a b text
front_of a b front rest text whole first =
    let within : length front + 0 ≤ length text = omega (arith, ap length whole, length-append front rest) in
    let taken : take (length front + 0) text ≡ front = ap (take (length front + 0)) whole ∙ take-append-add front rest 0 ∙ append-nil front in
    (length front + 0, within, subst (Appends a b) (sym taken) first)

-- nothing yet
pub nothing_sent : (known : Option (List ℕ)) (faults : ℕ) → Appends known known [] → IsSent (record { before = known; after = known; faults_before = faults; faults_after = faults }) false [] []
nothing_sent known faults nothing = record {
  so_far = λ none. ([], refl, (nothing, refl));
  since = λ failed. absurd (true≢false (sym failed));
  never_falls = omega arith;
}

-- an outlet that holds nothing has told nothing yet
pub first_told : {K : Type 0} (known : K → Option (List ℕ)) (faults : K → ℕ) (outlet : Outlet) (sink : K) → outlet.held ≡ [] → outlet.has_failed ≡ false → HasTold known faults sink outlet sink []
first_told known faults outlet sink held none =
    subst (λ h. IsSent (transfer_of known faults sink sink) outlet.has_failed h []) (sym held)
    (subst (λ b. IsSent (transfer_of known faults sink sink) b [] []) (sym none) (nothing_sent (known sink) (faults sink) (Appends-nil (known sink))))

-- ---- what is told by and by

module _ {K : Type 0} (known : K → Option (List ℕ)) (faults : K → ℕ) where
  pub tells_none : (outlet : Outlet) (sink : K) → TellsMore known faults outlet sink outlet sink []
  tells_none outlet sink begin text told = subst (HasTold known faults begin outlet sink) (sym (append-nil text)) told

  pub tells_both : (outlet next last : Outlet) (sink next_sink last_sink : K) (first second : List ℕ) → TellsMore known faults outlet sink next next_sink first
      → TellsMore known faults next next_sink last last_sink second → TellsMore known faults outlet sink last last_sink (first ++ second)
  tells_both outlet next last sink next_sink last_sink first second one two begin text told =
      subst (HasTold known faults begin last last_sink) (append_assoc text first second) (two begin (text ++ first) (one begin text told))

  -- nothing that matters to the sink has changed
  pub tells_same : (outlet next : Outlet) (sink next_sink : K) → next.held ≡ outlet.held → next.has_failed ≡ outlet.has_failed → next_sink ≡ sink → TellsMore known faults outlet sink next next_sink []
  tells_same outlet next sink next_sink held failed same begin text told =
      subst (λ (s : K). IsSent (transfer_of known faults begin s) next.has_failed next.held (text ++ [])) (sym same)
      (subst (λ b. IsSent (transfer_of known faults begin sink) b next.held (text ++ [])) (sym failed)
      (subst (λ h. IsSent (transfer_of known faults begin sink) outlet.has_failed h (text ++ [])) (sym held) (tells_none outlet sink begin text told)))

  -- a piece more
  pub tells_on : (outlet next last : Outlet) (sink next_sink last_sink : K) (first second all : List ℕ) → TellsMore known faults outlet sink next next_sink first
      → TellsMore known faults next next_sink last last_sink second → all ≡ first ++ second → TellsMore known faults outlet sink last last_sink all
  tells_on outlet next last sink next_sink last_sink first second all one two is =
      subst (TellsMore known faults outlet sink last last_sink) (sym is) (tells_both outlet next last sink next_sink last_sink first second one two)

-- ---- what is written

pub all_written : (transfer : Transfer) (failed : Bool) (text : List ℕ) → IsSent transfer failed [] text → IsWritten transfer failed text
all_written transfer false text sent =
    let so = sent.so_far refl in
    subst (IsWritten transfer false) (sym (so.1 ∙ append-nil so.0)) so.2
all_written transfer true text sent = sent.since refl

pub front_written : (transfer : Transfer) (failed : Bool) (held told rest text : List ℕ) → text ≡ told ++ rest → IsSent transfer failed held told → AppendsFront transfer.before transfer.after text
front_written transfer false held told rest text whole sent =
    let so = sent.so_far refl in
    front_of transfer.before transfer.after so.0 (held ++ rest) text (whole ∙ ap (λ front. front ++ rest) so.1 ∙ append_assoc so.0 held rest) so.2.0
front_written transfer true held told rest text whole sent =
    let front = (sent.since refl).1 in (
      front.0,
      omega (arith, front.1, ap length whole, length-append told rest),
      subst (Appends transfer.before transfer.after) (sym (ap (take front.0) whole ∙ take-append-le front.0 told rest front.1)) front.2,
    )
