-- The lists of readers, one fan-in and one gate further.
use Rattle.std.proofs.Common.{◌≡◌, ◌∙◌, ℕ, ◌+◌, ◌-◌, ◌<◌, Bool, true, false, List, [], ◌∷◌, ◌++◌, Option, Some, All, length, replicate, take, set, get_or, length-set, ap, sym, subst, refl, ⊎_elim, arith}
use Rattle.std.specs.Prelude.{◌==◌, ◌||◌, if◌then◌else◌}
use Rattle.std.specs.Option.{option_map_or}
use Rattle.std.proofs.lemmas.Bool.{cases_eq, eq-eqb, ne_eqb, false≢true}
use Rattle.std.proofs.lemmas.List.{append-nil, get_or_read, get_or-replicate, get_or-set_other, get_or-set_same, get_or_push, length-replicate, length_push}
use Rattle.std.proofs.lemmas.List.Elements.{All-from_get_or, All-from_recursion, All-same}
use Rattle.std.proofs.lemmas.List.Folds.{list_any_more}
use Rattle.std.proofs.lemmas.Option.{slice_get-get_or}
use Rattle.plain_laws.specs.Bools.{or_true, or_false}
use Rattle.bench_reader.specs.Decks.{IsWired}
use Rattle.bench_reader.specs.declared.deck.Form.{Form}
use Rattle.bench_reader.specs.declared.deck.Form.TheVariants.{Input, Gate, Dff}
use Rattle.bench_reader.specs.declared.deck.Signal.{Signal}
use Rattle.logic_sim.specs.Laws.{filter_range}
use Rattle.logic_sim.specs.Tables.{AddsReader, ListsReaders, last_is, with_reader}
use Rattle.logic_sim.specs.Wiring.{watched_by, is_among, readers_among, reads}
use Rattle.logic_sim.proofs.Ranges.{readers_among-more}

last_is-push : (gate : ℕ) (gates : List ℕ) → last_is gate (gates ++ gate ∷ []) ≡ true
last_is-push gate gates =
    let long : length (gates ++ gate ∷ []) ≡ length gates + 1 = length_push gates gate in
    ap (λ (last : Option ℕ). option_map_or (λ other. other == gate) last false)
    (slice_get-get_or (gates ++ gate ∷ []) (length (gates ++ gate ∷ []) - 1) 0 (omega arith)
    ∙ ap Some (get_or_push gates gate 0 (length (gates ++ gate ∷ []) - 1) (omega arith)))
    ∙ eq-eqb gate gate refl

last_is-below : (gate : ℕ) (gates : List ℕ) → All (λ other. other < gate) gates → last_is gate gates ≡ false
last_is-below gate [] below = refl
last_is-below gate (first ∷ others) below =
    let gates : List ℕ = first ∷ others in
    let long : 0 < length gates = omega arith in
    let last_below : get_or gates (length gates - 1) 0 < gate = below (length gates - 1) 0 (omega arith) in
    ap (λ (last : Option ℕ). option_map_or (λ other. other == gate) last false) (slice_get-get_or gates (length gates - 1) 0 (omega arith))
    ∙ ne_eqb (get_or gates (length gates - 1) 0) gate (λ same. omega arith)

-- a list that doesn't end with the gate hasn't got it
pushed : (added : Bool) (old gates : List ℕ) (gate : ℕ) → gates ≡ old ++ (if added then gate ∷ [] else []) → last_is gate gates ≡ false → gates ++ gate ∷ [] ≡ old ++ gate ∷ []
pushed true old gates gate is absent = absurd (false≢true (sym absent ∙ ap (last_is gate) is ∙ last_is-push gate old))
pushed false old gates gate is absent = ap (λ (zs : List ℕ). zs ++ gate ∷ []) (is ∙ append-nil old)

-- a list that ends with the gate has got it
kept : (added : Bool) (old gates : List ℕ) (gate : ℕ) → All (λ other. other < gate) old → gates ≡ old ++ (if added then gate ∷ [] else []) → last_is gate gates ≡ true → gates ≡ old ++ gate ∷ []
kept true old gates gate below is present = is
kept false old gates gate below is present = absurd (false≢true (sym (last_is-below gate old below) ∙ ap (last_is gate) (sym (is ∙ append-nil old)) ∙ present))

is_among-more : (fan_in : List ℕ) (k number : ℕ) → k < length fan_in → is_among (take (k + 1) fan_in) number ≡ (is_among (take k fan_in) number || (get_or fan_in k 0 == number))
is_among-more fan_in k number below = list_any_more (λ other. other == number) fan_in k 0 below

is_among-same : (fan_in : List ℕ) (k number : ℕ) → k < length fan_in → get_or fan_in k 0 ≡ number → is_among (take (k + 1) fan_in) number ≡ true
is_among-same fan_in k number below same =
    is_among-more fan_in k number below ∙ ap (λ (b : Bool). is_among (take k fan_in) number || b) (eq-eqb (get_or fan_in k 0) number same) ∙ or_true _

is_among-other : (fan_in : List ℕ) (k number : ℕ) → k < length fan_in → (get_or fan_in k 0 ≡ number → ⊥) → is_among (take (k + 1) fan_in) number ≡ is_among (take k fan_in) number
is_among-other fan_in k number below other =
    is_among-more fan_in k number below ∙ ap (λ (b : Bool). is_among (take k fan_in) number || b) (ne_eqb (get_or fan_in k 0) number other) ∙ or_false _

-- the signal's list has the gate at its end from now on
pub AddsReader-more : (old table : List (List ℕ)) (fan_in : List ℕ) (k gate : ℕ) (gates : List ℕ) → k < length fan_in → get_or fan_in k 0 < length old →
    gates ≡ get_or old (get_or fan_in k 0) [] ++ gate ∷ [] → AddsReader old (take k fan_in) gate table → AddsReader old (take (k + 1) fan_in) gate (set table (get_or fan_in k 0) gates)
AddsReader-more old table fan_in k gate gates below in_range is so_far = record {
  count = length-set table (get_or fan_in k 0) gates ∙ so_far.count;
  each = λ number here. ⊎_elim
      (λ (same : get_or fan_in k 0 ≡ number).
      subst (λ (n : ℕ). get_or (set table (get_or fan_in k 0) gates) n [] ≡ with_reader (take (k + 1) fan_in) gate (get_or old n []) n) same
      (get_or-set_same table (get_or fan_in k 0) gates [] (omega (arith, so_far.count))
      ∙ is
      ∙ ap (λ (b : Bool). get_or old (get_or fan_in k 0) [] ++ (if b then gate ∷ [] else [])) (sym (is_among-same fan_in k (get_or fan_in k 0) below refl))))
      (λ (other : get_or fan_in k 0 ≡ number → ⊥).
      get_or-set_other table (get_or fan_in k 0) number gates [] (λ same. other (sym same))
      ∙ so_far.each number here
      ∙ ap (λ (b : Bool). get_or old number [] ++ (if b then gate ∷ [] else [])) (sym (is_among-other fan_in k number below other)))
      (cases_eq (get_or fan_in k 0) number);
}

-- a list that doesn't end with the gate gets it
pub AddsReader-pushed : (old table : List (List ℕ)) (fan_in : List ℕ) (k gate : ℕ) (gates : List ℕ) → k < length fan_in → get_or fan_in k 0 < length old →
    gates ≡ get_or table (get_or fan_in k 0) gates → last_is gate gates ≡ false → AddsReader old (take k fan_in) gate table → AddsReader old (take (k + 1) fan_in) gate (set table (get_or fan_in k 0) (gates ++ gate ∷ []))
AddsReader-pushed old table fan_in k gate gates below in_range is absent so_far =
    AddsReader-more old table fan_in k gate (gates ++ gate ∷ []) below in_range
    (pushed (is_among (take k fan_in) (get_or fan_in k 0)) (get_or old (get_or fan_in k 0) []) gates gate
    (get_or_read table (get_or fan_in k 0) gates (omega (arith, so_far.count)) is [] ∙ so_far.each (get_or fan_in k 0) in_range) absent)
    so_far

-- one that does has got it
pub AddsReader-kept : (old table : List (List ℕ)) (fan_in : List ℕ) (k gate : ℕ) (gates : List ℕ) → k < length fan_in → get_or fan_in k 0 < length old → All (λ list. All (λ other. other < gate) list) old →
    gates ≡ get_or table (get_or fan_in k 0) gates → last_is gate gates ≡ true → AddsReader old (take k fan_in) gate table → AddsReader old (take (k + 1) fan_in) gate (set table (get_or fan_in k 0) gates)
AddsReader-kept old table fan_in k gate gates below in_range earlier is present so_far =
    AddsReader-more old table fan_in k gate gates below in_range
    (kept (is_among (take k fan_in) (get_or fan_in k 0)) (get_or old (get_or fan_in k 0) []) gates gate (earlier (get_or fan_in k 0) [] in_range)
    (get_or_read table (get_or fan_in k 0) gates (omega (arith, so_far.count)) is [] ∙ so_far.each (get_or fan_in k 0) in_range) present)
    so_far

-- at first no list has a gate
pub ListsReaders-none : (signals : List Signal) → ListsReaders signals 0 (replicate (length signals) [])
ListsReaders-none signals = record {
  count = length-replicate (length signals) [];
  each = λ number here. get_or-replicate (length signals) number [] [] here;
}

-- the lists have gates before the next one alone
pub ListsReaders-earlier : (signals : List Signal) (n : ℕ) (table : List (List ℕ)) → ListsReaders signals n table → All (λ gates. All (λ other. other < n) gates) table
ListsReaders-earlier signals n table so_far =
    All-from_get_or (λ gates. All (λ other. other < n) gates) table []
    (λ number here. All-same (λ other. other < n) (get_or table number []) (readers_among signals n number) (so_far.each number (omega (arith, so_far.count)))
    (All-from_recursion (λ other. other < n) (readers_among signals n number) (filter_range (λ other. other < n) (reads signals number) 0 n (λ z below reads_it. omega arith))))

-- a further signal is in the lists of those that it watches
pub ListsReaders-more : (signals : List Signal) (n : ℕ) (signal : Signal) (fan_in : List ℕ) (old new : List (List ℕ)) → n < length signals → signal ≡ get_or signals n signal → watched_by signal.form ≡ fan_in →
    ListsReaders signals n old → AddsReader old fan_in n new → ListsReaders signals (n + 1) new
ListsReaders-more signals n signal fan_in old new below is reads_these so_far adds = record {
  count = adds.count ∙ so_far.count;
  each = λ number here.
      adds.each number (omega (arith, so_far.count))
      ∙ ap (λ (gates : List ℕ). with_reader fan_in n gates number) (so_far.each number here)
      ∙ sym (readers_among-more signals n signal fan_in number below is reads_these);
}

-- the signals that a signal watches
pub wired_watched : (signals : List Signal) (n : ℕ) (signal : Signal) → All (λ (s : Signal). IsWired (length signals) s.form) signals → n < length signals → signal ≡ get_or signals n signal
    → All (λ number. number < length signals) (watched_by signal.form)
wired_watched signals n signal wired below is = known signal.form (subst (λ (s : Signal). IsWired (length signals) s.form) (sym is) (wired n signal below))
  where
    known : (form : Form) → IsWired (length signals) form → All (λ number. number < length signals) (watched_by form)
    known Input wires = All-from_recursion (λ number. number < length signals) [] tt
    known (Gate kind fan_in) wires = wires.1
    known (Dff source) wires = All-from_recursion (λ number. number < length signals) [] tt
