-- Each deck that bytes spell is sound.
use Rattle.std.proofs.Common.{arith, refl, sym, ap, subst, ◌∙◌, ◌≡◌, ◌≢◌, ◌≤◌, ◌<◌, ◌-◌, ◌==◌, ◌&&◌, ◌||◌, not, true, false, ℕ, zero, suc, [], ◌∷◌, ◌++◌, List, Bool, Option, Some, None, Result, Ok, Err, IfOk, cond, length, map, filter, nat_lt, append-nil, append_assoc, option_to_list, unwrap_or, lit≤}
use Rattle.std.proofs.lemmas.Bool.Decides.{nat_tests}
use Rattle.std.proofs.lemmas.List.{length-map}
use Rattle.std.proofs.lemmas.List.Elements.{All-nil, All-cons, All-filter, All-weaker, filter_passes}
use Rattle.std.proofs.lemmas.List.Folds.{list_any-append}
use Rattle.std.proofs.lemmas.Slice.Eq.{bytes_eq-Decides}
use Rattle.std.specs.List.{All, AllByRecursion, AllPairs, AllZip, list_all, list_any, cons_option}
use Rattle.std.specs.Option.{option_or}
use Rattle.std.specs.Str.{bytes_eq}
use Rattle.std.proofs.lemmas.Bool.{or_parts}
use Rattle.plain_laws.specs.Bools.{false_from_not, true_from_not}
use Rattle.plain_laws.specs.Options.{option_or-both_none}
use Rattle.kdg_text.specs.Lines.{lines_of}
use Rattle.kdg_text.specs.declared.fault.ReadFail.{ReadFail}
use Rattle.kdg_text.specs.Faults.{Numbered, Answers, first_fault, first_fault_after}
use Rattle.kdg_text.specs.FaultLaws.{fits_first, faultless, not_where}
use Rattle.bench_reader.specs.declared.deck.Deck.{Deck}
use Rattle.bench_reader.specs.declared.deck.Form.TheVariants.{Gate, Dff}
use Rattle.bench_reader.specs.declared.deck.GateKind.{GateKind}
use Rattle.bench_reader.specs.declared.deck.GateKind.TheVariants.{Not, Buff}
use Rattle.bench_reader.specs.declared.deck.Signal.{Signal}
use Rattle.bench_reader.specs.declared.outline.Totals.{Totals}
use Rattle.bench_reader.specs.LineForms.{LineForm, InputLine, OutputLine, GateLine, FlipFlopLine, DelayLine, StimulusLine, is_arity, is_bit}
use Rattle.bench_reader.specs.Decks.{said, signal_names, defined_by, input_by, output_by, stimulus_by, signal_by, used_by, names_in, is_among, place_of, firsts, is_long, own_limit, early_fault, late_fault, delay_in, delay_given, signal_delay, deck_with, IsArity, IsWired, IsDelayOf, IsNameLength, IsStimFor, IsDeck, inputs_of}
use Rattle.bench_reader.specs.Grammar.{said_lines, deck_of_lines, deck_of}
use Rattle.bench_reader.specs.Outlines.{IsTotal}
use Rattle.bench_reader.proofs.FanIns.{place_of-within}
use Rattle.bench_reader.proofs.Lines.{IsGood, AreGood, forms_from-good, both_true}
use Rattle.bench_reader.proofs.Tables.{bytes_eq-sym, early_fault-parts, is_new, IsTotal-push, said-push}

-- no name stands twice
abbrev are_distinct : List (List ℕ) → Bool
are_distinct [] = true
are_distinct (name ∷ names) = not (is_among names name) && are_distinct names

are_distinct-push : (names : List (List ℕ)) (name : List ℕ) → are_distinct names ≡ true → is_among names name ≡ false → are_distinct (names ++ name ∷ []) ≡ true
are_distinct-push [] name distinct new = refl
are_distinct-push (first ∷ names) name distinct new =
    let apart = both_true (not (is_among names first)) (are_distinct names) distinct in
    let others = both_false (bytes_eq name first) (is_among names name) new in
    let first_new = false_from_not (is_among names first) apart.0 in
    rw (list_any-append (bytes_eq first) names (name ∷ []), bytes_eq-sym first name, others.0, first_new) (are_distinct-push names name apart.1 others.1)
  where
    both_false : (a b : Bool) → (a || b) ≡ false → (a ≡ false) × (b ≡ false)
    both_false true b h = cc
    both_false false b h = (refl, h)

    false_from_not : (b : Bool) → not b ≡ true → b ≡ false
    false_from_not true h = cc
    false_from_not false h = refl

-- what holds of lines without an early fault
record IsApart (lines : List (Numbered LineForm)) : Type 0 where
  totals : Totals
  total : IsTotal totals lines
  distinct : are_distinct (signal_names lines) ≡ true

IsApart-none : IsApart []
IsApart-none = record {
  totals = record { signals = 0; inputs = 0; stimuli = 0 };
  total = record { signals = refl; inputs = refl; stimuli = refl; few_signals = omega arith; few_inputs = omega arith; few_stimuli = omega arith };
  distinct = refl;
}

distinct-push : (lines : List (Numbered LineForm)) (line : Numbered LineForm) → are_distinct (signal_names lines) ≡ true → early_fault lines line.form ≡ None → are_distinct (signal_names (lines ++ line ∷ [])) ≡ true
distinct-push lines line distinct fits = rw (said-push defined_by lines line) (by_name (defined_by line.form) refl)
  where
    by_name : (o : Option (List ℕ)) → defined_by line.form ≡ o → are_distinct (signal_names lines ++ option_to_list o) ≡ true
    by_name None defines = rw (append-nil (signal_names lines)) distinct
    by_name (Some name) defines = are_distinct-push (signal_names lines) name distinct (is_new lines line.form name defines fits)

IsApart-push : (lines : List (Numbered LineForm)) (line : Numbered LineForm) → IsApart lines → early_fault lines line.form ≡ None → IsApart (lines ++ line ∷ [])
IsApart-push lines line apart fits = record {
  totals = _;
  total = IsTotal-push apart.totals lines line.number line.form apart.total (early_fault-parts lines line.form fits).3;
  distinct = distinct-push lines line apart.distinct fits;
}

IsApart-after : (before rest : List (Numbered LineForm)) → IsApart before → first_fault_after early_fault before rest ≡ None → IsApart (before ++ rest)
IsApart-after before [] apart none = rw (append-nil before) apart
IsApart-after before (line ∷ rest) apart none =
    let fits = fits_first (early_fault before line.form) line.number _ none in
    subst IsApart (append_assoc before (line ∷ []) rest) (IsApart-after (before ++ line ∷ []) rest (IsApart-push before line apart fits.0) fits.1)

abbrev AreWithin : List (Numbered LineForm) → Type 0
AreWithin lines = AllByRecursion (λ (line : Numbered LineForm). own_limit line.form ≡ None) lines

within-after : (before rest : List (Numbered LineForm)) → first_fault_after early_fault before rest ≡ None → AreWithin rest
within-after before [] none = tt
within-after before (line ∷ rest) none =
    let fits = fits_first (early_fault before line.form) line.number _ none in
    ((early_fault-parts before line.form fits.0).2, within-after (before ++ line ∷ []) rest fits.1)

-- none of the lines has a late fault, where these are all lines
abbrev pub AreClosed : List (Numbered LineForm) → List (Numbered LineForm) → Type 0
AreClosed all lines = AllByRecursion (λ (line : Numbered LineForm). late_fault all line.form ≡ None) lines

closed-after : (all before rest : List (Numbered LineForm)) → first_fault_after (λ _. late_fault all) before rest ≡ None → AreClosed all rest
closed-after all before [] none = tt
closed-after all before (line ∷ rest) none =
    let fits = fits_first (late_fault all line.form) line.number _ none in
    (fits.0, closed-after all (before ++ line ∷ []) rest fits.1)

-- the names that a line uses are defined
used-known : (all : List (Numbered LineForm)) (form : LineForm) → late_fault all form ≡ None → list_all (is_among (signal_names all)) (used_by form) ≡ true
used-known all form none = true_from_not _ (not_where _ _ (option_or-both_none _ _ none).0)

places-within : (all names : List (List ℕ)) (n : ℕ) → length all ≡ n → list_all (is_among all) names ≡ true → All (λ number. number < n) (map (place_of all) names)
places-within all [] n count known = All-nil (λ number. number < n)
places-within all (name ∷ names) n count known =
    let tests = both_true (is_among all name) (list_all (is_among all) names) known in
    All-cons (λ number. number < n) (place_of all name) (map (place_of all) names) (let below = place_of-within all name tests.0 in rw (← count) below) (places-within all names n count tests.1)

not_long : (n : ℕ) → nat_lt 64 n ≡ false → n ≤ 64
not_long n h = grind (arith, nat_tests)

not_many : (n : ℕ) → nat_lt 255 n ≡ false → n ≤ 255
not_many n h = grind (arith, nat_tests)

-- the first of a line's names is short
name-short : (form : LineForm) (name : List ℕ) (names : List (List ℕ)) → names_in form ≡ name ∷ names → own_limit form ≡ None → length name ≤ 64
name-short form name names first within =
    let short = not_where _ _ (option_or-both_none _ _ within).0 in
    let each : (is_long name || list_any is_long names) ≡ false = ap (list_any is_long) (sym first) ∙ short in
    not_long (length name) (or_parts (is_long name) (list_any is_long names) each).0

fan_ins-few : (form : LineForm) → own_limit form ≡ None → length (used_by form) ≤ 255
fan_ins-few form within = not_many (length (used_by form)) (not_where _ _ (option_or-both_none _ _ within).1)

one : (n : ℕ) → (n == 1) ≡ true → n ≡ 1
one n h = grind (arith, nat_tests)

arity-fits : (kind : GateKind) (n : ℕ) → is_arity kind n ≡ true → 1 ≤ n → n ≤ 255 → IsArity kind n
arity-fits Not n h low high = one n h
arity-fits Buff n h low high = one n h
arity-fits _ n h low high = (low, high)

abbrev IsWiredSignal : ℕ → Signal → Type 0
IsWiredSignal n signal = IsWired n signal.form

abbrev IsNamed : Signal → Type 0
IsNamed signal = IsNameLength (length signal.name)

gate-wired : (all : List (Numbered LineForm)) (n : ℕ) (name : List ℕ) (kind : GateKind) (fan_in : List (List ℕ)) → length (signal_names all) ≡ n → IsGood (GateLine name kind fan_in)
    → own_limit (GateLine name kind fan_in) ≡ None → late_fault all (GateLine name kind fan_in) ≡ None → IsWired n (Gate kind (map (place_of (signal_names all)) fan_in))
gate-wired all n name kind fan_in count good within closed = (
  rw (length-map fan_in (place_of (signal_names all))) (arity-fits kind (length fan_in) good.1 good.2 (fan_ins-few (GateLine name kind fan_in) within)),
  places-within (signal_names all) fan_in n count (used-known all (GateLine name kind fan_in) closed),
)

flip_flop-wired : (all : List (Numbered LineForm)) (n : ℕ) (name source : List ℕ) → length (signal_names all) ≡ n → late_fault all (FlipFlopLine name source) ≡ None → IsWired n (Dff (place_of (signal_names all) source))
flip_flop-wired all n name source count closed =
    let known = both_true (is_among (signal_names all) source) true (used-known all (FlipFlopLine name source) closed) in
    let below = place_of-within (signal_names all) source known.0 in
    rw (← count) below

signals-wired : (all : List (Numbered LineForm)) (n : ℕ) (lines : List (Numbered LineForm)) → length (signal_names all) ≡ n → AreGood lines → AreWithin lines → AreClosed all lines
    → All (IsWiredSignal n) (said (signal_by (signal_names all)) lines)
signals-wired all n [] count good within closed = All-nil (IsWiredSignal n)
signals-wired all n (line ∷ lines) count good within closed = by_form line.form good.0 within.0 closed.0 (signals-wired all n lines count good.1 within.1 closed.1)
  where
    by_form : (form : LineForm) → IsGood form → own_limit form ≡ None → late_fault all form ≡ None → All (IsWiredSignal n) (said (signal_by (signal_names all)) lines)
        → All (IsWiredSignal n) (cons_option (signal_by (signal_names all) form) (said (signal_by (signal_names all)) lines))
    by_form (InputLine name) good within closed rest = All-cons (IsWiredSignal n) _ _ tt rest
    by_form (GateLine name kind fan_in) good within closed rest = All-cons (IsWiredSignal n) _ _ (gate-wired all n name kind fan_in count good within closed) rest
    by_form (FlipFlopLine name source) good within closed rest = All-cons (IsWiredSignal n) _ _ (flip_flop-wired all n name source count closed) rest
    by_form _ good within closed rest = rest

names-fit : (all : List (List ℕ)) (lines : List (Numbered LineForm)) → AreGood lines → AreWithin lines → All IsNamed (said (signal_by all) lines)
names-fit all [] good within = All-nil IsNamed
names-fit all (line ∷ lines) good within = by_form line.form good.0 within.0 (names-fit all lines good.1 within.1)
  where
    by_form : (form : LineForm) → IsGood form → own_limit form ≡ None → All IsNamed (said (signal_by all) lines) → All IsNamed (cons_option (signal_by all form) (said (signal_by all) lines))
    by_form (InputLine name) good within rest = All-cons IsNamed _ _ (good, name-short (InputLine name) name [] refl within) rest
    by_form (GateLine name kind fan_in) good within rest = All-cons IsNamed _ _ (good.0, name-short (GateLine name kind fan_in) name fan_in refl within) rest
    by_form (FlipFlopLine name source) good within rest = All-cons IsNamed _ _ (good, name-short (FlipFlopLine name source) name (source ∷ []) refl within) rest
    by_form _ good within rest = rest

-- each element and each later one
abbrev Pairs : {X : Type 0} → (X → X → Type 0) → List X → Type 0
Pairs R [] = Unit {0}
Pairs R (x ∷ xs) = All (R x) xs × Pairs R xs

AllPairs-from_pairs : {X : Type 0} (R : X → X → Type 0) (xs : List X) → Pairs R xs → AllPairs R xs
AllPairs-from_pairs R [] pairs i j d before below = absurd (omega arith)
AllPairs-from_pairs R (x ∷ xs) pairs i zero d before below = absurd (omega arith)
AllPairs-from_pairs R (x ∷ xs) pairs zero (suc j) d before below = pairs.0 j d (omega arith)
AllPairs-from_pairs R (x ∷ xs) pairs (suc i) (suc j) d before below = AllPairs-from_pairs R xs pairs.1 i j d (omega arith) (omega arith)

pairs-filter : {X : Type 0} (R : X → X → Type 0) (p : X → Bool) (xs : List X) → Pairs R xs → Pairs R (filter p xs)
pairs-filter R p [] pairs = tt
pairs-filter R p (x ∷ xs) pairs = by_test (p x) (All-filter p (R x) xs pairs.0) (pairs-filter R p xs pairs.1)
  where
    by_test : (b : Bool) → All (R x) (filter p xs) → Pairs R (filter p xs) → Pairs R (cond b (x ∷ filter p xs) (filter p xs))
    by_test true each rest = (each, rest)
    by_test false each rest = rest

abbrev Differs : List ℕ → Signal → Type 0
Differs name later = name ≢ later.name

new-name : (name other : List ℕ) → bytes_eq name other ≡ false → name ≢ other
new-name name other apart same = let clash : true ≡ false = sym ((bytes_eq-Decides name other).1 same) ∙ apart in cc

name-differs : (all : List (List ℕ)) (name : List ℕ) (lines : List (Numbered LineForm)) → is_among (signal_names lines) name ≡ false → All (Differs name) (said (signal_by all) lines)
name-differs all name [] new = All-nil (Differs name)
name-differs all name (line ∷ lines) new = by_form line.form (name-differs all name lines) new
  where
    by_form : (form : LineForm) → (is_among (signal_names lines) name ≡ false → All (Differs name) (said (signal_by all) lines)) → is_among (cons_option (defined_by form) (signal_names lines)) name ≡ false
        → All (Differs name) (cons_option (signal_by all form) (said (signal_by all) lines))
    by_form (InputLine other) rest new =
        let tests = or_parts (bytes_eq name other) (is_among (signal_names lines) name) new in
        All-cons (Differs name) _ _ (new-name name other tests.0) (rest tests.1)
    by_form (GateLine other kind fan_in) rest new =
        let tests = or_parts (bytes_eq name other) (is_among (signal_names lines) name) new in
        All-cons (Differs name) _ _ (new-name name other tests.0) (rest tests.1)
    by_form (FlipFlopLine other source) rest new =
        let tests = or_parts (bytes_eq name other) (is_among (signal_names lines) name) new in
        All-cons (Differs name) _ _ (new-name name other tests.0) (rest tests.1)
    by_form _ rest new = rest new

names-differ : (all : List (List ℕ)) (lines : List (Numbered LineForm)) → are_distinct (signal_names lines) ≡ true → Pairs (λ (signal later : Signal). signal.name ≢ later.name) (said (signal_by all) lines)
names-differ all [] distinct = tt
names-differ all (line ∷ lines) distinct = by_form line.form (names-differ all lines) distinct
  where
    by_form : (form : LineForm) → (are_distinct (signal_names lines) ≡ true → Pairs (λ (signal later : Signal). signal.name ≢ later.name) (said (signal_by all) lines))
        → are_distinct (cons_option (defined_by form) (signal_names lines)) ≡ true → Pairs (λ (signal later : Signal). signal.name ≢ later.name) (cons_option (signal_by all form) (said (signal_by all) lines))
    by_form (InputLine name) rest distinct =
        let tests = both_true (not (is_among (signal_names lines) name)) (are_distinct (signal_names lines)) distinct in
        (name-differs all name lines (false_from_not _ tests.0), rest tests.1)
    by_form (GateLine name kind fan_in) rest distinct =
        let tests = both_true (not (is_among (signal_names lines) name)) (are_distinct (signal_names lines)) distinct in
        (name-differs all name lines (false_from_not _ tests.0), rest tests.1)
    by_form (FlipFlopLine name source) rest distinct =
        let tests = both_true (not (is_among (signal_names lines) name)) (are_distinct (signal_names lines)) distinct in
        (name-differs all name lines (false_from_not _ tests.0), rest tests.1)
    by_form _ rest distinct = rest distinct

firsts-within : (n : ℕ) (numbers : List ℕ) → All (λ number. number < n) numbers → All (λ number. number < n) (firsts numbers)
firsts-within n [] within = within
firsts-within n (number ∷ numbers) within =
    All-cons (λ m. m < n) number (filter (λ m. not (m == number)) (firsts numbers)) (within 0 0 (omega arith))
    (All-filter (λ m. not (m == number)) (λ m. m < n) (firsts numbers) (firsts-within n numbers (λ k d below. within (suc k) d (omega arith))))

differs : (n m : ℕ) → not (m == n) ≡ true → n ≢ m
differs n m h same = grind (arith, nat_tests)

firsts-differ : (numbers : List ℕ) → Pairs (λ number later. number ≢ later) (firsts numbers)
firsts-differ [] = tt
firsts-differ (number ∷ numbers) = (
  All-weaker (λ m. not (m == number) ≡ true) (λ m. number ≢ m) (differs number) _ (filter_passes (λ m. not (m == number)) (firsts numbers)),
  pairs-filter (λ number later. number ≢ later) (λ m. not (m == number)) (firsts numbers) (firsts-differ numbers),
)

outputs-known : (all lines : List (Numbered LineForm)) → AreClosed all lines → list_all (is_among (signal_names all)) (said output_by lines) ≡ true
outputs-known all [] closed = refl
outputs-known all (line ∷ lines) closed = by_form line.form closed.0 (outputs-known all lines closed.1)
  where
    by_form : (form : LineForm) → late_fault all form ≡ None → list_all (is_among (signal_names all)) (said output_by lines) ≡ true
        → list_all (is_among (signal_names all)) (cons_option (output_by form) (said output_by lines)) ≡ true
    by_form (OutputLine name) closed rest =
        let known = both_true (is_among (signal_names all) name) true (used-known all (OutputLine name) closed) in
        rw (known.0, rest) refl
    by_form _ closed rest = rest

bit-small : (byte : ℕ) → is_bit byte ≡ true → byte - 48 ≤ 1
bit-small byte h = grind (arith, nat_tests)

bits-small : (bits : List ℕ) → list_all is_bit bits ≡ true → All (λ bit. bit ≤ 1) (map (λ byte. byte - 48) bits)
bits-small [] all = All-nil (λ bit. bit ≤ 1)
bits-small (byte ∷ bytes) all =
    let tests = both_true (is_bit byte) (list_all is_bit bytes) all in
    All-cons (λ bit. bit ≤ 1) (byte - 48) (map (λ byte. byte - 48) bytes) (bit-small byte tests.0) (bits-small bytes tests.1)

as_many : (m n : ℕ) → not (m == n) ≡ false → m ≡ n
as_many m n h = grind (arith, nat_tests)

stimulus-fits : (all : List (Numbered LineForm)) (n time : ℕ) (bits : List ℕ) → length (said input_by all) ≡ n → IsGood (StimulusLine time bits) → late_fault all (StimulusLine time bits) ≡ None
    → IsStimFor n (record { time = time; bits = map (λ byte. byte - 48) bits })
stimulus-fits all n time bits count good closed =
    let right = as_many (length bits) (length (said input_by all)) (not_where _ _ closed) in
    record {
      not_too_late = good.0;
      one_for_each = length-map bits (λ byte. byte - 48) ∙ right ∙ count;
      zeros_and_ones = bits-small bits good.1;
    }

stimuli-fit : (all : List (Numbered LineForm)) (n : ℕ) (lines : List (Numbered LineForm)) → length (said input_by all) ≡ n → AreGood lines → AreClosed all lines → All (IsStimFor n) (said stimulus_by lines)
stimuli-fit all n [] count good closed = All-nil (IsStimFor n)
stimuli-fit all n (line ∷ lines) count good closed = by_form line.form good.0 closed.0 (stimuli-fit all n lines count good.1 closed.1)
  where
    by_form : (form : LineForm) → IsGood form → late_fault all form ≡ None → All (IsStimFor n) (said stimulus_by lines) → All (IsStimFor n) (cons_option (stimulus_by form) (said stimulus_by lines))
    by_form (StimulusLine time bits) good closed rest = All-cons (IsStimFor n) _ _ (stimulus-fits all n time bits count good closed) rest
    by_form _ good closed rest = rest

-- the delay that good lines give a name
delay-good : (lines : List (Numbered LineForm)) (name : List ℕ) (delay : ℕ) → AreGood lines → delay_given lines name ≡ Some delay → (1 ≤ delay) × (delay ≤ 1000000)
delay-good [] name delay good given = cc
delay-good (line ∷ lines) name delay good given = by_form line.form good.0 (delay-good lines name delay good.1) given
  where
    by_form : (form : LineForm) → IsGood form → (delay_given lines name ≡ Some delay → (1 ≤ delay) × (delay ≤ 1000000)) → option_or (delay_in form name) (delay_given lines name) ≡ Some delay
        → (1 ≤ delay) × (delay ≤ 1000000)
    by_form (DelayLine other its_delay) good rest given = by_test (bytes_eq name other) given
      where
        by_test : (b : Bool) → option_or (cond b (Some its_delay) None) (delay_given lines name) ≡ Some delay → (1 ≤ delay) × (delay ≤ 1000000)
        by_test true given = let same : its_delay ≡ delay = cc in subst (λ (d : ℕ). (1 ≤ d) × (d ≤ 1000000)) same good
        by_test false given = rest given
    by_form _ good rest given = rest given

gate_delay-good : (lines : List (Numbered LineForm)) (name : List ℕ) → AreGood lines → (1 ≤ unwrap_or (delay_given lines name) 1) × (unwrap_or (delay_given lines name) 1 ≤ 1000000)
gate_delay-good lines name good = by_delay (delay_given lines name) refl
  where
    by_delay : (o : Option ℕ) → delay_given lines name ≡ o → (1 ≤ unwrap_or o 1) × (unwrap_or o 1 ≤ 1000000)
    by_delay None given = (lit≤ tt, lit≤ tt)
    by_delay (Some delay) given = delay-good lines name delay good given

delays-fit : (all lines : List (Numbered LineForm)) → AreGood all → AllZip (λ (signal : Signal) (delay : ℕ). IsDelayOf signal.form delay) (said (signal_by (signal_names all)) lines) (said (signal_delay all) lines)
delays-fit all [] good = tt
delays-fit all (line ∷ lines) good = by_form line.form (delays-fit all lines good)
  where
    by_form : (form : LineForm) → AllZip (λ (signal : Signal) (delay : ℕ). IsDelayOf signal.form delay) (said (signal_by (signal_names all)) lines) (said (signal_delay all) lines)
        → AllZip (λ (signal : Signal) (delay : ℕ). IsDelayOf signal.form delay) (cons_option (signal_by (signal_names all) form) (said (signal_by (signal_names all)) lines)) (cons_option (signal_delay all form) (said (signal_delay all) lines))
    by_form (InputLine name) rest = (refl, rest)
    by_form (GateLine name kind fan_in) rest = (gate_delay-good all name good, rest)
    by_form (FlipFlopLine name source) rest = (gate_delay-good all name good, rest)
    by_form _ rest = rest

-- each name that is defined is a signal's
signal-count : (all : List (List ℕ)) (lines : List (Numbered LineForm)) → length (said (signal_by all) lines) ≡ length (signal_names lines)
signal-count all [] = refl
signal-count all (line ∷ lines) = by_form line.form (signal-count all lines)
  where
    by_form : (form : LineForm) → length (said (signal_by all) lines) ≡ length (signal_names lines) → length (cons_option (signal_by all form) (said (signal_by all) lines)) ≡ length (cons_option (defined_by form) (signal_names lines))
    by_form (InputLine name) rest = ap suc rest
    by_form (GateLine name kind fan_in) rest = ap suc rest
    by_form (FlipFlopLine name source) rest = ap suc rest
    by_form _ rest = rest

input-count : (all : List (List ℕ)) (lines : List (Numbered LineForm)) → length (said input_by lines) ≡ length (inputs_of (said (signal_by all) lines))
input-count all [] = refl
input-count all (line ∷ lines) = by_form line.form (input-count all lines)
  where
    by_form : (form : LineForm) → length (said input_by lines) ≡ length (inputs_of (said (signal_by all) lines)) → length (cons_option (input_by form) (said input_by lines)) ≡ length (inputs_of (cons_option (signal_by all form) (said (signal_by all) lines)))
    by_form (InputLine name) rest = ap suc rest
    by_form _ rest = rest

lines-sound : (lines : List (Numbered LineForm)) → AreGood lines → AreWithin lines → AreClosed lines lines → IsApart lines → IsDeck (deck_with lines)
lines-sound lines good within closed apart =
    let all = signal_names lines in
    let signals = said (signal_by all) lines in
    let count = signal-count all lines in
    record {
      wiring = record {
        signal_count = omega (arith, apart.total.signals, apart.total.few_signals, count);
        stimulus_count = omega (arith, apart.total.stimuli, apart.total.few_stimuli);
        wired = signals-wired lines (length signals) lines (sym count) good within closed;
        outputs_in_range = firsts-within (length signals) _ (places-within all (said output_by lines) (length signals) (sym count) (outputs-known lines lines closed));
        outputs_differ = AllPairs-from_pairs (λ (number later : ℕ). number ≢ later) _ (firsts-differ (map (place_of all) (said output_by lines)));
        stimuli_fit = stimuli-fit lines (length (inputs_of signals)) lines (input-count all lines) good closed;
        delays_fit = delays-fit lines lines good;
      };
      name_lengths = names-fit all lines good within;
      names_differ = AllPairs-from_pairs (λ (signal later : Signal). signal.name ≢ later.name) _ (names-differ all lines apart.distinct);
    }

-- each deck that bytes spell is sound
deck_of-sound : (input : List ℕ) (deck : Deck) → deck_of input ≡ Ok deck → IsDeck deck
unfolding deck_of
deck_of-sound input deck spelled =
    let lines = said_lines input in
    let early = faultless (first_fault early_fault lines) (deck_of_lines lines) deck spelled in
    let late = faultless (first_fault (λ _. late_fault lines) lines) (Ok (deck_with lines)) deck early.1 in
    let same : deck_with lines ≡ deck = let made = late.1 in cc in
    subst IsDeck same
    (lines-sound lines (forms_from-good (lines_of input) 1) (within-after [] lines early.0) (closed-after lines [] lines late.0) (IsApart-after [] lines IsApart-none early.0))

pub result-sound : (input : List ℕ) (result : Result Deck ReadFail) → Answers result (deck_of input) → IfOk result IsDeck
result-sound input (Ok deck) given = deck_of-sound input deck given
result-sound input (Err error) given = tt
