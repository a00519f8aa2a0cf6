-- What holds of a line by its bytes alone.
use Rattle.std.proofs.Common.{arith, refl, subst, ◌≡◌, ◌≤◌, ◌&&◌, true, false, ℕ, [], ◌∷◌, List, Bool, Option, Some, None, Result, Ok, Err, cond, length, nat_le}
use Rattle.std.proofs.lemmas.Bool.Decides.{nat_tests}
use Rattle.std.specs.List.{AllByRecursion, list_all}
use Rattle.std.specs.Option.{option_map_or}
use Rattle.std.specs.Str.{bytes_eq}
use Rattle.kdg_text.specs.declared.number.NumFault.{NumFault}
use Rattle.kdg_text.specs.Faults.{Numbered, before_comment, forms_from}
use Rattle.kdg_text.specs.Numbers.{u64_of}
use Rattle.kdg_text.specs.Tokens.{tokens_of, spells}
use Rattle.bench_reader.specs.declared.deck.GateKind.{GateKind}
use Rattle.bench_reader.specs.Faults.{syntax, unsupported, unknown_kind, arity, bad_number}
use Rattle.bench_reader.specs.LineForms.{comment, LineForm, InputLine, OutputLine, GateLine, FlipFlopLine, DelayLine, StimulusLine, FaultyLine, marks, is_word, is_name, is_text_byte, kind_of, is_flip_flop, is_unsupported, is_constant, is_arity, is_bit, are_names, names_among, declaration_of, declared_by, flip_flop_of, other_kind, gate_of, gate_by, latest_stimulus, stimulus_at, stimulus_by, longest_delay, delay_at, delay_by, form_by, form_of_tokens, form_of_text, form_of}

-- what a form has that a line says
abbrev pub IsGood : LineForm → Type 0
IsGood (InputLine name) = 1 ≤ length name
IsGood (OutputLine name) = Unit {0}
IsGood (GateLine name kind fan_in) = (1 ≤ length name) × (is_arity kind (length fan_in) ≡ true) × (1 ≤ length fan_in)
IsGood (FlipFlopLine name source) = 1 ≤ length name
IsGood (DelayLine name delay) = (1 ≤ delay) × (delay ≤ 1000000)
IsGood (StimulusLine time bits) = (time ≤ 1000000000) × (list_all is_bit bits ≡ true)
IsGood (FaultyLine fault) = Unit {0}

pub both_true : (a b : Bool) → (a && b) ≡ true → (a ≡ true) × (b ≡ true)
both_true true b h = (refl, h)
both_true false b h = cc

chosen : (test : Bool) (x y : LineForm) → (test ≡ true → IsGood x) → IsGood y → IsGood (cond test x y)
chosen true x y good other = good refl
chosen false x y good other = other

named : (name : List ℕ) → is_name name ≡ true → 1 ≤ length name
named [] h = cc
named (byte ∷ bytes) h = omega arith

some_names : (tokens : List (List ℕ)) → are_names tokens ≡ true → 1 ≤ length (names_among tokens)
some_names [] h = cc
some_names (name ∷ []) h = cc
some_names (name ∷ mark ∷ []) h = omega arith
some_names (name ∷ mark ∷ next ∷ more) h = omega arith

declaration_of-good : (word name : List ℕ) → 1 ≤ length name → IsGood (declaration_of word name)
declaration_of-good word name some =
    chosen (spells word (105 ∷ 110 ∷ 112 ∷ 117 ∷ 116 ∷ [])) (InputLine name) _ (λ h. some)
    (chosen (spells word (111 ∷ 117 ∷ 116 ∷ 112 ∷ 117 ∷ 116 ∷ [])) (OutputLine name) (FaultyLine syntax) (λ h. tt) tt)

declared_by-good : (word : List ℕ) (tokens : List (List ℕ)) → IsGood (declared_by word tokens)
declared_by-good word [] = tt
declared_by-good word (name ∷ []) = tt
declared_by-good word (name ∷ mark ∷ []) =
    chosen (is_name name && bytes_eq mark (41 ∷ [])) (declaration_of word name) (FaultyLine syntax)
    (λ h. declaration_of-good word name (named name (both_true (is_name name) (bytes_eq mark (41 ∷ [])) h).0)) tt
declared_by-good word (name ∷ mark ∷ next ∷ more) = tt

flip_flop_of-good : (name : List ℕ) (fan_in : List (List ℕ)) → 1 ≤ length name → IsGood (flip_flop_of name fan_in)
flip_flop_of-good name [] some_name = tt
flip_flop_of-good name (source ∷ []) some_name = some_name
flip_flop_of-good name (source ∷ other ∷ more) some_name = tt

other_kind-good : (name word : List ℕ) (fan_in : List (List ℕ)) → 1 ≤ length name → IsGood (other_kind name word fan_in)
other_kind-good name word fan_in some_name =
    chosen (is_flip_flop word) (flip_flop_of name fan_in) _ (λ h. flip_flop_of-good name fan_in some_name)
    (chosen (is_unsupported word) (FaultyLine unsupported) (FaultyLine unknown_kind) (λ h. tt) tt)

gate_of-good : (name word : List ℕ) (fan_in : List (List ℕ)) (kind : Option GateKind) → 1 ≤ length name → 1 ≤ length fan_in → IsGood (gate_of name word fan_in kind)
gate_of-good name word fan_in None some_name some = other_kind-good name word fan_in some_name
gate_of-good name word fan_in (Some kind) some_name some = chosen (is_arity kind (length fan_in)) (GateLine name kind fan_in) (FaultyLine arity) (λ h. (some_name, h, some)) tt

gate_by-good : (name : List ℕ) (tokens : List (List ℕ)) → IsGood (gate_by name tokens)
gate_by-good name [] = tt
gate_by-good name (word ∷ []) = chosen (is_name name && is_constant word) (FaultyLine unsupported) (FaultyLine syntax) (λ h. tt) tt
gate_by-good name (word ∷ mark ∷ tokens) =
    chosen (is_name name && is_word word && bytes_eq mark (40 ∷ []) && are_names tokens) (gate_of name word (names_among tokens) (kind_of word)) (FaultyLine syntax)
    (λ h.
    let last = both_true (is_name name && is_word word && bytes_eq mark (40 ∷ [])) (are_names tokens) h in
    let front = both_true (is_name name && is_word word) (bytes_eq mark (40 ∷ [])) last.0 in
    gate_of-good name word (names_among tokens) (kind_of word) (named name (both_true (is_name name) (is_word word) front.0).0) (some_names tokens last.1)) tt

in_time : (time : ℕ) → nat_le time 1000000000 ≡ true → time ≤ 1000000000
in_time time h = grind (arith, nat_tests)

stimulus_at-good : (time : Result ℕ NumFault) (bits : List ℕ) → list_all is_bit bits ≡ true → IsGood (stimulus_at time bits)
stimulus_at-good (Ok time) bits all = chosen (nat_le time latest_stimulus) (StimulusLine time bits) (FaultyLine bad_number) (λ h. (in_time time h, all)) tt
stimulus_at-good (Err fault) bits all = tt

stimulus_by-good : (time : List ℕ) (tokens : List (List ℕ)) → IsGood (stimulus_by time tokens)
stimulus_by-good time [] = tt
stimulus_by-good time (bits ∷ []) = chosen (list_all is_bit bits) (stimulus_at (u64_of time) bits) (FaultyLine syntax) (λ h. stimulus_at-good (u64_of time) bits h) tt
stimulus_by-good time (bits ∷ next ∷ more) = tt

in_delays : (delay : ℕ) → (nat_le 1 delay && nat_le delay 1000000) ≡ true → (1 ≤ delay) × (delay ≤ 1000000)
in_delays delay h =
    let tests = both_true (nat_le 1 delay) (nat_le delay 1000000) h in
    (low delay tests.0, high delay tests.1)
  where
    low : (delay : ℕ) → nat_le 1 delay ≡ true → 1 ≤ delay
    low delay h = grind (arith, nat_tests)

    high : (delay : ℕ) → nat_le delay 1000000 ≡ true → delay ≤ 1000000
    high delay h = grind (arith, nat_tests)

delay_at-good : (name : List ℕ) (delay : Result ℕ NumFault) → IsGood (delay_at name delay)
delay_at-good name (Ok delay) = chosen (nat_le 1 delay && nat_le delay longest_delay) (DelayLine name delay) (FaultyLine bad_number) (λ h. in_delays delay h) tt
delay_at-good name (Err fault) = tt

delay_by-good : (name : List ℕ) (tokens : List (List ℕ)) → IsGood (delay_by name tokens)
delay_by-good name [] = tt
delay_by-good name (number ∷ []) = chosen (is_name name) (delay_at name (u64_of number)) (FaultyLine syntax) (λ h. delay_at-good name (u64_of number)) tt
delay_by-good name (number ∷ next ∷ more) = tt

form_by-good : (first : List ℕ) (tokens : List (List ℕ)) → IsGood (form_by first tokens)
form_by-good first [] = tt
form_by-good first (second ∷ tokens) =
    chosen (bytes_eq first (64 ∷ [])) (stimulus_by second tokens) _ (λ h. stimulus_by-good second tokens)
    (chosen (spells first (64 ∷ 100 ∷ 101 ∷ 108 ∷ 97 ∷ 121 ∷ [])) (delay_by second tokens) _ (λ h. delay_by-good second tokens)
    (chosen (bytes_eq second (40 ∷ [])) (declared_by first tokens) _ (λ h. declared_by-good first tokens)
    (chosen (bytes_eq second (61 ∷ [])) (gate_by first tokens) (FaultyLine syntax) (λ h. gate_by-good first tokens) tt)))

form_of_tokens-good : (tokens : List (List ℕ)) (form : LineForm) → form_of_tokens tokens ≡ Some form → IsGood form
form_of_tokens-good [] form said = cc
form_of_tokens-good (first ∷ tokens) form said = let same : form_by first tokens ≡ form = cc in subst IsGood same (form_by-good first tokens)

form_of_text-good : (text : List ℕ) (form : LineForm) → form_of_text text ≡ Some form → IsGood form
form_of_text-good text form said = by_test (list_all is_text_byte text) said
  where
    by_test : (b : Bool) → cond b (form_of_tokens (tokens_of marks text)) (Some (FaultyLine syntax)) ≡ Some form → IsGood form
    by_test true h = form_of_tokens-good (tokens_of marks text) form h
    by_test false h = let same : FaultyLine syntax ≡ form = cc in subst IsGood same tt

abbrev pub AreGood : List (Numbered LineForm) → Type 0
AreGood lines = AllByRecursion (λ (line : Numbered LineForm). IsGood line.form) lines

pub forms_from-good : (lines : List (List ℕ)) (n : ℕ) → AreGood (forms_from form_of n lines)
forms_from-good [] n = tt
forms_from-good (line ∷ lines) n = by_form (form_of line) (form_of_text-good (before_comment comment line)) _ (forms_from-good lines _)
  where
    by_form : (o : Option LineForm) → ((form : LineForm) → o ≡ Some form → IsGood form) → (rest : List (Numbered LineForm)) → AreGood rest → AreGood (option_map_or (λ form. record { number = n; form = form } ∷ rest) o rest)
    by_form None good rest rest_good = rest_good
    by_form (Some form) good rest rest_good = (good form refl, rest_good)
