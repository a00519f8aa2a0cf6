-- What lines say of names, and what an index has of them.
use Rattle.std.proofs.Common.{arith, refl, sym, ap, ◌∙◌, ◌≡◌, ◌<◌, ◌||◌, not, true, false, [], ◌∷◌, ◌++◌, ℕ, suc, List, Bool, Option, Some, None, length, cond, nat_lt, length-append, append-nil, option_to_list, is_some, subst}
use Rattle.std.proofs.lemmas.Bool.Decides.{nat_tests}
use Rattle.std.proofs.lemmas.List.Elements.{filter_map-append}
use Rattle.std.proofs.lemmas.List.Folds.{list_any-append}
use Rattle.std.proofs.lemmas.Map.Text.{btree_map_updates_str}
use Rattle.std.proofs.lemmas.Slice.Eq.{bytes_eq-Decides}
use Rattle.std.specs.Borrow.{Bor}
use Rattle.std.specs.BTreeMap as tree
use Rattle.std.specs.BTreeMap.{BTreeMap}
use Rattle.std.specs.Cmp.Lexicographic.{slice_cmp}
use Rattle.std.specs.Option.{option_map, option_map_or, option_or}
use Rattle.std.specs.Ordering.{nat_cmp}
use Rattle.std.specs.Str.{bytes_eq}
use Rattle.plain_laws.specs.Options.{option_or-none, option_or-both_none, cons_option-none}
use Rattle.plain_laws.specs.Bools.{same_tests}
use Rattle.kdg_text.specs.Faults.{Numbered}
use Rattle.kdg_text.specs.FaultLaws.{not_where}
use Rattle.bench_reader.specs.declared.index.Definition.{Definition}
use Rattle.bench_reader.specs.declared.index.Index.{Index}
use Rattle.bench_reader.specs.declared.outline.Totals.{Totals}
use Rattle.bench_reader.specs.LineForms.{LineForm, InputLine, GateLine, FlipFlopLine, DelayLine, StimulusLine}
use Rattle.bench_reader.specs.Decks.{said, signal_names, gate_names, defined_by, gate_defined_by, delay_in, delay_given, input_by, stimulus_by, is_among, place_of, own_fault, own_limit, double_name, double_delay, double_fault, count_limit, early_fault}
use Rattle.bench_reader.specs.Outlines.{some_if, number_of, found, number_in, is_gate_in, Puts, IsTotal, IsIndexed, Indexes, totals_with}

pub bytes_eq-sym : (a b : List ℕ) → bytes_eq a b ≡ bytes_eq b a
bytes_eq-sym a b = same_tests (bytes_eq a b) (bytes_eq b a)
    (λ h. (bytes_eq-Decides b a).1 (sym ((bytes_eq-Decides a b).0 h))) (λ h. (bytes_eq-Decides a b).1 (sym ((bytes_eq-Decides b a).0 h)))

number_of-cons : (first : List ℕ) (names : List (List ℕ)) (name : List ℕ) → number_of (first ∷ names) name ≡ cond (bytes_eq name first) (Some 0) (option_map suc (number_of names name))
number_of-cons first names name = by_tests (bytes_eq name first) (is_among names name)
  where
    by_tests : (b rest : Bool) → some_if (b || rest) (cond b 0 (suc (place_of names name))) ≡ cond b (Some 0) (option_map suc (some_if rest (place_of names name)))
    by_tests true rest = refl
    by_tests false true = refl
    by_tests false false = refl

-- the new name has the next number, and the others keep theirs
number_of-push : (names : List (List ℕ)) (name : List ℕ) → is_among names name ≡ false → (q : List ℕ) → number_of (names ++ name ∷ []) q ≡ cond (bytes_eq name q) (Some (length names)) (number_of names q)
number_of-push [] name new q = number_of-cons name [] q ∙ rw (bytes_eq-sym q name) refl
number_of-push (first ∷ names) name new q =
    let others = either_false _ _ new in
    number_of-cons first (names ++ name ∷ []) q
    ∙ ap (λ o. cond (bytes_eq q first) (Some 0) (option_map suc o)) (number_of-push names name others.1 q)
    ∙ by_tests (bytes_eq q first) (bytes_eq name q) (length names) (number_of names q) (both_equal q)
    ∙ ap (cond (bytes_eq name q) (Some (suc (length names)))) (sym (number_of-cons first names q))
  where
    either_false : (a b : Bool) → (a || b) ≡ false → (a ≡ false) × (b ≡ false)
    either_false true b h = cc
    either_false false b h = (refl, h)

    both_equal : (q : List ℕ) → bytes_eq q first ≡ true → bytes_eq name q ≡ true → ⊥
    both_equal q h k =
        let same : name ≡ first = (bytes_eq-Decides name q).0 k ∙ (bytes_eq-Decides q first).0 h in
        let clash : true ≡ false = sym ((bytes_eq-Decides name first).1 same) ∙ (either_false _ _ new).0 in
        absurd (cc)

    by_tests : (f n : Bool) (len : ℕ) (o : Option ℕ) → (f ≡ true → n ≡ true → ⊥) → cond f (Some 0) (option_map suc (cond n (Some len) o)) ≡ cond n (Some (suc len)) (cond f (Some 0) (option_map suc o))
    by_tests true true len o never = absurd (never refl refl)
    by_tests true false len o never = refl
    by_tests false true len o never = refl
    by_tests false false len o never = refl

-- what lines of a sort say with one more line
pub said-push : {X : Type 0} (by : LineForm → Option X) (lines : List (Numbered LineForm)) (line : Numbered LineForm) → said by (lines ++ line ∷ []) ≡ said by lines ++ option_to_list (by line.form)
said-push by lines line =
    filter_map-append (λ (each : Numbered LineForm). by each.form) lines (line ∷ []) ∙ ap (λ last. said by lines ++ last) (cons_option-none (by line.form))

-- what a line more gives a name
delay_given-push : (lines : List (Numbered LineForm)) (line : Numbered LineForm) (name : List ℕ) → delay_given (lines ++ line ∷ []) name ≡ option_or (delay_given lines name) (delay_in line.form name)
delay_given-push [] line name = option_or-none (delay_in line.form name)
delay_given-push (first ∷ lines) line name = ap (option_or (delay_in first.form name)) (delay_given-push lines line name) ∙ in_turn (delay_in first.form name) (delay_given lines name)
  where
    in_turn : (a b : Option ℕ) → option_or a (option_or b (delay_in line.form name)) ≡ option_or (option_or a b) (delay_in line.form name)
    in_turn None b = refl
    in_turn (Some n) b = refl

-- what the lines define, as what an index has that goes on with a line
pub record Extends (index after : Index) (form : LineForm) (name : List ℕ) (number : ℕ) (is_gate : Bool) : Type 0 where
  pub defines : defined_by form ≡ Some name
  pub as_gate : gate_defined_by form ≡ some_if is_gate name
  pub no_delay : (other : List ℕ) → delay_in form other ≡ None
  pub definitions : Puts index.definitions name (record { number = number; is_gate = is_gate }) after.definitions
  pub delays : after.delays ≡ index.delays

numbers-push : (index after : Index) (form : LineForm) (name : List ℕ) (number : ℕ) (is_gate : Bool) (names : List (List ℕ)) → Extends index after form name number is_gate → number ≡ length names
    → ((other : List ℕ) → number_in index.definitions other ≡ number_of names other) → is_among names name ≡ false → (other : List ℕ) → number_in after.definitions other ≡ number_of (names ++ name ∷ []) other
numbers-push index after form name number is_gate names extends next known new other =
    ap (option_map (λ (definition : Definition). definition.number)) (extends.definitions other) ∙ by_test (bytes_eq name other) (found index.definitions other)
    ∙ rw next refl ∙ ap (cond (bytes_eq name other) (Some (length names))) (known other) ∙ sym (number_of-push names name new other)
  where
    by_test : (b : Bool) (o : Option Definition) → option_map (λ (definition : Definition). definition.number) (cond b (Some (record { number = number; is_gate = is_gate })) o)
        ≡ cond b (Some number) (option_map (λ (definition : Definition). definition.number) o)
    by_test true o = refl
    by_test false o = refl

-- a name that has no number isn't a gate's
no_gate : (table : BTreeMap (Bor (List ℕ)) Definition) (name : List ℕ) → number_in table name ≡ None → is_gate_in table name ≡ false
no_gate table name none = by_entry (found table name) none
  where
    by_entry : (o : Option Definition) → option_map (λ (definition : Definition). definition.number) o ≡ None → option_map_or (λ (definition : Definition). definition.is_gate) o false ≡ false
    by_entry None none = refl
    by_entry (Some definition) none = cc

gates-push : (index after : Index) (form : LineForm) (name : List ℕ) (number : ℕ) (is_gate : Bool) (names gates : List (List ℕ)) → Extends index after form name number is_gate
    → ((other : List ℕ) → number_in index.definitions other ≡ number_of names other) → ((other : List ℕ) → is_gate_in index.definitions other ≡ is_among gates other)
    → is_among names name ≡ false → (other : List ℕ) → is_gate_in after.definitions other ≡ is_among (gates ++ option_to_list (some_if is_gate name)) other
gates-push index after form name number is_gate names gates extends numbers known new other =
    ap (λ (o : Option Definition). option_map_or (λ (definition : Definition). definition.is_gate) o false) (extends.definitions other)
    ∙ by_test (bytes_eq name other) (found index.definitions other) ∙ ap (cond (bytes_eq name other) is_gate) (known other) ∙ by_gate is_gate (bytes_eq name other) refl
  where
    by_test : (b : Bool) (o : Option Definition) → option_map_or (λ (definition : Definition). definition.is_gate) (cond b (Some (record { number = number; is_gate = is_gate })) o) false
        ≡ cond b is_gate (option_map_or (λ (definition : Definition). definition.is_gate) o false)
    by_test true o = refl
    by_test false o = refl

    not_among : bytes_eq name other ≡ true → is_among gates other ≡ false
    not_among same =
        let is_other : name ≡ other = (bytes_eq-Decides name other).0 same in
        let unnumbered : number_in index.definitions name ≡ None = numbers name ∙ ap (λ b. some_if b (place_of names name)) new in
        sym (known other) ∙ subst (λ (n : List ℕ). is_gate_in index.definitions n ≡ false) is_other (no_gate index.definitions name unnumbered)

    here_or : (b among : Bool) → cond b true among ≡ (among || (b || false))
    here_or true true = refl
    here_or true false = refl
    here_or false true = refl
    here_or false false = refl

    by_gate : (g b : Bool) → bytes_eq name other ≡ b → cond b g (is_among gates other) ≡ is_among (gates ++ option_to_list (some_if g name)) other
    by_gate true b same = rw (list_any-append (bytes_eq other) gates (name ∷ []), bytes_eq-sym other name, same) (here_or b (is_among gates other))
    by_gate false true same = rw append-nil (sym (not_among same))
    by_gate false false same = rw append-nil refl

-- a line that defines a name
pub Indexes-name : (index after : Index) (number : ℕ) (form : LineForm) (name : List ℕ) (is_gate : Bool) → Extends index after form name number is_gate → Indexes index number form after
Indexes-name index after number form name is_gate extends lines n indexed next single =
    let line : Numbered LineForm = record { number = n; form = form } in
    let new : is_among (signal_names lines) name ≡ false = not_where _ _ (ap (double_name lines) (sym extends.defines) ∙ (option_or-both_none _ _ single).0) in
    let longer : signal_names (lines ++ line ∷ []) ≡ signal_names lines ++ name ∷ [] = said-push defined_by lines line ∙ ap (λ o. signal_names lines ++ option_to_list o) extends.defines in
    let gates : gate_names (lines ++ line ∷ []) ≡ gate_names lines ++ option_to_list (some_if is_gate name) =
    said-push gate_defined_by lines line ∙ ap (λ o. gate_names lines ++ option_to_list o) extends.as_gate in
    record {
      numbers = λ other. numbers-push index after form name number is_gate (signal_names lines) extends next indexed.numbers new other ∙ ap (λ names. number_of names other) (sym longer);
      gates = λ other. gates-push index after form name number is_gate (signal_names lines) (gate_names lines) extends indexed.numbers indexed.gates new other ∙ ap (λ names. is_among names other) (sym gates);
      delays = λ other. ap (λ table. found table other) extends.delays ∙ indexed.delays other
          ∙ sym (delay_given-push lines line other ∙ ap (option_or (delay_given lines other)) (extends.no_delay other) ∙ option_or-none (delay_given lines other));
    }

-- a line that defines no name, where the table of delays goes on with it
Indexes-undefined : (index after : Index) (number : ℕ) (form : LineForm) → defined_by form ≡ None → gate_defined_by form ≡ None → after.definitions ≡ index.definitions
    → ((lines : List (Numbered LineForm)) (other : List ℕ) → double_delay lines form ≡ None → found index.delays other ≡ delay_given lines other → found after.delays other ≡ option_or (delay_given lines other) (delay_in form other))
    → Indexes index number form after
Indexes-undefined index after number form defines as_gate same delays lines n indexed next single =
    let line : Numbered LineForm = record { number = n; form = form } in
    let signals : signal_names (lines ++ line ∷ []) ≡ signal_names lines = said-push defined_by lines line ∙ ap (λ o. signal_names lines ++ option_to_list o) defines ∙ append-nil (signal_names lines) in
    let gates : gate_names (lines ++ line ∷ []) ≡ gate_names lines = said-push gate_defined_by lines line ∙ ap (λ o. gate_names lines ++ option_to_list o) as_gate ∙ append-nil (gate_names lines) in
    record {
      numbers = λ other. ap (λ table. number_in table other) same ∙ indexed.numbers other ∙ ap (λ names. number_of names other) (sym signals);
      gates = λ other. ap (λ table. is_gate_in table other) same ∙ indexed.gates other ∙ ap (λ names. is_among names other) (sym gates);
      delays = λ other. delays lines other (option_or-both_none _ _ single).1 (indexed.delays other) ∙ sym (delay_given-push lines line other);
    }

pub Indexes-none : (index : Index) (number : ℕ) (form : LineForm) → defined_by form ≡ None → gate_defined_by form ≡ None → ((other : List ℕ) → delay_in form other ≡ None) → Indexes index number form index
Indexes-none index number form defines as_gate no_delay =
    Indexes-undefined index index number form defines as_gate refl (λ lines other single known. known ∙ sym (ap (option_or (delay_given lines other)) (no_delay other) ∙ option_or-none (delay_given lines other)))

pub Indexes-delay : (index after : Index) (number : ℕ) (name : List ℕ) (delay : ℕ) → after.definitions ≡ index.definitions → Puts index.delays name delay after.delays → Indexes index number (DelayLine name delay) after
Indexes-delay index after number name delay same puts =
    Indexes-undefined index after number (DelayLine name delay) refl refl same (λ lines other single known.
    puts other ∙ ap (cond (bytes_eq name other) (Some delay)) known ∙ by_test lines other single (bytes_eq name other) refl)
  where
    first_given : (o : Option ℕ) → is_some o ≡ false → Some delay ≡ option_or o (Some delay)
    first_given None h = refl
    first_given (Some n) h = cc

    by_test : (lines : List (Numbered LineForm)) (other : List ℕ) → double_delay lines (DelayLine name delay) ≡ None → (b : Bool) → bytes_eq name other ≡ b
        → cond b (Some delay) (delay_given lines other) ≡ option_or (delay_given lines other) (cond (bytes_eq other name) (Some delay) None)
    by_test lines other single true same =
        let is_other : name ≡ other = (bytes_eq-Decides name other).0 same in
        let none : is_some (delay_given lines other) ≡ false = subst (λ (n : List ℕ). is_some (delay_given lines n) ≡ false) is_other (not_where _ _ single) in
        rw (bytes_eq-sym other name, same) (first_given (delay_given lines other) none)
    by_test lines other single false same = rw (bytes_eq-sym other name, same) (sym (option_or-none (delay_given lines other)))

-- the table that is written to
pub Puts-from_updates : {X : Type 0} (table after : BTreeMap (Bor (List ℕ)) X) (name : List ℕ) (value : X)
    → tree.UpdatesBy (λ x y. slice_cmp nat_cmp x.now y.now) (λ k. slice_cmp nat_cmp name k.now) table after (Some value) → Puts table name value after
Puts-from_updates table after name value updates = λ other. btree_map_updates_str name table after _ updates other

-- a line that has no early fault has none of its parts
pub early_fault-parts : (before : List (Numbered LineForm)) (form : LineForm) → early_fault before form ≡ None
    → (own_fault form ≡ None) × (double_fault before form ≡ None) × (own_limit form ≡ None) × (count_limit before form ≡ None)
early_fault-parts before form none =
    let own = option_or-both_none _ _ none in
    let twice = option_or-both_none _ _ own.1 in
    let limits = option_or-both_none _ _ twice.1 in
    (own.0, twice.0, limits.0, limits.1)

-- the name that a right line defines isn't defined before
pub is_new : (before : List (Numbered LineForm)) (form : LineForm) (name : List ℕ) → defined_by form ≡ Some name → early_fault before form ≡ None → is_among (signal_names before) name ≡ false
is_new before form name defines fits = not_where _ _ (ap (double_name before) (sym defines) ∙ (option_or-both_none _ _ (early_fault-parts before form fits).1).0)

few_before : (n limit : ℕ) → not (nat_lt n limit) ≡ false → n < limit
few_before n limit test = grind (arith, nat_tests)

pub IsTotal-push : (totals : Totals) (lines : List (Numbered LineForm)) (n : ℕ) (form : LineForm) → IsTotal totals lines → count_limit lines form ≡ None
    → IsTotal (totals_with totals form) (lines ++ record { number = n; form = form } ∷ [])
IsTotal-push totals lines n form so_far fits =
    let signals = said-push defined_by lines (record { number = n; form = form }) in
    let inputs = said-push input_by lines (record { number = n; form = form }) in
    let stimuli = said-push stimulus_by lines (record { number = n; form = form }) in
    rw_total form signals inputs stimuli fits
  where
    rw_total : (form : LineForm) → signal_names (lines ++ record { number = n; form = form } ∷ []) ≡ signal_names lines ++ option_to_list (defined_by form)
        → said input_by (lines ++ record { number = n; form = form } ∷ []) ≡ said input_by lines ++ option_to_list (input_by form)
        → said stimulus_by (lines ++ record { number = n; form = form } ∷ []) ≡ said stimulus_by lines ++ option_to_list (stimulus_by form)
        → count_limit lines form ≡ None → IsTotal (totals_with totals form) (lines ++ record { number = n; form = form } ∷ [])
    rw_total (InputLine name) signals inputs stimuli fits =
        let few = few_before (length (signal_names lines)) 4096 (not_where _ _ fits) in
        record {
          signals = rw (signals, length-append (signal_names lines) (name ∷ [])) (omega (arith, so_far.signals));
          inputs = rw (inputs, length-append (said input_by lines) (name ∷ [])) (omega (arith, so_far.inputs));
          stimuli = rw (stimuli, append-nil (said stimulus_by lines)) so_far.stimuli;
          few_signals = omega (arith, so_far.signals);
          few_inputs = omega (arith, so_far.few_inputs);
          few_stimuli = so_far.few_stimuli;
        }
    rw_total (GateLine name kind fan_in) signals inputs stimuli fits =
        let few = few_before (length (signal_names lines)) 4096 (not_where _ _ fits) in
        record {
          signals = rw (signals, length-append (signal_names lines) (name ∷ [])) (omega (arith, so_far.signals));
          inputs = rw (inputs, append-nil (said input_by lines)) so_far.inputs;
          stimuli = rw (stimuli, append-nil (said stimulus_by lines)) so_far.stimuli;
          few_signals = omega (arith, so_far.signals);
          few_inputs = omega (arith, so_far.few_inputs);
          few_stimuli = so_far.few_stimuli;
        }
    rw_total (FlipFlopLine name source) signals inputs stimuli fits =
        let few = few_before (length (signal_names lines)) 4096 (not_where _ _ fits) in
        record {
          signals = rw (signals, length-append (signal_names lines) (name ∷ [])) (omega (arith, so_far.signals));
          inputs = rw (inputs, append-nil (said input_by lines)) so_far.inputs;
          stimuli = rw (stimuli, append-nil (said stimulus_by lines)) so_far.stimuli;
          few_signals = omega (arith, so_far.signals);
          few_inputs = omega (arith, so_far.few_inputs);
          few_stimuli = so_far.few_stimuli;
        }
    rw_total (StimulusLine time bits) signals inputs stimuli fits =
        let few = few_before (length (said stimulus_by lines)) 65536 (not_where _ _ fits) in
        record {
          signals = rw (signals, append-nil (signal_names lines)) so_far.signals;
          inputs = rw (inputs, append-nil (said input_by lines)) so_far.inputs;
          stimuli = rw (stimuli, length-append (said stimulus_by lines) (option_to_list (stimulus_by (StimulusLine time bits)))) (omega (arith, so_far.stimuli));
          few_signals = so_far.few_signals;
          few_inputs = so_far.few_inputs;
          few_stimuli = omega (arith, so_far.stimuli);
        }
    rw_total _ signals inputs stimuli fits = record {
      signals = rw (signals, append-nil (signal_names lines)) so_far.signals;
      inputs = rw (inputs, append-nil (said input_by lines)) so_far.inputs;
      stimuli = rw (stimuli, append-nil (said stimulus_by lines)) so_far.stimuli;
      few_signals = so_far.few_signals;
      few_inputs = so_far.few_inputs;
      few_stimuli = so_far.few_stimuli;
    }

pub IsIndexed-push : (index after : Index) (totals : Totals) (lines : List (Numbered LineForm)) (n : ℕ) (form : LineForm) → IsIndexed index totals lines
    → early_fault lines form ≡ None → Indexes index totals.signals form after → IsIndexed after (totals_with totals form) (lines ++ record { number = n; form = form } ∷ [])
IsIndexed-push index after totals lines n form so_far fits indexes =
    let parts = early_fault-parts lines form fits in
    record {
      indexed = indexes lines n so_far.indexed so_far.totals_right.signals parts.1;
      totals_right = IsTotal-push totals lines n form so_far.totals_right parts.3;
    }
