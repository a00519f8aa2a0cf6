-- What the lines so far say together, and what is made of them.
use Rattle.std.specs.Prelude.{◌≡◌, ℕ, ◌+◌, ◌<◌, ◌≤◌, Bool, false, ◌==◌, if◌then◌else◌, List, [], ◌∷◌, ◌++◌, length, map, Option, None, Some, option_to_list, Result, OnOk, IfErr, slice_index_or, bytes_eq}
use Rattle.std.specs.List.{list_all, list_any}
use Rattle.std.specs.Option.{option_map, option_map_or}
use Rattle.std.specs.Borrow.{Bor}
use Rattle.std.specs.Cmp.Lexicographic.{slice_cmp}
use Rattle.std.specs.Ordering.{nat_cmp}
use Rattle.std.specs.BTreeMap.{BTreeMap, get_by}
use Rattle.kdg_text.specs.declared.fault.ReadFail.{ReadFail}
use Rattle.kdg_text.specs.Faults.{Numbered, StopsAt}
use Rattle.bench_reader.specs.declared.deck.Deck.{Deck}
use Rattle.bench_reader.specs.declared.making.Making.{Making}
use Rattle.bench_reader.specs.declared.index.Definition.{Definition}
use Rattle.bench_reader.specs.declared.index.Index.{Index}
use Rattle.bench_reader.specs.declared.outline.Totals.{Totals}
use Rattle.bench_reader.specs.LineForms.{LineForm, InputLine, GateLine, FlipFlopLine, StimulusLine}
use Rattle.bench_reader.specs.Decks.{said, signal_names, gate_names, double_fault, late_fault, delay_given, input_by, output_by, stimulus_by, signal_by, signal_delay, is_among, place_of, most_signals, most_stimuli}

abbrev pub some_if : {X : Type 0} → Bool → X → Option X
some_if test x = if test then Some x else None

-- the number of a name
abbrev pub number_of : List (List ℕ) → List ℕ → Option ℕ
number_of all name = some_if (is_among all name) (place_of all name)

-- the numbers of names, where each has one
abbrev pub numbers_of : List (List ℕ) → List (List ℕ) → Option (List ℕ)
numbers_of all names = some_if (list_all (is_among all) names) (map (place_of all) names)

-- what the table has of a name
abbrev pub found : {X : Type 0} → BTreeMap (Bor (List ℕ)) X → List ℕ → Option X
found table name = get_by (λ key. slice_cmp nat_cmp name key.now) table

-- the table has this value for the name, and for each other name what it had
abbrev pub Puts : {X : Type 0} → BTreeMap (Bor (List ℕ)) X → List ℕ → X → BTreeMap (Bor (List ℕ)) X → Type 0
Puts table name value after = (other : List ℕ) → found after other ≡ (if bytes_eq name other then Some value else found table other)

-- the number of a name in the table
abbrev pub number_in : BTreeMap (Bor (List ℕ)) Definition → List ℕ → Option ℕ
number_in table name = option_map (λ definition. definition.number) (found table name)

-- whether the name is a gate's in the table
abbrev pub is_gate_in : BTreeMap (Bor (List ℕ)) Definition → List ℕ → Bool
is_gate_in table name = option_map_or (λ definition. definition.is_gate) (found table name) false

-- the index has the number of each name that the lines define, whether it is a gate's, and the delay that they give it; and no
-- other name
pub record IsIndex (index : Index) (lines : List (Numbered LineForm)) : Type 0 where
  pub numbers : (name : List ℕ) → number_in index.definitions name ≡ number_of (signal_names lines) name
  pub gates : (name : List ℕ) → is_gate_in index.definitions name ≡ is_among (gate_names lines) name
  pub delays : (name : List ℕ) → found index.delays name ≡ delay_given lines name

-- how many signals, primary inputs and stimuli the lines have
pub record IsTotal (totals : Totals) (lines : List (Numbered LineForm)) : Type 0 where
  pub signals : totals.signals ≡ length (signal_names lines)
  pub inputs : totals.inputs ≡ length (said input_by lines)
  pub stimuli : totals.stimuli ≡ length (said stimulus_by lines)
  pub few_signals : totals.signals ≤ most_signals
  pub few_inputs : totals.inputs ≤ totals.signals
  pub few_stimuli : totals.stimuli ≤ most_stimuli

-- the totals with one more line
abbrev pub totals_with : Totals → LineForm → Totals
totals_with totals (InputLine name) = record { signals = totals.signals + 1; inputs = totals.inputs + 1; stimuli = totals.stimuli }
totals_with totals (GateLine name kind fan_in) = record { signals = totals.signals + 1; inputs = totals.inputs; stimuli = totals.stimuli }
totals_with totals (FlipFlopLine name source) = record { signals = totals.signals + 1; inputs = totals.inputs; stimuli = totals.stimuli }
totals_with totals (StimulusLine time bits) = record { signals = totals.signals; inputs = totals.inputs; stimuli = totals.stimuli + 1 }
totals_with totals _ = totals

-- where the number is the next one, the index goes on with a line that says of no name what was said of it
abbrev pub Indexes : Index → ℕ → LineForm → Index → Type 0
Indexes index number form after = (lines : List (Numbered LineForm)) (n : ℕ) → IsIndex index lines → number ≡ length (signal_names lines)
    → double_fault lines form ≡ None → IsIndex after (lines ++ record { number = n; form = form } ∷ [])

-- the lines' names are in the index, and the lines were counted
pub record IsIndexed (index : Index) (totals : Totals) (lines : List (Numbered LineForm)) : Type 0 where
  pub indexed : IsIndex index lines
  pub totals_right : IsTotal totals lines

-- a number at the end, unless it is there
abbrev pub with_first : List ℕ → ℕ → List ℕ
with_first numbers number = if list_any (λ m. m == number) numbers then numbers else numbers ++ number ∷ []

-- the deck with one more line, where these are all lines
abbrev pub deck_plus : List (Numbered LineForm) → Deck → LineForm → Deck
deck_plus all deck form = record {
  signals = deck.signals ++ option_to_list (signal_by (signal_names all) form);
  outputs = option_map_or (λ name. with_first deck.outputs (place_of (signal_names all) name)) (output_by form) deck.outputs;
  stimuli = deck.stimuli ++ option_to_list (stimulus_by form);
  delays = deck.delays ++ option_to_list (signal_delay all form);
}

-- for each of n signals whether it is among the outputs
pub record IsMarked (n : ℕ) (making : Making) : Type 0 where
  pub count : length making.declared.items ≡ n
  pub each : (k : ℕ) → k < n → slice_index_or making.declared.items k false ≡ list_any (λ m. m == k) making.deck.outputs

-- Of all lines, one of this number and form is made: it adds its part to the deck, or is refused for its late fault.
pub record Makes {V : Type 0} (all : List (Numbered LineForm)) (number : ℕ) (form : LineForm) (before after : Making) (result : Result V ReadFail) : Type 0 where
  pub fits : OnOk result (late_fault all form ≡ None)
  pub made : OnOk result (after.deck ≡ deck_plus all before.deck form)
  pub marked : OnOk result (IsMarked (length (signal_names all)) after)
  pub refused : IfErr result (StopsAt number (late_fault all form))
