use Rattle.std.proofs.Common.{nat_lt, ◌≡◌, ℕ, ◌+◌, ◌*◌, ◌<◌, ◌≤◌, List, [], ◌∷◌, Bool, true, false, cond, Option, Some, None, Ok, Err, is_some, is_none, not, length, length-take, take, drop, get_or, refl, ap, sym, ◌∙◌, arith, unwrap_or, inl, inr, ◌-◌}
use Rattle.std.specs.Option.{option_and_then, option_or}
use Rattle.std.specs.Str.{bytes_eq}
use Rattle.plain_laws.specs.Options.{option_or-none}
use Rattle.kdg_prog.specs.Words.{Word, IsHeading, is_big, heading_len, big_of, number_of, pairs_of, settings_before, settings_of, given_value, name_of, is_bad, is_value, workers_value, mode_value, seed_value, until_value, clock_value, from_value, budget_value, switch_value, options_of, options_given, option_for, command_named, command_of, if_made, command_in, most_for, number_within}
use Rattle.kdg_prog.specs.Draft.{is_given, with_value, options_of_draft}
use Rattle.kdg_prog.specs.declared.words.Command.{Command}
use Rattle.kdg_prog.specs.declared.words.Draft.{Draft}
use Rattle.kdg_prog.specs.declared.words.Heading.{Heading}
use Rattle.kdg_prog.specs.declared.words.OptionName.{OptionName}
use Rattle.kdg_prog.specs.declared.words.OptionName.TheVariants as name
use Rattle.std.proofs.lemmas.Option.{slice_get-get_or, slice_get_past, slice_get_cases}
use Rattle.std.proofs.lemmas.Bool.{cond-false, cases_Bool, cases_order, cond-true}
use Rattle.std.specs.List.{slice_get}
use Rattle.std.specs.Option.{option_map_or, option_map}
use Rattle.std.specs.List.{find}
use Rattle.std.proofs.lemmas.Slice.Eq.{bytes_eq-Decides}
use Rattle.std.proofs.lemmas.List.{drop_all}
use Rattle.kdg_prog.specs.declared.words.Command.TheVariants.{Sim}
use Rattle.kdg_prog.proofs.FirstBad.{heading_odd, refused_at, read_whole, is_bad-odd, is_bad-even}
use Rattle.kdg_prog.proofs.Given.{name_from_named, named_from_for, settings_more, given_value_more}

-- the draft of the values that the options have
abbrev pub draft_of : (OptionName → Option Word) → Draft
draft_of given = record {
  workers = option_and_then workers_value (given name.Workers);
  mode = option_and_then mode_value (given name.Mode);
  seed = option_and_then seed_value (given name.Seed);
  until = option_and_then until_value (given name.Until);
  clock = option_and_then clock_value (given name.Clock);
  from = option_and_then from_value (given name.From);
  budget = option_and_then budget_value (given name.Budget);
  stats = option_and_then switch_value (given name.Stats);
}

draft_of-along : (f g : OptionName → Option Word) → ((name : OptionName) → f name ≡ g name) → draft_of f ≡ draft_of g
draft_of-along f g same = rw (same name.Workers, same name.Mode, same name.Seed, same name.Until, same name.Clock, same name.From, same name.Budget, same name.Stats) refl

-- one more option has this value
abbrev one_more : (OptionName → Option Word) → OptionName → Word → OptionName → Option Word
one_more given name value other = cond (bytes_eq (name_of name) (name_of other)) (Some value) (given other)

with_value-draft_of : (given : OptionName → Option Word) (name : OptionName) (value : Word) → with_value (draft_of given) name value ≡ draft_of (one_more given name value)
with_value-draft_of given name.Workers value = refl
with_value-draft_of given name.Mode value = refl
with_value-draft_of given name.Seed value = refl
with_value-draft_of given name.Until value = refl
with_value-draft_of given name.Clock value = refl
with_value-draft_of given name.From value = refl
with_value-draft_of given name.Budget value = refl
with_value-draft_of given name.Stats value = refl

is_given-with_value : (draft : Draft) (name : OptionName) (value : Word) (other : OptionName) → is_given (with_value draft name value) other ≡ cond (bytes_eq (name_of name) (name_of other)) (is_value name value) (is_given draft other)
is_given-with_value draft name.Workers value name.Workers = refl
is_given-with_value draft name.Mode value name.Mode = refl
is_given-with_value draft name.Seed value name.Seed = refl
is_given-with_value draft name.Until value name.Until = refl
is_given-with_value draft name.Clock value name.Clock = refl
is_given-with_value draft name.From value name.From = refl
is_given-with_value draft name.Budget value name.Budget = refl
is_given-with_value draft name.Stats value name.Stats = refl
is_given-with_value draft _ value _ = refl

abbrev one_if : Bool → ℕ
one_if given = cond given 1 0

-- how many options have a value
abbrev pub given_count : Draft → ℕ
given_count draft =
    one_if (is_given draft name.Workers) + one_if (is_given draft name.Mode) + one_if (is_given draft name.Seed)
    + one_if (is_given draft name.Until) + one_if (is_given draft name.Clock) + one_if (is_given draft name.From) + one_if (is_given draft name.Budget)
    + one_if (is_given draft name.Stats)

one_if_le : (given : Bool) → one_if given ≤ 1
one_if_le true = omega arith
one_if_le false = omega arith

pub given_count_le : (draft : Draft) → given_count draft ≤ 8
given_count_le draft =
    omega (
      arith,
      one_if_le (is_given draft name.Workers),
      one_if_le (is_given draft name.Mode),
      one_if_le (is_given draft name.Seed),
      one_if_le (is_given draft name.Until),
      one_if_le (is_given draft name.Clock),
      one_if_le (is_given draft name.From),
      one_if_le (is_given draft name.Budget),
      one_if_le (is_given draft name.Stats),
    )

given_count_more : (draft : Draft) (name : OptionName) (value : Word) → is_given draft name ≡ false → is_value name value ≡ true → given_count (with_value draft name value) ≡ given_count draft + 1
given_count_more draft name.Workers value none valid = rw (none, valid) (omega arith)
given_count_more draft name.Mode value none valid = rw (none, valid) (omega arith)
given_count_more draft name.Seed value none valid = rw (none, valid) (omega arith)
given_count_more draft name.Until value none valid = rw (none, valid) (omega arith)
given_count_more draft name.Clock value none valid = rw (none, valid) (omega arith)
given_count_more draft name.From value none valid = rw (none, valid) (omega arith)
given_count_more draft name.Budget value none valid = rw (none, valid) (omega arith)
given_count_more draft name.Stats value none valid = rw (none, valid) (omega arith)

-- the words before an index are read: none is bad, and the draft holds what they give
pub record IsRead (words : List Word) (draft : Draft) (index : ℕ) : Type 0 where
  pub within : index ≤ length words
  pub turn : index ≡ heading_len words + 2 * given_count draft
  pub fine : (k : ℕ) → k < index → is_bad words k ≡ false
  pub same : draft ≡ draft_of (λ name. given_value name (settings_before words index))
  pub given : (name : OptionName) → is_given draft name ≡ is_some (given_value name (settings_before words index))

-- whether the option at an index is bad
bad_option_unnamed : (words : List Word) (draft : Draft) (index : ℕ) → IsRead words draft index → index < length words → option_for (command_in words) (get_or words index []) ≡ None → is_bad words index ≡ true
bad_option_unnamed words draft index read more unnamed =
    is_bad-odd words index (given_count draft) read.turn ∙ rw (slice_get-get_or words index [] more, unnamed) refl

bad_option_named : (words : List Word) (draft : Draft) (index : ℕ) (name : OptionName) → IsRead words draft index → index < length words → option_for (command_in words) (get_or words index []) ≡ Some name → is_bad words index ≡ is_given draft name
bad_option_named words draft index name read more named =
    is_bad-odd words index (given_count draft) read.turn ∙ rw (slice_get-get_or words index [] more, named) (sym (read.given name))

bad_value : (words : List Word) (draft : Draft) (index : ℕ) (name : OptionName) → IsRead words draft index → index < length words → option_for (command_in words) (get_or words index []) ≡ Some name → is_bad words (index + 1) ≡ not (option_map_or (is_value name) (slice_get words (index + 1)) false)
bad_value words draft index name read more named =
    let back : index + 1 - 1 ≡ index = omega arith in
    is_bad-even words (index + 1) (given_count draft) (omega (arith, read.turn)) ∙ rw (back, slice_get-get_or words index [] more, named) refl

fine_more : (words : List Word) (index : ℕ) → ((k : ℕ) → k < index → is_bad words k ≡ false) → is_bad words index ≡ false → (k : ℕ) → k < index + 1 → is_bad words k ≡ false
fine_more words index fine here k below =
    elim (cases_order k index) as (λ _. is_bad words k ≡ false) [
      | inl at ↦ ap (is_bad words) at ∙ here
      | inr other ↦ elim other as (λ _. is_bad words k ≡ false) [
        | inl before ↦ fine k before
        | inr after ↦ absurd (omega arith)
      ]
    ]

pub refused_unnamed : (words : List Word) (draft : Draft) (index : ℕ) → IsRead words draft index → index < length words → option_for (command_in words) (get_or words index []) ≡ None → options_of words ≡ Err (index + 1)
refused_unnamed words draft index read more unnamed =
    refused_at words index read.within (bad_option_unnamed words draft index read more unnamed) read.fine

pub refused_again : (words : List Word) (draft : Draft) (index : ℕ) (name : OptionName) → IsRead words draft index → index < length words → option_for (command_in words) (get_or words index []) ≡ Some name → is_given draft name ≡ true → options_of words ≡ Err (index + 1)
refused_again words draft index name read more named given =
    refused_at words index read.within (bad_option_named words draft index name read more named ∙ given) read.fine

fine_name : (words : List Word) (draft : Draft) (index : ℕ) (name : OptionName) → IsRead words draft index → index < length words → option_for (command_in words) (get_or words index []) ≡ Some name → is_given draft name ≡ false → (k : ℕ) → k < index + 1 → is_bad words k ≡ false
fine_name words draft index name read more named new =
    fine_more words index read.fine (bad_option_named words draft index name read more named ∙ new)

pub refused_missing : (words : List Word) (draft : Draft) (index : ℕ) (name : OptionName) → IsRead words draft index → index < length words → option_for (command_in words) (get_or words index []) ≡ Some name → is_given draft name ≡ false → length words ≤ index + 1 → options_of words ≡ Err (index + 2)
refused_missing words draft index name read more named new end =
    let bad : is_bad words (index + 1) ≡ true = bad_value words draft index name read more named ∙ rw (slice_get_past words (index + 1) end) refl in
    refused_at words (index + 1) (omega arith) bad (fine_name words draft index name read more named new) ∙ ap (λ place. Err place) (omega arith)

pub refused_value : (words : List Word) (draft : Draft) (index : ℕ) (name : OptionName) → IsRead words draft index → index + 1 < length words → option_for (command_in words) (get_or words index []) ≡ Some name → is_given draft name ≡ false → is_value name (get_or words (index + 1) []) ≡ false → options_of words ≡ Err (index + 2)
refused_value words draft index name read more named new invalid =
    let bad : is_bad words (index + 1) ≡ true = bad_value words draft index name read (omega arith) named ∙ rw (slice_get-get_or words (index + 1) [] more, invalid) refl in
    refused_at words (index + 1) (omega arith) bad (fine_name words draft index name read (omega arith) named new) ∙ ap (λ place. Err place) (omega arith)

none_from_is_some : {X : Type 0} (option : Option X) → is_some option ≡ false → option ≡ None
none_from_is_some None none = refl
none_from_is_some (Some x) none = cc

-- what the options have, with one more
given_along : (words : List Word) (draft : Draft) (index : ℕ) (name : OptionName) → IsRead words draft index → index + 1 < length words → option_for (command_in words) (get_or words index []) ≡ Some name → is_given draft name ≡ false → (other : OptionName) → one_more (λ n. given_value n (settings_before words index)) name (get_or words (index + 1) []) other ≡ given_value other (settings_before words (index + 2))
given_along words draft index name read more named new other =
    let settings = settings_before words index in
    let value = get_or words (index + 1) [] in
    let written = name_from_named (get_or words index []) name (named_from_for (command_in words) (get_or words index []) name named) in
    let longer = ap (given_value other) (settings_more words index (given_count draft) read.turn more) ∙ given_value_more other settings (get_or words index []) value ∙ ap (λ word. option_or (given_value other settings) (cond (bytes_eq word (name_of other)) (Some value) None)) written in
    elim (cases_Bool (bytes_eq (name_of name) (name_of other))) as (λ _. one_more (λ n. given_value n settings) name value other ≡ given_value other (settings_before words (index + 2))) [
      | inl same ↦
          (let alike : name_of name ≡ name_of other = (bytes_eq-Decides (name_of name) (name_of other)).0 same in
          let none : given_value name settings ≡ None = none_from_is_some (given_value name settings) (sym (read.given name) ∙ new) in
          let moved : given_value other settings ≡ None = ap (λ written. option_map (λ setting. setting.1) (find (λ setting. bytes_eq setting.0 written) settings)) (sym alike) ∙ none in
          rw (same) (sym (longer ∙ rw (same, moved) refl)))
      | inr differs ↦ rw (differs) (sym (longer ∙ rw (differs) (option_or-none (given_value other settings))))
    ]

pub read_more : (words : List Word) (draft : Draft) (index : ℕ) (name : OptionName) → IsRead words draft index → index + 1 < length words → option_for (command_in words) (get_or words index []) ≡ Some name → is_given draft name ≡ false → is_value name (get_or words (index + 1) []) ≡ true → IsRead words (with_value draft name (get_or words (index + 1) [])) (index + 2)
read_more words draft index name read more named new valid =
    let value = get_or words (index + 1) [] in
    let along = given_along words draft index name read more named new in
    record {
      within = omega arith;
      turn = omega (arith, read.turn, given_count_more draft name value new valid);
      fine = λ k below. fine_more words (index + 1) (fine_name words draft index name read (omega arith) named new)
          (bad_value words draft index name read (omega arith) named ∙ rw (slice_get-get_or words (index + 1) [] more, valid) refl) k (omega arith);
      same = ap (λ d. with_value d name value) read.same ∙ with_value-draft_of (λ n. given_value n (settings_before words index)) name value ∙ draft_of-along _ _ along;
      given = λ other. is_given-with_value draft name value other ∙ rw (valid, read.given other) (given_step (bytes_eq (name_of name) (name_of other)) value _ ∙ ap is_some (along other));
    }
  where
    given_step : (same : Bool) (value : Word) (had : Option Word) → cond same true (is_some had) ≡ is_some (cond same (Some value) had)
    given_step true value had = refl
    given_step false value had = refl

pub read_all : (words : List Word) (draft : Draft) (index : ℕ) (heading : Heading) → IsRead words draft index → length words ≤ index → IsHeading words heading → options_of words ≡ Ok (options_of_draft heading.command heading.big draft)
read_all words draft index heading read end named =
    let all : index ≡ length words = omega (arith, end, read.within) in
    let whole : draft ≡ draft_of (λ name. given_value name (settings_of words)) = read.same ∙ ap (λ i. draft_of (λ name. given_value name (settings_before words i))) all in
    let last : is_bad words index ≡ false = is_bad-odd words index (given_count draft) read.turn ∙ rw (slice_get_past words index end) refl in
    read_whole words (λ k within. fine_more words index read.fine last k (omega arith))
    ∙ ap (λ found. Ok (options_given (unwrap_or found Sim) (big_of words) (settings_of words))) named.command
    ∙ ap (λ big. Ok (options_given heading.command big (settings_of words))) named.big
    ∙ ap (λ d. Ok (options_of_draft heading.command heading.big d)) (sym whole)

none_given : (name : OptionName) → is_given (draft_of (λ _. None)) name ≡ false
none_given name.Workers = refl
none_given _ = refl

-- no option stands in the heading
no_settings : (words : List Word) (len : ℕ) → pairs_of (drop len (take len words)) ≡ []
no_settings words len = ap pairs_of (drop_all len (take len words) (omega (arith, length-take len words)))

pub read_none : (words : List Word) (heading : Heading) → IsHeading words heading → IsRead words (draft_of (λ _. None)) heading.len
read_none words heading named =
    let none : settings_before words heading.len ≡ [] = rw (← named.len) (no_settings words (heading_len words)) in
    record {
      within = named.within;
      turn = omega (arith, named.len);
      fine = named.fine;
      same = rw none refl;
      given = λ name. rw none (none_given name);
    }

-- what is missing or wrong before the options
pub refused_command : (words : List Word) → is_big words ≡ false → command_of words ≡ None → options_of words ≡ Err 1
refused_command words plain unnamed =
    let nothing : option_and_then command_named (slice_get words 0) ≡ None = rw plain at unnamed in
    refused_at words 0 (omega arith) (rw (plain, nothing) refl) (λ k below. absurd (omega arith))

big_first : (words : List Word) → is_big words ≡ true → (1 ≤ length words) × (is_bad words 0 ≡ false)
big_first [] big = cc
big_first (word ∷ words) big = (omega arith, rw big refl)

pub refused_big_command : (words : List Word) → is_big words ≡ true → command_of words ≡ None → options_of words ≡ Err 2
refused_big_command words big unnamed =
    let first = big_first words big in
    let nothing : if_made (option_and_then command_named (slice_get words 1)) ≡ None = rw big at unnamed in
    refused_at words 1 first.0 (rw (big, nothing) refl) (λ k below. let none : k ≡ 0 = omega arith in ap (is_bad words) none ∙ first.1)

-- what a word at an index says is said by a word that is there
word_within : {X : Type 0} (says : Word → Option X) (words : List Word) (k : ℕ) (x : X) → option_and_then says (slice_get words k) ≡ Some x → k < length words
word_within says words k x said = elim (slice_get_cases words k).1 [
  | inl found ↦ found.1
  | inr past ↦ absurd (let none : None ≡ Some x = sym (ap (option_and_then says) past.1) ∙ said in cc)
]

named_first : (words : List Word) (command : Command) → is_big words ≡ false → command_of words ≡ Some command → (1 ≤ length words) × (is_bad words 0 ≡ false)
named_first words command plain named =
    let first : option_and_then command_named (slice_get words 0) ≡ Some command = rw plain at named in
    (word_within command_named words 0 command first, rw (plain, first) refl)

-- a command whose input may be made is one
from_made : (found : Option Command) (command : Command) → if_made found ≡ Some command → found ≡ Some command
from_made None command is = absurd cc
from_made (Some found) command is = by_test (nat_lt 0 (most_for found)) is
  where
    by_test : (test : Bool) → cond test (Some found) None ≡ Some command → Some found ≡ Some command
    by_test true same = same
    by_test false none = absurd cc

named_second : (words : List Word) (command : Command) → is_big words ≡ true → command_of words ≡ Some command → (2 ≤ length words) × (is_bad words 1 ≡ false)
named_second words command big named =
    let second : if_made (option_and_then command_named (slice_get words 1)) ≡ Some command = rw big at named in
    (word_within command_named words 1 command (from_made (option_and_then command_named (slice_get words 1)) command second), rw (big, second) refl)

-- what the number behind a command is
numbered : (words : List Word) (command : Command) → command_of words ≡ Some command → number_of words ≡ option_and_then (number_within 1 (most_for command)) (slice_get words 2)
numbered words command named = ap (λ found. option_and_then (number_within 1 (most_for (unwrap_or found Sim))) (slice_get words 2)) named

bad_number : (words : List Word) → is_big words ≡ true → is_bad words 2 ≡ is_none (number_of words)
bad_number words big = rw big refl

below_two : (words : List Word) → is_bad words 0 ≡ false → is_bad words 1 ≡ false → (k : ℕ) → k < 2 → is_bad words k ≡ false
below_two words first second k below = fine_more words 1 (λ k below. let none : k ≡ 0 = omega arith in ap (is_bad words) none ∙ first) second k below

pub refused_number : (words : List Word) (command : Command) → is_big words ≡ true → command_of words ≡ Some command → option_and_then (number_within 1 (most_for command)) (slice_get words 2) ≡ None → options_of words ≡ Err 3
refused_number words command big named none =
    let second = named_second words command big named in
    refused_at words 2 second.0 (bad_number words big ∙ ap is_none (numbered words command named ∙ none)) (below_two words (big_first words big).1 second.1)

pub heading_plain : (words : List Word) (command : Command) → is_big words ≡ false → command_of words ≡ Some command → IsHeading words (record { command = command; big = 0; len = 1 })
heading_plain words command plain named =
    let first = named_first words command plain named in
    record {
      command = named;
      big = rw plain refl;
      len = rw plain refl;
      within = first.0;
      fine = λ k below. let none : k ≡ 0 = omega arith in ap (is_bad words) none ∙ first.1;
    }

pub heading_big : (words : List Word) (command : Command) (number : ℕ) → is_big words ≡ true → command_of words ≡ Some command → option_and_then (number_within 1 (most_for command)) (slice_get words 2) ≡ Some number
    → IsHeading words (record { command = command; big = number; len = 3 })
heading_big words command number big named said =
    let second = named_second words command big named in
    let is_number : number_of words ≡ Some number = numbered words command named ∙ said in
    record {
      command = named;
      big = cond-true (is_big words) _ _ big ∙ ap (λ found. unwrap_or found 0) is_number;
      len = rw big refl;
      within = word_within (number_within 1 (most_for command)) words 2 number said;
      fine = fine_more words 2 (below_two words (big_first words big).1 second.1) (bad_number words big ∙ ap is_none is_number);
    }

-- how the words of the heading are found
pub plain_command : (words : List Word) → is_big words ≡ false → command_of words ≡ option_and_then command_named (slice_get words 0)
plain_command words plain = cond-false (is_big words) _ _ plain

pub big_command : (words : List Word) → is_big words ≡ true → command_of words ≡ if_made (option_and_then command_named (slice_get words 1))
big_command words big = cond-true (is_big words) _ _ big

-- there are few options, each given once
pub index_small : (words : List Word) (draft : Draft) (index : ℕ) → IsRead words draft index → index ≤ 19
index_small words draft index read =
    elim (heading_odd words) [
      | inl one ↦ omega (arith, read.turn, given_count_le draft, one)
      | inr three ↦ omega (arith, read.turn, given_count_le draft, three)
    ]
