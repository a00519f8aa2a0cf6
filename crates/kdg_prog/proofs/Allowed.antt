use Rattle.std.proofs.Common.{ℕ, ◌≤◌, ◌&&◌, List, Bool, true, false, cond, Option, Some, None, unwrap_or, option_and_then, arith, inl, inr}
use Rattle.std.proofs.lemmas.Bool.{cases_Bool, and_parts, leb-true}
use Rattle.std.specs.Prelude.{nat_le, IfOk}
use Rattle.std.specs.Result.{result_ok}
use Rattle.std.specs.List.{slice_get}
use Rattle.kdg_text.specs.Numbers.{u64_of}
use Rattle.kdg_prog.specs.Words.{Word, IsAllowed, number_within, given_value, options_given, options_unless, options_of, first_bad, settings_of, command_in, big_of, is_big, number_of, most_for}
use Rattle.kdg_prog.specs.declared.words.OptionName.TheVariants as name
use Rattle.kdg_prog.specs.declared.words.Options.{Options}

abbrev Lies : ℕ → ℕ → ℕ → Type 0
Lies low high n = (low ≤ n) × (n ≤ high)

-- a number that passed the test of a range, or a default in the range, lies in the range
kept_lies : (low high default : ℕ) → Lies low high default → (read : Option ℕ) → Lies low high (unwrap_or (option_and_then (λ n. cond (nat_le low n && nat_le n high) (Some n) None) read) default)
kept_lies low high default lies None = lies
kept_lies low high default lies (Some n) =
    elim (cases_Bool (nat_le low n && nat_le n high)) as (λ _. Lies low high (unwrap_or (cond (nat_le low n && nat_le n high) (Some n) None) default)) [
      | inl within ↦ (let parts = and_parts (nat_le low n) (nat_le n high) within in rw (within) (leb-true low n parts.0, leb-true n high parts.1))
      | inr without ↦ rw (without) lies
    ]

value_lies : (low high default : ℕ) → Lies low high default → (given : Option Word) → Lies low high (unwrap_or (option_and_then (number_within low high) given) default)
value_lies low high default lies None = lies
value_lies low high default lies (Some word) = kept_lies low high default lies (result_ok (u64_of word))

-- a number that passed the test of a range, or 0, lies below its end
kept_below : (low high : ℕ) (read : Option ℕ) → unwrap_or (option_and_then (λ n. cond (nat_le low n && nat_le n high) (Some n) None) read) 0 ≤ high
kept_below low high None = omega arith
kept_below low high (Some n) =
    elim (cases_Bool (nat_le low n && nat_le n high)) as (λ _. unwrap_or (cond (nat_le low n && nat_le n high) (Some n) None) 0 ≤ high) [
      | inl within ↦ (let parts = and_parts (nat_le low n) (nat_le n high) within in rw (within) (leb-true n high parts.1))
      | inr without ↦ rw (without) (omega arith)
    ]

value_below : (low high : ℕ) (given : Option Word) → unwrap_or (option_and_then (number_within low high) given) 0 ≤ high
value_below low high None = omega arith
value_below low high (Some word) = kept_below low high (result_ok (u64_of word))

big_lies : (words : List Word) (big : Bool) → cond big (unwrap_or (number_of words) 0) 0 ≤ most_for (command_in words)
big_lies words true = value_below 1 (most_for (command_in words)) (slice_get words 2)
big_lies words false = omega arith

given_allowed : (words : List Word) → IsAllowed (options_given (command_in words) (big_of words) (settings_of words))
given_allowed words = record {
  big = big_lies words (is_big words);
  workers = value_lies 1 64 4 (omega arith, omega arith) (given_value name.Workers (settings_of words));
  until = (value_lies 0 1000000000 1000 (omega arith, omega arith) (given_value name.Until (settings_of words))).1;
  clock = value_lies 1 1000000000 10 (omega arith, omega arith) (given_value name.Clock (settings_of words));
  from = value_lies 1 4096 1 (omega arith, omega arith) (given_value name.From (settings_of words));
  budget = (value_lies 0 1000000000 1000000 (omega arith, omega arith) (given_value name.Budget (settings_of words))).1;
}

unless_allowed : (found : Option ℕ) (options : Options) → IsAllowed options → IfOk (options_unless found options) IsAllowed
unless_allowed None options allowed = allowed
unless_allowed (Some index) options allowed = tt

-- what words ask for is allowed
pub options_of_allowed : (words : List Word) → IfOk (options_of words) IsAllowed
options_of_allowed words = unless_allowed (first_bad words) _ (given_allowed words)
