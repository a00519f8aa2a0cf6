use Rattle.std.proofs.Common.{◌≡◌, ℕ, ◌+◌, ◌*◌, ◌-◌, ◌<◌, List, [], ◌∷◌, ◌++◌, Bool, true, cond, Option, Some, None, length, take, drop, get_or, refl, ap, inl, inr, ◌∙◌, arith, sym, append_assoc, length-drop}
use Rattle.std.proofs.lemmas.Bool.{cond-true, cond-false, cases_Bool}
use Rattle.std.proofs.lemmas.List.{take_more, length-take-le, drop-append-le}
use Rattle.std.proofs.lemmas.Slice.Eq.{bytes_eq-Decides}
use Rattle.std.specs.List.{find}
use Rattle.std.specs.Option.{option_or, option_and_then}
use Rattle.std.specs.Str.{bytes_eq}
use Rattle.kdg_prog.specs.Words.{Word, pairs_of, settings_before, heading_len, given_value, name_of, option_named, option_names, option_for, takes}
use Rattle.kdg_prog.specs.declared.words.Command.{Command}
use Rattle.kdg_prog.specs.declared.words.OptionName.{OptionName}

-- what is found passes
find_passes : {X : Type 0} (test : X → Bool) (xs : List X) (x : X) → find test xs ≡ Some x → test x ≡ true
find_passes test [] x found = cc
find_passes test (y ∷ ys) x found =
    elim (cases_Bool (test y)) as (λ _. test x ≡ true) [
      | inl passes ↦ (let same : Some y ≡ Some x = sym (cond-true (test y) (Some y) (find test ys) passes) ∙ found in let e : y ≡ x = cc in sym (ap test e) ∙ passes)
      | inr fails ↦ find_passes test ys x (sym (cond-false (test y) (Some y) (find test ys) fails) ∙ found)
    ]

-- a word that names an option is that option's name
pub name_from_named : (word : Word) (name : OptionName) → option_named word ≡ Some name → word ≡ name_of name
name_from_named word name named =
    (bytes_eq-Decides word (name_of name)).0 (find_passes (λ n. bytes_eq word (name_of n)) option_names name named)

-- an option of a command has its name
pub named_from_for : (command : Command) (word : Word) (name : OptionName) → option_for command word ≡ Some name → option_named word ≡ Some name
named_from_for command word name is = kept (option_named word) is
  where
    kept : (found : Option OptionName) → option_and_then (λ n. cond (takes command n) (Some n) None) found ≡ Some name → found ≡ Some name
    kept None is = cc
    kept (Some n) is = elim (cases_Bool (takes command n)) [
      | inl taken ↦ sym (cond-true (takes command n) (Some n) None taken) ∙ is
      | inr other ↦ absurd (let none : None ≡ Some name = sym (cond-false (takes command n) (Some n) None other) ∙ is in cc)
    ]

pairs_of-append : (words more : List Word) (k : ℕ) → length words ≡ 2 * k → pairs_of (words ++ more) ≡ pairs_of words ++ pairs_of more
pairs_of-append [] more k even = refl
pairs_of-append (word ∷ []) more k even = absurd (omega arith)
pairs_of-append (word ∷ next ∷ words) more k even =
    ap (λ pairs. (word, next) ∷ pairs) (pairs_of-append words more (k - 1) (omega arith))

take_two : (words : List Word) (index : ℕ) → index + 1 < length words → take (index + 2) words ≡ take index words ++ get_or words index [] ∷ get_or words (index + 1) [] ∷ []
take_two words index within =
    let one_more = take_more words index [] (omega arith) in
    let e : index + 2 ≡ (index + 1) + 1 = omega arith in
    rw (e, take_more words (index + 1) [] within, one_more) (append_assoc (take index words) _ _)

-- one more option with its value
pub settings_more : (words : List Word) (index k : ℕ) → index ≡ heading_len words + 2 * k → index + 1 < length words → settings_before words (index + 2) ≡ settings_before words index ++ (get_or words index [], get_or words (index + 1) []) ∷ []
settings_more words index k turn within =
    let front = take index words in
    let len = heading_len words in
    let long : length front ≡ index = length-take-le index words (omega arith) in
    let even : length (drop len front) ≡ 2 * k = omega (arith, length-drop len front, turn, long) in
    ap (λ taken. pairs_of (drop len taken)) (take_two words index within)
    ∙ ap pairs_of (drop-append-le len front _ (omega (arith, turn, long)))
    ∙ pairs_of-append (drop len front) _ k even

pub given_value_more : (name : OptionName) (settings : List (Word × Word)) (word value : Word) → given_value name (settings ++ (word, value) ∷ []) ≡ option_or (given_value name settings) (cond (bytes_eq word (name_of name)) (Some value) None)
given_value_more name [] word value =
    elim (cases_Bool (bytes_eq word (name_of name))) as (λ _. given_value name ((word, value) ∷ []) ≡ cond (bytes_eq word (name_of name)) (Some value) None) [
      | inl same ↦ rw (same) refl
      | inr other ↦ rw (other) refl
    ]
given_value_more name (setting ∷ settings) word value =
    elim (cases_Bool (bytes_eq setting.0 (name_of name))) as (λ _. given_value name (setting ∷ (settings ++ (word, value) ∷ [])) ≡ option_or (given_value name (setting ∷ settings)) (cond (bytes_eq word (name_of name)) (Some value) None)) [
      | inl same ↦ rw (same) refl
      | inr other ↦ rw (other) (given_value_more name settings word value)
    ]
