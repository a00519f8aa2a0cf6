use Rattle.kdg_prog.proofs.words.read_words.Goals as goal
use Rattle.std.proofs.Common.{◌≡◌, ◌+◌, ◌≤◌, map, string_bytes, ℕ, ◌<◌, length, true, false, List, [], Some, None, Ok, Err, get_or, sym, ap, refl, ◌∙◌, arith, String, Global, Option, Result, subst, unwrap_or}
use Rattle.std.proofs.lemmas.List.{get_or-map, length-map}
use Rattle.std.specs.Option.{ok_or}
use Rattle.std.proofs.lemmas.Grind.{common_steps}
use Rattle.kdg_prog.specs.declared.words.Command.{Command}
use Rattle.kdg_prog.specs.declared.words.Command.TheVariants.{Sim}
use Rattle.kdg_prog.specs.declared.words.Options.{Options}
use Rattle.std.proofs.lemmas.Result.{err_from_is_err_and}
use Rattle.kdg_prog.proofs.Allowed.{options_of_allowed}
use Rattle.std.specs.Result.{IfOk}
use Rattle.kdg_prog.specs.Words.{Word, IsAllowed, options_of, option_for, is_value, command_of, command_in}
use Rattle.kdg_prog.proofs.Reading.{index_small, refused_unnamed, refused_again, refused_missing, refused_value, read_more, read_all}

-- the bytes of the words
abbrev bytes_of : List (String Global) → List Word
bytes_of words = map string_bytes words

byte_word : (words : List (String Global)) (index : ℕ) (word : String Global) → index < length words → word ≡ get_or words index word → get_or (bytes_of words) index [] ≡ string_bytes word
byte_word words index word within at = get_or-map string_bytes words index word [] within ∙ ap string_bytes (sym at)

-- the options are those of the command
for_command : (words : List Word) (command : Command) (word : Word) → command_of words ≡ Some command → option_for (command_in words) word ≡ option_for command word
for_command words command word is = ap (λ found. option_for (unwrap_or found Sim) word) is

err_of_none : {T : Type 0} (option : Option T) (place code : ℕ) → option ≡ None → ok_or option code ≡ Err place → place ≡ code
err_of_none None place code none is = cc
err_of_none (Some x) place code none is = cc

-- the way out of a `?` with a place
refused : (words : List Word) (result : Result Options ℕ) (place code : ℕ) → ((y : ℕ) × (result ≡ Err y) × (y ≡ place)) → place ≡ code → options_of words ≡ Err code → result ≡ options_of words
refused words result place code (y, is, from) same found = is ∙ ap (λ e. Err e) (from ∙ same) ∙ sym found

pub overflow_cast-place : goal.overflow_cast-place
overflow_cast-place c = omega (arith, index_small _ _ _ c.loop-index.invariant.0)

pub overflow_add-place : goal.overflow_add-place
overflow_add-place c = omega (arith, index_small _ _ _ c.loop-index.invariant.0)

pub overflow_add-place-in-loop-index : goal.overflow_add-place-in-loop-index
overflow_add-place-in-loop-index c = omega (arith, index_small _ _ _ c.loop-index.invariant.0)

pub overflow_add-place-in-loop-index-2 : goal.overflow_add-place-in-loop-index-2
overflow_add-place-in-loop-index-2 c = omega (arith, index_small _ _ _ c.loop-index.invariant.0)

pub returns-in_err-heading-clause-value : goal.returns-in_err-heading-clause-value
returns-in_err-heading-clause-value c =
    let p = err_from_is_err_and c.from_residual.result c.from_residual.ensures.1 in
    refused (bytes_of c.args.words.now.items) c.from_residual.result c.in_err-heading.field-0.0 c.in_err-heading.field-0.0 p refl c.in_err-heading.ensures.refused

pub returns-in_err-name-clause-value : goal.returns-in_err-name-clause-value
returns-in_err-name-clause-value c =
    let words = c.args.words.now.items in
    let index = c.loop-index.index in
    let p = err_from_is_err_and c.from_residual-in_err-name.result c.from_residual-in_err-name.ensures.1 in
    let word = byte_word words index c.index.result.now (omega arith) c.index.ensures in
    let unnamed : option_for (command_in (bytes_of words)) (get_or (bytes_of words) index []) ≡ None = for_command (bytes_of words) c.in_ok-heading.heading.command (get_or (bytes_of words) index []) c.loop-index.invariant.1.command ∙ ap (option_for c.in_ok-heading.heading.command) (word ∙ sym c.as_str.ensures.value) ∙ sym c.option_for.ensures ∙ c.in_err-name.ensures.ok_part in
    let place = err_of_none c.option_for.result c.in_err-name.field-0.0 (index + 1) c.in_err-name.ensures.ok_part (sym c.in_err-name.ensures.value) in
    refused (bytes_of words) c.from_residual-in_err-name.result c.in_err-name.field-0.0 (index + 1) p place
    (refused_unnamed (bytes_of words) c.loop-index.draft index c.loop-index.invariant.0 (omega (arith, length-map words string_bytes)) unnamed)

pub returns-then-has-clause-value : goal.returns-then-has-clause-value
returns-then-has-clause-value c =
    let words = c.args.words.now.items in
    let index = c.loop-index.index in
    let word = byte_word words index c.index.result.now (omega arith) c.index.ensures in
    let named : option_for (command_in (bytes_of words)) (get_or (bytes_of words) index []) ≡ Some c.in_ok-name.name = for_command (bytes_of words) c.in_ok-heading.heading.command (get_or (bytes_of words) index []) c.loop-index.invariant.1.command ∙ ap (option_for c.in_ok-heading.heading.command) (word ∙ sym c.as_str.ensures.value) ∙ sym c.option_for.ensures ∙ c.in_ok-name.ensures.ok_part in
    sym (refused_again (bytes_of words) c.loop-index.draft index c.in_ok-name.name c.loop-index.invariant.0 (omega (arith, length-map words string_bytes)) named (sym c.if-has.ensures))

pub returns-in_err-value-clause-value : goal.returns-in_err-value-clause-value
returns-in_err-value-clause-value c =
    let words = c.args.words.now.items in
    let index = c.loop-index.index in
    let p = err_from_is_err_and c.from_residual-in_err-value.result c.from_residual-in_err-value.ensures.1 in
    let word = byte_word words index c.index.result.now (omega arith) c.index.ensures in
    let named : option_for (command_in (bytes_of words)) (get_or (bytes_of words) index []) ≡ Some c.in_ok-name.name = for_command (bytes_of words) c.in_ok-heading.heading.command (get_or (bytes_of words) index []) c.loop-index.invariant.1.command ∙ ap (option_for c.in_ok-heading.heading.command) (word ∙ sym c.as_str.ensures.value) ∙ sym c.option_for.ensures ∙ c.in_ok-name.ensures.ok_part in
    let missing : length words ≤ index + 1 = grind (arith, common_steps) in
    let place = err_of_none c.get.result c.in_err-value.field-0.0 (index + 2) c.in_err-value.ensures.ok_part (ap (λ k. ok_or c.get.result k) (omega arith) ∙ sym c.in_err-value.ensures.value) in
    refused (bytes_of words) c.from_residual-in_err-value.result c.in_err-value.field-0.0 (index + 2) p place
    (refused_missing (bytes_of words) c.loop-index.draft index c.in_ok-name.name c.loop-index.invariant.0 (omega (arith, length-map words string_bytes)) named (sym c.if-has.ensures) (omega (arith, length-map words string_bytes)))

pub returns-in_err-ok_or-clause-value : goal.returns-in_err-ok_or-clause-value
returns-in_err-ok_or-clause-value c =
    let words = c.args.words.now.items in
    let index = c.loop-index.index in
    let p = err_from_is_err_and c.from_residual-in_err-ok_or.result c.from_residual-in_err-ok_or.ensures.1 in
    let word = byte_word words index c.index.result.now (omega arith) c.index.ensures in
    let named : option_for (command_in (bytes_of words)) (get_or (bytes_of words) index []) ≡ Some c.in_ok-name.name = for_command (bytes_of words) c.in_ok-heading.heading.command (get_or (bytes_of words) index []) c.loop-index.invariant.1.command ∙ ap (option_for c.in_ok-heading.heading.command) (word ∙ sym c.as_str.ensures.value) ∙ sym c.option_for.ensures ∙ c.in_ok-name.ensures.ok_part in
    let there : index + 1 < length words = grind (arith, common_steps) in
    let at : c.in_ok-value.value.now ≡ get_or words (index + 1) c.in_ok-value.value.now = grind (arith, common_steps) in
    let next = byte_word words (index + 1) c.in_ok-value.value.now there at ∙ sym c.as_str-in-loop-index.ensures.value in
    let invalid : is_value c.in_ok-name.name (get_or (bytes_of words) (index + 1) []) ≡ false = ap (is_value c.in_ok-name.name) next ∙ sym c.set.ensures.variant ∙ sym c.in_err-ok_or.ensures.variant in
    let place = err_of_none c.set.result c.in_err-ok_or.field-0.0 (index + 2) c.in_err-ok_or.ensures.ok_part (ap (λ k. ok_or c.set.result k) (omega arith) ∙ sym c.in_err-ok_or.ensures.value) in
    refused (bytes_of words) c.from_residual-in_err-ok_or.result c.in_err-ok_or.field-0.0 (index + 2) p place
    (refused_value (bytes_of words) c.loop-index.draft index c.in_ok-name.name c.loop-index.invariant.0 (omega (arith, length-map words string_bytes)) named (sym c.if-has.ensures) invalid)

pub loop-index-preserved : goal.loop-index-preserved
loop-index-preserved c =
    let words = c.args.words.now.items in
    let index = c.loop-index.index in
    let word = byte_word words index c.index.result.now (omega arith) c.index.ensures in
    let named : option_for (command_in (bytes_of words)) (get_or (bytes_of words) index []) ≡ Some c.in_ok-name.name = for_command (bytes_of words) c.in_ok-heading.heading.command (get_or (bytes_of words) index []) c.loop-index.invariant.1.command ∙ ap (option_for c.in_ok-heading.heading.command) (word ∙ sym c.as_str.ensures.value) ∙ sym c.option_for.ensures ∙ c.in_ok-name.ensures.ok_part in
    let there : index + 1 < length words = grind (arith, common_steps) in
    let at : c.in_ok-value.value.now ≡ get_or words (index + 1) c.in_ok-value.value.now = grind (arith, common_steps) in
    let next = byte_word words (index + 1) c.in_ok-value.value.now there at ∙ sym c.as_str-in-loop-index.ensures.value in
    let valid : is_value c.in_ok-name.name (get_or (bytes_of words) (index + 1) []) ≡ true = ap (is_value c.in_ok-name.name) next ∙ sym c.set.ensures.variant ∙ sym c.in_ok-ok_or.ensures.variant in
    let kept = (rw c.in_ok-ok_or.ensures.ok_part at c.set.ensures.kept) in
    let more = read_more (bytes_of words) c.loop-index.draft index c.in_ok-name.name c.loop-index.invariant.0 (omega (arith, length-map words string_bytes)) named (sym c.if-has.ensures) valid in
    (rw (kept, ← next) more, c.loop-index.invariant.1)

pub returns-clause-value : goal.returns-clause-value
returns-clause-value c =
    let words = c.args.words.now.items in
    ap (λ options. Ok options) c.options.ensures
    ∙ sym (read_all (bytes_of words) c.loop-index.draft c.loop-index.index c.in_ok-heading.heading c.loop-index.invariant.0 (omega (arith, length-map words string_bytes)) c.loop-index.invariant.1)

pub returns-clause-allowed : goal.returns-clause-allowed
returns-clause-allowed c =
    subst (λ result. IfOk result IsAllowed) (sym (returns-clause-value c)) (options_of_allowed (bytes_of c.args.words.now.items))
