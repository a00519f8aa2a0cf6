use Rattle.std.proofs.Common.{◌≡◌, ◌∙◌, true, None, Some, map, string_bytes, sym, ap, rules}
use Rattle.std.specs.List.{slice_get}
use Rattle.std.specs.Option.{option_and_then}
use Rattle.kdg_prog.specs.Words.{command_of, is_big, number_within}
use Rattle.kdg_prog.proofs.Reading.{big_command, heading_big, refused_big_command, refused_number}
use Rattle.kdg_prog.proofs.words.read_heading.Goals as goal

pub returns-in_default-made_command_at-clause-refused : goal.returns-in_default-made_command_at-clause-refused
returns-in_default-made_command_at-clause-refused c =
    let words = map string_bytes c.args.words.now.items in
    let made : c.is_big.result ≡ true = search rules in
    let none : c.made_command_at.result ≡ None = search rules in
    let big : is_big words ≡ true = sym c.is_big.ensures ∙ made in
    refused_big_command words big (big_command words big ∙ sym c.made_command_at.ensures ∙ none)

pub returns-in_default-number_at-clause-refused : goal.returns-in_default-number_at-clause-refused
returns-in_default-number_at-clause-refused c =
    let words = map string_bytes c.args.words.now.items in
    let command = c.in-Some-made_command_at.command in
    let made : c.is_big.result ≡ true = search rules in
    let none : c.number_at.result ≡ None = search rules in
    let big : is_big words ≡ true = sym c.is_big.ensures ∙ made in
    let named : command_of words ≡ Some command = big_command words big ∙ sym c.in-Some-made_command_at.ensures in
    refused_number words command big named
    (ap (λ most. option_and_then (number_within 1 most) (slice_get words 2)) (sym c.most_for.ensures.value) ∙ sym c.number_at.ensures.value ∙ none)

pub returns-clause-read : goal.returns-clause-read
returns-clause-read c =
    let words = map string_bytes c.args.words.now.items in
    let command = c.in-Some-made_command_at.command in
    let made : c.is_big.result ≡ true = search rules in
    let big : is_big words ≡ true = sym c.is_big.ensures ∙ made in
    let named : command_of words ≡ Some command = big_command words big ∙ sym c.in-Some-made_command_at.ensures in
    heading_big words command c.in-Some-number_at.big big named
    (ap (λ most. option_and_then (number_within 1 most) (slice_get words 2)) (sym c.most_for.ensures.value) ∙ sym c.in-Some-number_at.ensures.value)
