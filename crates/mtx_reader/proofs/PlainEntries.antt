-- Lines of two numbers with one space between, at the front of an input.
use Rattle.std.specs.Prelude.{◌≡◌, ℕ, ◌+◌, ◌-◌, ◌*◌, suc, ◌<◌, ◌≤◌, ◌^◌, ◌%◌, nat_lt, nat_le, ◌==◌, ◌&&◌, Bool, true, false, not, List, [], ◌∷◌, ◌++◌, length, take, drop, map, Option, None, Some, Result, Ok, Err, cond, pos, refl}
use Rattle.std.specs.Char.{is_ascii_digit}
use Rattle.std.specs.List.{list_all, onto_first}
use Rattle.std.specs.Str.Lines.{strip_carriage_return}
use Rattle.std.proofs.Common.{rules, arith, ap, sym, subst, ◌∙◌, append-nil, append_assoc, get_or, length-append}
use Rattle.std.specs.Str.Parse.{digits_value}
use Rattle.std.proofs.lemmas.Bool.{eqb-true, lt-ltb}
use Rattle.std.proofs.lemmas.Bool.Decides.{nat_tests}
use Rattle.std.proofs.lemmas.Int.Digits.{digits_value_more}
use Rattle.std.proofs.lemmas.List.{drop_more, drop-drop, length-drop, length-take, take-append-drop, take_more}
use Rattle.std.proofs.lemmas.Str.{digit_value_digit}
use Rattle.std.proofs.lemmas.Str.Parse.{IsNumeralModel, numerals_by_weight, digits_value_short, digit_at}
use Rattle.kdg_text.specs.declared.number.NumFault.{NumFault}
use Rattle.kdg_text.specs.declared.number.NumFault.TheVariants.{NotDigit, Empty}
use Rattle.std.specs.Option.{option_map_or}
use Rattle.kdg_text.specs.Faults.{forms_from}
use Rattle.kdg_text.specs.Lines.{lines_of, parts_of}
use Rattle.kdg_text.specs.Numbers.{below, u64_of, value_of_digits}
use Rattle.kdg_text.specs.Tokens.{begins_with_word, ends_word, tokens_of, with_byte}
use Rattle.mtx_reader.specs.declared.banner.Field.TheVariants.{Pattern}
use Rattle.mtx_reader.specs.declared.line_form.Entry.{Entry}
use Rattle.mtx_reader.specs.declared.line_form.LineForm.{LineForm}
use Rattle.mtx_reader.specs.LineForms.{entry_from, form_of, form_of_words, is_comment, words_of}
use Rattle.mtx_reader.specs.PlainLines.{SaysFirst}
use Rattle.mtx_reader.specs.Readings.{forms_left}

first-true : (a b : Bool) → (a && b) ≡ true → a ≡ true
first-true true b e = refl
first-true false b e = e

second-true : (a b : Bool) → (a && b) ≡ true → b ≡ true
second-true true b e = e
second-true false b e = absurd (cc)

-- a digit is no other byte
not-code : (byte code : ℕ) → is_ascii_digit byte ≡ true → is_ascii_digit code ≡ false → (byte == code) ≡ false
not-code byte code digit other = by (byte == code) refl
  where
    by : (same : Bool) → (byte == code) ≡ same → same ≡ false
    by false told = refl
    by true told = let clash : true ≡ false = sym digit ∙ (ap is_ascii_digit (eqb-true byte code told) ∙ other) in absurd (cc)

-- what is a number has digits alone
number-digits : (word : List ℕ) (n : ℕ) → u64_of word ≡ Ok n → (0 < length word) × (list_all is_ascii_digit word ≡ true)
number-digits [] n said = let clash : Err Empty ≡ Ok n = said in absurd (cc)
number-digits (byte ∷ bytes) n said = by (list_all is_ascii_digit (byte ∷ bytes)) refl
  where
    by : (all : Bool) → list_all is_ascii_digit (byte ∷ bytes) ≡ all → (0 < length (byte ∷ bytes)) × (list_all is_ascii_digit (byte ∷ bytes) ≡ true)
    by true same = (omega arith, same)
    by false same =
        let clash : Err NotDigit ≡ Ok n = subst (λ all. below (2 ^ 64) (λ k. k) (cond all (Ok (value_of_digits (byte ∷ bytes))) (Err NotDigit)) ≡ Ok n) same said in
        absurd (cc)

-- a digit stands in front of the tokens
digit-in-front : (x : ℕ) (follows : Bool) (tokens : List (List ℕ)) → is_ascii_digit x ≡ true → with_byte [] x follows tokens ≡ cond follows (onto_first x tokens) ((x ∷ []) ∷ tokens)
digit-in-front x true tokens digit = rw (not-code x 32 digit refl, not-code x 9 digit refl) refl
digit-in-front x false tokens digit = rw (not-code x 32 digit refl, not-code x 9 digit refl) refl

-- digits are a token, up to where no word goes on
tokens-digits : (digits rest : List ℕ) → 0 < length digits → list_all is_ascii_digit digits ≡ true → begins_with_word [] rest ≡ false → tokens_of [] (digits ++ rest) ≡ digits ∷ tokens_of [] rest
tokens-digits [] rest some all apart = absurd (omega arith)
tokens-digits (x ∷ []) rest some all apart =
    digit-in-front x (begins_with_word [] rest) (tokens_of [] rest) (first-true (is_ascii_digit x) true all)
    ∙ ap (λ follows. cond follows (onto_first x (tokens_of [] rest)) ((x ∷ []) ∷ tokens_of [] rest)) apart
tokens-digits (x ∷ y ∷ ys) rest some all apart =
    let others = second-true (is_ascii_digit x) (list_all is_ascii_digit (y ∷ ys)) all in
    let digit = first-true (is_ascii_digit y) (list_all is_ascii_digit ys) others in
    let word : ends_word [] y ≡ false = rw (not-code y 32 digit refl, not-code y 9 digit refl) refl in
    digit-in-front x (not (ends_word [] y)) (tokens_of [] (y ∷ (ys ++ rest))) (first-true (is_ascii_digit x) (list_all is_ascii_digit (y ∷ ys)) all)
    ∙ ap (λ ends. cond (not ends) (onto_first x (tokens_of [] (y ∷ (ys ++ rest)))) ((x ∷ []) ∷ tokens_of [] (y ∷ (ys ++ rest)))) word
    ∙ ap (onto_first x) (tokens-digits (y ∷ ys) rest (omega arith) others apart)

plain-words : (front rest : List ℕ) (row column : ℕ) → u64_of front ≡ Ok row → u64_of rest ≡ Ok column → words_of (front ++ 32 ∷ rest) ≡ front ∷ rest ∷ []
plain-words front rest row column said told =
    let one = number-digits front row said in
    let two = number-digits rest column told in
    tokens-digits front (32 ∷ rest) one.0 one.1 refl
    ∙ ap (λ words. front ∷ words) (ap (tokens_of []) (sym (append-nil rest)) ∙ tokens-digits rest [] two.0 two.1 refl)

no-comment : (front rest : List ℕ) → 0 < length front → list_all is_ascii_digit front ≡ true → is_comment (front ++ rest) ≡ false
no-comment [] rest some all = absurd (omega arith)
no-comment (x ∷ xs) rest some all = not-code x 37 (first-true (is_ascii_digit x) (list_all is_ascii_digit xs) all) refl

-- what two words say as an entry, and as no size
abbrev form-by : Result ℕ NumFault → Result ℕ NumFault → Option LineForm
form-by row column = Some (record { size = None; entry = entry_from row column (Ok (pos 1)) })

plain-form : (front rest : List ℕ) (row column : ℕ) → u64_of front ≡ Ok row → u64_of rest ≡ Ok column → form_of Pattern (front ++ 32 ∷ rest) ≡ form-by (Ok row) (Ok column)
plain-form front rest row column said told =
    let digits = number-digits front row said in
    ap (λ comment. cond comment None (form_of_words Pattern (words_of (front ++ 32 ∷ rest)))) (no-comment front (32 ∷ rest) digits.0 digits.1)
    ∙ ap (form_of_words Pattern) (plain-words front rest row column said told)
    ∙ ap (λ found. form-by found (u64_of rest)) said
    ∙ ap (form-by (Ok row)) told

-- std's lemmas on numerals hold of these digits and this value
own : IsNumeralModel (λ word. list_all is_ascii_digit word ≡ true) value_of_digits
own = numerals_by_weight _ (search rules) value_of_digits (search rules)

-- no line feed is among digits
parts-digits : (digits rest first : List ℕ) (more : List (List ℕ)) → list_all is_ascii_digit digits ≡ true → parts_of rest ≡ first ∷ more → parts_of (digits ++ rest) ≡ (digits ++ first) ∷ more
parts-digits [] rest first more all is = is
parts-digits (x ∷ xs) rest first more all is =
    ap (λ feed. cond feed ([] ∷ parts_of (xs ++ rest)) (onto_first x (parts_of (xs ++ rest)))) (not-code x 10 (first-true (is_ascii_digit x) (list_all is_ascii_digit xs) all) refl)
    ∙ ap (onto_first x) (parts-digits xs rest first more (second-true (is_ascii_digit x) (list_all is_ascii_digit xs) all) is)

last-append : (front word : List ℕ) → 0 < length word → get_or (front ++ word) (length (front ++ word) - 1) 0 ≡ get_or word (length word - 1) 0
last-append [] word some = refl
last-append (x ∷ xs) word some =
    let more : length (x ∷ (xs ++ word)) - 1 ≡ suc (length (xs ++ word) - 1) = omega (arith, length-append xs word) in
    ap (λ k. get_or (x ∷ (xs ++ word)) k 0) more ∙ last-append xs word some

-- no carriage return is behind a digit
ends-digit : (front word : List ℕ) → 0 < length word → list_all is_ascii_digit word ≡ true → strip_carriage_return (front ++ word) ≡ front ++ word
ends-digit front word some all =
    let digit = digit_at word (length word - 1) (own.to word all) (omega arith) in
    let other : (get_or word (length word - 1) 0 == 13) ≡ false = grind (arith, nat_tests) in
    ap (λ returns. cond returns (take (length (front ++ word) - 1) (front ++ word)) (front ++ word)) (ap (λ byte. byte == 13) (last-append front word some) ∙ other)

plain-cut : (front word tail : List ℕ) (row column : ℕ) → u64_of front ≡ Ok row → u64_of word ≡ Ok column → lines_of (front ++ 32 ∷ (word ++ 10 ∷ tail)) ≡ (front ++ 32 ∷ word) ∷ lines_of tail
plain-cut front word tail row column said told =
    let one = number-digits front row said in
    let two = number-digits word column told in
    let feed : parts_of (word ++ 10 ∷ tail) ≡ word ∷ parts_of tail = parts-digits word (10 ∷ tail) [] (parts_of tail) two.1 refl ∙ ap (λ w. w ∷ parts_of tail) (append-nil word) in
    let whole = parts-digits front (32 ∷ (word ++ 10 ∷ tail)) (32 ∷ word) (parts_of tail) one.1 (ap (onto_first 32) feed) in
    let kept : strip_carriage_return (front ++ 32 ∷ word) ≡ front ++ 32 ∷ word = ap strip_carriage_return (sym (append_assoc front (32 ∷ []) word)) ∙ ends-digit (front ++ 32 ∷ []) word two.0 two.1 ∙ append_assoc front (32 ∷ []) word in
    ap (map strip_carriage_return) whole ∙ ap (λ line. line ∷ lines_of tail) kept

-- two numbers with a space between and a line feed behind
pub plain_first : (bytes : List ℕ) (at long row column : ℕ) → at + 1 + long < length bytes → get_or bytes at 0 ≡ 32 → get_or (drop (at + 1) bytes) long 0 ≡ 10
    → u64_of (take at bytes) ≡ Ok row → u64_of (take long (drop (at + 1) bytes)) ≡ Ok column → SaysFirst bytes (record { row = row; column = column; value = pos 1 }) (drop (at + 1 + long + 1) bytes)
plain_first bytes at long row column inside space feed said told = record {
  line = take at bytes ++ 32 ∷ take long (drop (at + 1) bytes);
  cut = ap lines_of parts ∙ plain-cut (take at bytes) (take long (drop (at + 1) bytes)) tail row column said told ∙ ap (λ rest. (take at bytes ++ 32 ∷ take long (drop (at + 1) bytes)) ∷ lines_of rest) tail-is;
  says = plain-form (take at bytes) (take long (drop (at + 1) bytes)) row column said told;
}
  where
    tail : List ℕ
    tail = drop (long + 1) (drop (at + 1) bytes)

    tail-is : tail ≡ drop (at + 1 + long + 1) bytes
    tail-is = let on : at + 1 + (long + 1) ≡ at + 1 + long + 1 = omega arith in drop-drop (long + 1) (at + 1) bytes ∙ ap (λ k. drop k bytes) on

    behind : drop (at + 1) bytes ≡ take long (drop (at + 1) bytes) ++ 10 ∷ tail
    behind =
        sym (take-append-drop long (drop (at + 1) bytes))
        ∙ ap (λ rest. take long (drop (at + 1) bytes) ++ rest) (drop_more (drop (at + 1) bytes) long 0 (omega (arith, length-drop (at + 1) bytes)) ∙ ap (λ byte. byte ∷ tail) feed)

    parts : bytes ≡ take at bytes ++ 32 ∷ (take long (drop (at + 1) bytes) ++ 10 ∷ tail)
    parts = sym (take-append-drop at bytes) ∙ ap (λ rest. take at bytes ++ rest) (drop_more bytes at 0 (omega arith) ∙ ap (λ byte. byte ∷ drop (at + 1) bytes) space ∙ ap (λ rest. 32 ∷ rest) behind)

digit_between : (byte : ℕ) → 48 ≤ byte → byte ≤ 57 → is_ascii_digit byte ≡ true
digit_between byte from to =
    let low : nat_le 48 byte ≡ true = grind (arith, nat_tests) in
    let high : nat_le byte 57 ≡ true = grind (arith, nat_tests) in
    rw (low, high) refl

-- what is at most 9 above the code of a 0, below which it wraps, is a digit
digit_from : (byte : ℕ) → byte < 4_294_967_296 → (byte + 4_294_967_248) % 4_294_967_296 ≤ 9 → (is_ascii_digit byte ≡ true) × ((byte + 4_294_967_248) % 4_294_967_296 ≡ byte - 48)
digit_from byte small few =
    let from : 48 ≤ byte = omega arith in
    let to : byte ≤ 57 = omega arith in
    (digit_between byte from to, omega arith)

-- one digit more
digits_more : (bytes : List ℕ) (i : ℕ) → i < length bytes → list_all is_ascii_digit (take i bytes) ≡ true → is_ascii_digit (get_or bytes i 0) ≡ true → list_all is_ascii_digit (take (i + 1) bytes) ≡ true
digits_more bytes i inside all here = ap (list_all is_ascii_digit) (take_more bytes i 0 inside) ∙ push (take i bytes) (get_or bytes i 0) all here
  where
    push : (digits : List ℕ) (digit : ℕ) → list_all is_ascii_digit digits ≡ true → is_ascii_digit digit ≡ true → list_all is_ascii_digit (digits ++ digit ∷ []) ≡ true
    push [] digit all here = ap (λ first. first && true) here
    push (x ∷ xs) digit all here =
        let rest = push xs digit (second-true (is_ascii_digit x) (list_all is_ascii_digit xs) all) here in
        ap (λ others. is_ascii_digit x && others) rest ∙ ap (λ first. first && true) (first-true (is_ascii_digit x) (list_all is_ascii_digit xs) all)

-- the value with one digit more, which is small where there are few digits
value_with : (bytes : List ℕ) (i : ℕ) → i < length bytes → is_ascii_digit (get_or bytes i 0) ≡ true → digits_value 10 (take (i + 1) bytes) ≡ 10 * digits_value 10 (take i bytes) + (get_or bytes i 0 - 48)
value_with bytes i inside here =
    let digit = digit_value_digit _ (digit_at (get_or bytes i 0 ∷ []) 0 (own.to (get_or bytes i 0 ∷ []) (ap (λ first. first && true) here)) (omega arith)) in
    let more = digits_value_more 10 bytes i inside in
    omega arith

-- the same of a byte that was read, and its digit
pub one_more : (bytes : List ℕ) (i value byte : ℕ) → i < length bytes → byte ≡ get_or bytes i 0 → byte < 4_294_967_296 → (byte + 4_294_967_248) % 4_294_967_296 ≤ 9
    → list_all is_ascii_digit (take i bytes) ≡ true → value ≡ digits_value 10 (take i bytes)
    → (list_all is_ascii_digit (take (i + 1) bytes) ≡ true) × (10 * value + (byte + 4_294_967_248) % 4_294_967_296 ≡ digits_value 10 (take (i + 1) bytes))
one_more bytes i value byte inside read small few all so_far =
    let found = digit_from byte small few in
    let here : is_ascii_digit (get_or bytes i 0) ≡ true = subst (λ b. is_ascii_digit b ≡ true) read found.0 in
    (digits_more bytes i inside all here, omega (arith, value_with bytes i inside here, found.1, read, so_far))

pub few_digits : (bytes : List ℕ) (i : ℕ) → i ≤ 4 → list_all is_ascii_digit (take i bytes) ≡ true → digits_value 10 (take i bytes) < 10_000
few_digits bytes i few all =
    let short : length (take i bytes) ≤ 4 = omega (arith, length-take i bytes) in
    let small = digits_value_short own (take i bytes) 4 all short in
    let same = own.same (take i bytes) (own.to (take i bytes) all) in
    omega arith

-- what digits spell as a number
number_from_digits : (word : List ℕ) → 0 < length word → list_all is_ascii_digit word ≡ true → digits_value 10 word < 2 ^ 64 → u64_of word ≡ Ok (digits_value 10 word)
number_from_digits [] some all small = absurd (omega arith)
number_from_digits (byte ∷ bytes) some all small =
    let same = own.same (byte ∷ bytes) (own.to (byte ∷ bytes) all) in
    let test : nat_lt (value_of_digits (byte ∷ bytes)) (2 ^ 64) ≡ true = lt-ltb _ _ (omega arith) in
    rw (all, test) (ap Ok same)

-- the same of the digits in front of anything else
pub number_so_far : (bytes : List ℕ) (i value : ℕ) → i ≤ 4 → i ≤ length bytes → list_all is_ascii_digit (take i bytes) ≡ true → value ≡ digits_value 10 (take i bytes)
    → 0 < i → u64_of (take i bytes) ≡ Ok value
number_so_far bytes i value few inside all is some =
    let small = few_digits bytes i few all in
    rw is (number_from_digits (take i bytes) (omega (arith, length-take i bytes)) all (omega arith))

-- what is left of lines, of which the first says an entry
pub first-left : (number : ℕ) (bytes rest : List ℕ) (entry : Entry) → SaysFirst bytes entry rest
    → forms_left Pattern (record { number = number; lines = lines_of bytes })
    ≡ record { number = number; form = record { size = None; entry = Some entry } } ∷ forms_left Pattern (record { number = number + 1; lines = lines_of rest })
first-left number bytes rest entry first =
    ap (forms_from (form_of Pattern) number) first.cut
    ∙ ap (λ (said : Option LineForm). option_map_or (λ (form : LineForm). record { number = number; form = form } ∷ forms_from (form_of Pattern) (number + 1) (lines_of rest)) said (forms_from (form_of Pattern) (number + 1) (lines_of rest))) first.says

pub first-shorter : (bytes rest : List ℕ) (entry : Entry) → SaysFirst bytes entry rest → length (lines_of bytes) ≡ length (lines_of rest) + 1
first-shorter bytes rest entry first = let whole = ap length first.cut in omega arith
