-- Bytes in order are paths in order, and a path's bytes are read back.
use Rattle.std.specs.Cmp.{nat_cmp_total}
use Rattle.std.specs.Cmp.Lexicographic.{slice_cmp, nat_list_cmp_total}
use Rattle.std.specs.declared.cmp.Ordering.{Ordering}
use Rattle.std.specs.declared.cmp.Ordering.TheVariants.{Less, Equal}
use Rattle.std.specs.Ordering.{nat_cmp, ordering_then, ordering_reverse}
use Rattle.std.proofs.Common.{◌≡◌, ◌≢◌, ℕ, zero, suc, ◌+◌, ◌-◌, ◌*◌, ◌/◌, ◌%◌, ◌^◌, ◌<◌, ◌≤◌, ⊎_elim, true, false, min, nat_lt, nat_eq, List, [], ◌∷◌, ◌++◌, length, replicate, refl, sym, ◌∙◌, ap, subst, append_assoc, append-nil, length-append, arith, lt-ltb, le-ltb, eq-eqb, ne_eqb, div-lt_iff_lt-mul, pow-suc, div-add-mod'}
use Rattle.std.proofs.lemmas.Bool.{cases_lt}
use Rattle.std.proofs.lemmas.Cmp.{ranked, by_ranked}
use Rattle.std.proofs.lemmas.List.{take_at, drop_at, replicate-append-replicate}
use Rattle.plain_laws.specs.Orderings.{nat_cmp-same, nat_cmp-below, nat_cmp-above}
use Rattle.task_order.specs.PathCode.{digits, head_byte, item_rest, item, code_bytes, end_zeros, CanCode, number_of, rest_len, item_zeros, item_number, item_numbers, Reading, read_byte, read_on, read_all, numbers_of, IsCode, IsPath}
use Rattle.task_order.specs.Comparing.{reverse-then, then-decided, slice_cmp-behind, IsBelow, IsBelow-first, IsBelow-append, IsBelow-behind}

-- ---- digits

pub length-digits : (count number : ℕ) → length (digits count number) ≡ count
unfolding digits
length-digits zero number = refl
length-digits (suc count) number = omega (arith, length-append (digits count (number / 256)) (number % 256 ∷ []), length-digits count (number / 256))

-- digits of a lower number come first
pub digits-below : (count a b : ℕ) → a < b → b < 256 ^ count → IsBelow (digits count a) (digits count b)
unfolding digits
digits-below zero a b below fits = absurd (omega arith)
digits-below (suc count) a b below fits = ⊎_elim
    (λ higher. absurd (omega arith))
    (λ upto. ⊎_elim
    (λ lower.
    let room : b / 256 < 256 ^ count = (div-lt_iff_lt-mul (omega arith)).1 (rw pow-suc at fits) in
    IsBelow-append _ _ _ _ (digits-below count (a / 256) (b / 256) lower room))
    (λ same.
    let q : a / 256 ≡ b / 256 = omega arith in
    let last : a % 256 < b % 256 = omega arith in
    subst (λ (d : ℕ). IsBelow (digits count d ++ a % 256 ∷ []) (digits count (b / 256) ++ b % 256 ∷ [])) (sym q)
    (IsBelow-behind (digits count (b / 256)) _ _ (IsBelow-first _ _ [] [] last)))
    (cases_lt (a / 256) (b / 256)))
    (cases_lt (b / 256) (a / 256))

number_of-push : (before : ℕ) (rest : List ℕ) (digit : ℕ) → number_of before (rest ++ digit ∷ []) ≡ number_of before rest * 256 + digit
unfolding number_of
number_of-push before [] digit = refl
number_of-push before (d ∷ rest) digit = number_of-push (before * 256 + d) rest digit

-- a number is read back from its digits
pub number_of-digits : (count number : ℕ) → number < 256 ^ count → number_of 0 (digits count number) ≡ number
unfolding digits number_of
number_of-digits zero number fits = omega arith
number_of-digits (suc count) number fits =
    let room : number / 256 < 256 ^ count = (div-lt_iff_lt-mul (omega arith)).1 (rw pow-suc at fits) in
    number_of-push 0 (digits count (number / 256)) (number % 256) ∙ ap (λ n. n * 256 + number % 256) (number_of-digits count (number / 256) room) ∙ div-add-mod' number 256

-- ---- items

pub head-few : (run number : ℕ) → run < 15 → head_byte run number ≡ (15 - run) * 16 + min (number - 1) 15
head-few run number few = rw (lt-ltb run 15 few)

pub head-many : (run number : ℕ) → 15 ≤ run → head_byte run number ≡ 0
head-many run number many = rw (le-ltb run 15 many)

pub rest-small : (run number : ℕ) → run < 15 → number < 16 → item_rest run number ≡ []
rest-small run number few small = rw (lt-ltb run 15 few, lt-ltb number 16 small)

pub rest-few : (run number : ℕ) → run < 15 → 16 ≤ number → item_rest run number ≡ digits 4 number
rest-few run number few large = rw (lt-ltb run 15 few, le-ltb number 16 large)

pub rest-many : (run number : ℕ) → 15 ≤ run → item_rest run number ≡ digits 8 (18446744073709551615 - run) ++ digits 4 number
rest-many run number many = rw (le-ltb run 15 many)

-- an item with more zeros comes first
pub item-longer_run : (run number other_run other : ℕ) → other_run < run → run < 18446744073709551616 → IsBelow (item run number) (item other_run other)
item-longer_run run number other_run other longer fits = ⊎_elim
    (λ few.
    let higher : head_byte run number < head_byte other_run other = rw (head-few run number few, head-few other_run other (omega arith)) (omega arith) in
    IsBelow-first _ _ _ _ higher)
    (λ many. ⊎_elim
    (λ other_few.
    let higher : head_byte run number < head_byte other_run other = rw (head-many run number many, head-few other_run other other_few) (omega arith) in
    IsBelow-first _ _ _ _ higher)
    (λ other_many.
    let lower : IsBelow (digits 8 (18446744073709551615 - run)) (digits 8 (18446744073709551615 - other_run)) = digits-below 8 _ _ (omega arith) (omega arith) in
    rw (head-many run number many, head-many other_run other other_many, rest-many run number many, rest-many other_run other other_many)
    (IsBelow-behind (0 ∷ []) _ _ (IsBelow-append _ _ _ _ lower)))
    (cases_lt other_run 15))
    (cases_lt run 15)

-- of two items with as many zeros the one with the lower number comes first
pub item-lower_number : (run number other : ℕ) → 0 < number → number < other → other < 4294967296 → IsBelow (item run number) (item run other)
item-lower_number run number other above lower fits =
    let below : IsBelow (digits 4 number) (digits 4 other) = digits-below 4 number other lower (omega arith) in
    ⊎_elim
    (λ few. ⊎_elim
    (λ (small : number < 16).
    let higher : head_byte run number < head_byte run other = rw (head-few run number few, head-few run other few) (omega arith) in
    IsBelow-first _ _ _ _ higher)
    (λ (large : 16 ≤ number).
    let same : head_byte run number ≡ head_byte run other = rw (head-few run number few, head-few run other few) (omega arith) in
    rw (same, rest-few run number few large, rest-few run other few (omega arith)) (IsBelow-behind (head_byte run other ∷ []) _ _ below))
    (cases_lt number 16))
    (λ many.
    rw (head-many run number many, head-many run other many, rest-many run number many, rest-many run other many)
    (IsBelow-behind (0 ∷ digits 8 (18446744073709551615 - run)) _ _ below))
    (cases_lt run 15)

-- ---- order

-- what the bytes and then the zeros at the end say of two lists of numbers behind so many zeros
abbrev code_cmp : ℕ → List ℕ → List ℕ → Ordering
code_cmp run xs ys = ordering_then (slice_cmp nat_cmp (code_bytes run xs) (code_bytes run ys)) (nat_cmp (end_zeros run xs) (end_zeros run ys))

code_cmp-turned : (run : ℕ) (xs ys : List ℕ) → code_cmp run xs ys ≡ ordering_reverse (code_cmp run ys xs)
code_cmp-turned run xs ys =
    ap (λ o. ordering_then o (nat_cmp (end_zeros run xs) (end_zeros run ys))) (nat_list_cmp_total.antisymm (code_bytes run xs) (code_bytes run ys))
    ∙ ap (ordering_then (ordering_reverse (slice_cmp nat_cmp (code_bytes run ys) (code_bytes run xs)))) (nat_cmp_total.antisymm (end_zeros run xs) (end_zeros run ys))
    ∙ sym (reverse-then (slice_cmp nat_cmp (code_bytes run ys) (code_bytes run xs)) (nat_cmp (end_zeros run ys) (end_zeros run xs)))

-- what ends comes before what has more zeros and then goes on
ends_first : (run more : ℕ) (ys : List ℕ) → run < more → ordering_then (slice_cmp nat_cmp [] (code_bytes more ys)) (nat_cmp run (end_zeros more ys)) ≡ Less
ends_first run more [] longer = nat_cmp-below run more longer
ends_first run more (zero ∷ ys) longer = ends_first run (more + 1) ys (omega arith)
ends_first run more (suc n ∷ ys) longer = refl

empty_first : (run y : ℕ) (ys : List ℕ) → code_cmp run [] (y ∷ ys) ≡ Less
empty_first run zero ys = ends_first run (run + 1) ys (omega arith)
empty_first run (suc n) ys = refl

-- more zeros come before a number above 0
longer_run_first : (run more n : ℕ) (xs bytes : List ℕ) → run < more → CanCode more xs → slice_cmp nat_cmp (code_bytes more xs) (item run (suc n) ++ bytes) ≡ Less
longer_run_first run more n [] bytes longer fits = refl
longer_run_first run more n (zero ∷ xs) bytes longer fits = longer_run_first run (more + 1) n xs bytes (omega arith) fits
longer_run_first run more n (suc m ∷ xs) bytes longer fits = (item-longer_run more (suc m) run (suc n) longer fits.0).before (code_bytes 0 xs) bytes

zero_first : (run n : ℕ) (xs ys : List ℕ) → CanCode (run + 1) xs → code_cmp run (zero ∷ xs) (suc n ∷ ys) ≡ Less
zero_first run n xs ys fits =
    ap (λ o. ordering_then o (nat_cmp (end_zeros (run + 1) xs) (end_zeros 0 ys))) (longer_run_first run (run + 1) n xs (code_bytes 0 ys) (omega arith) fits)

lower_first : (run m n : ℕ) (xs ys : List ℕ) → suc m < suc n → suc n < 4294967296 → code_cmp run (suc m ∷ xs) (suc n ∷ ys) ≡ Less
lower_first run m n xs ys lower fits =
    ap (λ o. ordering_then o (nat_cmp (end_zeros 0 xs) (end_zeros 0 ys))) ((item-lower_number run (suc m) (suc n) (omega arith) lower fits).before (code_bytes 0 xs) (code_bytes 0 ys))

same_number : (run n : ℕ) (xs ys : List ℕ) → code_cmp run (suc n ∷ xs) (suc n ∷ ys) ≡ code_cmp 0 xs ys
same_number run n xs ys =
    ap (λ o. ordering_then o (nat_cmp (end_zeros 0 xs) (end_zeros 0 ys))) (slice_cmp-behind (item run (suc n)) (code_bytes 0 xs) (code_bytes 0 ys))

-- the bytes, and then the zeros at the end, compare as the numbers
pub slice_cmp-code : (run : ℕ) (xs ys : List ℕ) → CanCode run xs → CanCode run ys → slice_cmp nat_cmp xs ys ≡ code_cmp run xs ys
slice_cmp-code run [] [] xs_fit ys_fit = sym (nat_cmp-same run)
slice_cmp-code run [] (y ∷ ys) xs_fit ys_fit = sym (empty_first run y ys)
slice_cmp-code run (x ∷ xs) [] xs_fit ys_fit = sym (code_cmp-turned run (x ∷ xs) [] ∙ ap ordering_reverse (empty_first run x xs))
slice_cmp-code run (zero ∷ xs) (zero ∷ ys) xs_fit ys_fit = slice_cmp-code (run + 1) xs ys xs_fit ys_fit
slice_cmp-code run (zero ∷ xs) (suc n ∷ ys) xs_fit ys_fit =
    ap (λ o. ordering_then o (slice_cmp nat_cmp xs ys)) (nat_cmp-below 0 (suc n) (omega arith)) ∙ sym (zero_first run n xs ys xs_fit)
slice_cmp-code run (suc m ∷ xs) (zero ∷ ys) xs_fit ys_fit =
    ap (λ o. ordering_then o (slice_cmp nat_cmp xs ys)) (nat_cmp-above (suc m) 0 (omega arith))
    ∙ sym (code_cmp-turned run (suc m ∷ xs) (zero ∷ ys) ∙ ap ordering_reverse (zero_first run m ys xs ys_fit))
slice_cmp-code run (suc m ∷ xs) (suc n ∷ ys) xs_fit ys_fit = by_ranked _ _ _ (nat_cmp (suc m) (suc n)) (ranked (suc m) (suc n) _ refl)
    (λ is lower. ap (λ o. ordering_then o (slice_cmp nat_cmp xs ys)) is ∙ sym (lower_first run m n xs ys lower ys_fit.1))
    (λ is same.
    let rest : slice_cmp nat_cmp xs ys ≡ code_cmp 0 xs ys = slice_cmp-code 0 xs ys xs_fit.2 ys_fit.2 in
    let number : m ≡ n = omega arith in
    ap (λ o. ordering_then o (slice_cmp nat_cmp xs ys)) is ∙ rest ∙ subst (λ (k : ℕ). code_cmp 0 xs ys ≡ code_cmp run (suc m ∷ xs) (suc k ∷ ys)) number (sym (same_number run m xs ys)))
    (λ is higher. ap (λ o. ordering_then o (slice_cmp nat_cmp xs ys)) is
    ∙ sym (code_cmp-turned run (suc m ∷ xs) (suc n ∷ ys) ∙ ap ordering_reverse (lower_first run n m ys xs higher xs_fit.1)))

-- ---- one more number

pub end_zeros-fits : (run : ℕ) (xs : List ℕ) → CanCode run xs → end_zeros run xs < 18446744073709551616
end_zeros-fits run [] fits = fits
end_zeros-fits run (zero ∷ xs) fits = end_zeros-fits (run + 1) xs fits
end_zeros-fits run (suc n ∷ xs) fits = end_zeros-fits 0 xs fits.2

pub CanCode-push : (run : ℕ) (xs : List ℕ) (n : ℕ) → CanCode run xs → suc n < 4294967296 → CanCode run (xs ++ suc n ∷ [])
CanCode-push run [] n fits number_fits = (fits, number_fits, omega arith)
CanCode-push run (zero ∷ xs) n fits number_fits = CanCode-push (run + 1) xs n fits number_fits
CanCode-push run (suc m ∷ xs) n fits number_fits = (fits.0, fits.1, CanCode-push 0 xs n fits.2 number_fits)

pub CanCode-push_zero : (run : ℕ) (xs : List ℕ) → CanCode run xs → end_zeros run xs + 1 < 18446744073709551616 → CanCode run (xs ++ 0 ∷ [])
CanCode-push_zero run [] fits room = room
CanCode-push_zero run (zero ∷ xs) fits room = CanCode-push_zero (run + 1) xs fits room
CanCode-push_zero run (suc m ∷ xs) fits room = (fits.0, fits.1, CanCode-push_zero 0 xs fits.2 room)

pub code_bytes-push : (run : ℕ) (xs : List ℕ) (n : ℕ) → code_bytes run (xs ++ suc n ∷ []) ≡ code_bytes run xs ++ item (end_zeros run xs) (suc n)
code_bytes-push run [] n = append-nil _
code_bytes-push run (zero ∷ xs) n = code_bytes-push (run + 1) xs n
code_bytes-push run (suc m ∷ xs) n =
    ap (λ bytes. item run (suc m) ++ bytes) (code_bytes-push 0 xs n) ∙ sym (append_assoc (item run (suc m)) (code_bytes 0 xs) (item (end_zeros 0 xs) (suc n)))

pub code_bytes-push_zero : (run : ℕ) (xs : List ℕ) → code_bytes run (xs ++ 0 ∷ []) ≡ code_bytes run xs
code_bytes-push_zero run [] = refl
code_bytes-push_zero run (zero ∷ xs) = code_bytes-push_zero (run + 1) xs
code_bytes-push_zero run (suc m ∷ xs) = ap (λ bytes. item run (suc m) ++ bytes) (code_bytes-push_zero 0 xs)

pub end_zeros-push : (run : ℕ) (xs : List ℕ) (n : ℕ) → end_zeros run (xs ++ suc n ∷ []) ≡ 0
end_zeros-push run [] n = refl
end_zeros-push run (zero ∷ xs) n = end_zeros-push (run + 1) xs n
end_zeros-push run (suc m ∷ xs) n = end_zeros-push 0 xs n

pub end_zeros-push_zero : (run : ℕ) (xs : List ℕ) → end_zeros run (xs ++ 0 ∷ []) ≡ end_zeros run xs + 1
end_zeros-push_zero run [] = refl
end_zeros-push_zero run (zero ∷ xs) = end_zeros-push_zero (run + 1) xs
end_zeros-push_zero run (suc m ∷ xs) = end_zeros-push_zero 0 xs

-- ---- reading

pub read_on-append : (reading : Reading) (xs ys : List ℕ) → read_on reading (xs ++ ys) ≡ read_on (read_on reading xs) ys
read_on-append reading [] ys = refl
read_on-append reading (x ∷ xs) ys = read_on-append (read_byte reading x) xs ys

-- the bytes of an item are read as its numbers
read_part : (numbers : List ℕ) (head : ℕ) (part : List ℕ) (byte : ℕ) (bytes : List ℕ) → length part + length (byte ∷ bytes) ≡ rest_len head
    → read_on (record { numbers = numbers; part = head ∷ part }) (byte ∷ bytes) ≡ record { numbers = numbers ++ item_numbers head (part ++ byte ∷ bytes); part = [] }
read_part numbers head part byte [] whole = rw (eq-eqb (length (part ++ byte ∷ [])) (rest_len head) (omega (arith, length-append part (byte ∷ []))))
read_part numbers head part byte (next ∷ bytes) whole =
    let rest = read_part numbers head (part ++ byte ∷ []) next bytes (omega (arith, length-append part (byte ∷ []))) in
    rw (ne_eqb (length (part ++ byte ∷ [])) (rest_len head) (omega (arith, length-append part (byte ∷ []))))
    (rest ∙ ap (λ all. record { numbers = numbers ++ item_numbers head all; part = [] }) (append_assoc part (byte ∷ []) (next ∷ bytes)))

read_whole : (numbers : List ℕ) (head : ℕ) (rest : List ℕ) → length rest ≡ rest_len head
    → read_on (record { numbers = numbers; part = [] }) (head ∷ rest) ≡ record { numbers = numbers ++ item_numbers head rest; part = [] }
read_whole numbers head [] whole = rw (eq-eqb 0 (rest_len head) whole)
read_whole numbers head (byte ∷ bytes) whole = rw (ne_eqb 0 (rest_len head) (omega arith)) (read_part numbers head [] byte bytes (omega arith))

-- what an item says of itself
record IsRead (run number head : ℕ) (rest : List ℕ) : Type 0 where
  whole : length rest ≡ rest_len head
  right_run : item_zeros head rest ≡ run
  right_number : item_number head rest ≡ number

read-small : (run number : ℕ) → run < 15 → 0 < number → number < 16 → IsRead run number ((15 - run) * 16 + min (number - 1) 15) []
read-small run number few above small =
    let head = (15 - run) * 16 + min (number - 1) 15 in
    let high : nat_lt head 16 ≡ false = le-ltb head 16 (omega arith) in
    let low : nat_eq (head % 16) 15 ≡ false = ne_eqb (head % 16) 15 (omega arith) in
    record { whole = rw (high, low); right_run = rw high (omega arith); right_number = rw (high, low) (omega arith) }

read-few : (run number : ℕ) → run < 15 → 16 ≤ number → number < 4294967296 → IsRead run number ((15 - run) * 16 + min (number - 1) 15) (digits 4 number)
read-few run number few large fits =
    let head = (15 - run) * 16 + min (number - 1) 15 in
    let high : nat_lt head 16 ≡ false = le-ltb head 16 (omega arith) in
    let low : nat_eq (head % 16) 15 ≡ true = eq-eqb (head % 16) 15 (omega arith) in
    record {
      whole = rw (high, low) (length-digits 4 number);
      right_run = rw high (omega arith);
      right_number = rw (high, low) (number_of-digits 4 number (omega arith));
    }

read-many : (run number : ℕ) → run < 18446744073709551616 → number < 4294967296 → IsRead run number 0 (digits 8 (18446744073709551615 - run) ++ digits 4 number)
read-many run number run_fits fits =
    let turned = 18446744073709551615 - run in
    let turned_read : number_of 0 (digits 8 turned) ≡ turned = number_of-digits 8 turned (omega arith) in
    record {
      whole = length-append (digits 8 turned) (digits 4 number) ∙ omega (arith, length-digits 8 turned, length-digits 4 number);
      right_run = rw (take_at (digits 8 turned) (digits 4 number) 8 (length-digits 8 turned), turned_read) (omega arith);
      right_number = rw (drop_at (digits 8 turned) (digits 4 number) 8 (length-digits 8 turned)) (number_of-digits 4 number (omega arith));
    }

read-item : (run number : ℕ) → run < 18446744073709551616 → 0 < number → number < 4294967296 → IsRead run number (head_byte run number) (item_rest run number)
read-item run number run_fits above fits = ⊎_elim
    (λ (few : run < 15). ⊎_elim
    (λ (small : number < 16). rw (head-few run number few, rest-small run number few small) (read-small run number few above small))
    (λ (large : 16 ≤ number). rw (head-few run number few, rest-few run number few large) (read-few run number few large fits))
    (cases_lt number 16))
    (λ (many : 15 ≤ run). rw (head-many run number many, rest-many run number many) (read-many run number run_fits fits))
    (cases_lt run 15)

pub read_on-item : (numbers : List ℕ) (run number : ℕ) → run < 18446744073709551616 → 0 < number → number < 4294967296
    → read_on (record { numbers = numbers; part = [] }) (item run number) ≡ record { numbers = numbers ++ (replicate run 0 ++ number ∷ []); part = [] }
read_on-item numbers run number run_fits above fits =
    let is = read-item run number run_fits above fits in
    read_whole numbers (head_byte run number) (item_rest run number) is.whole
    ∙ rw (is.right_run, is.right_number)

-- ---- bytes and zeros of numbers

pub numbers_of-push_zero : (bytes : List ℕ) (run : ℕ) → numbers_of bytes (run + 1) ≡ numbers_of bytes run ++ 0 ∷ []
numbers_of-push_zero bytes run =
    ap (λ zeros. (read_all bytes).numbers ++ zeros) (sym (replicate-append-replicate run 1 0)) ∙ sym (append_assoc (read_all bytes).numbers (replicate run 0) (0 ∷ []))

read_all-push : (bytes : List ℕ) (run n : ℕ) → (read_all bytes).part ≡ [] → run < 18446744073709551616 → suc n < 4294967296
    → read_all (bytes ++ item run (suc n)) ≡ record { numbers = numbers_of bytes run ++ suc n ∷ []; part = [] }
unfolding read_all
read_all-push bytes run n whole run_fits fits =
    read_on-append (record { numbers = []; part = [] }) bytes (item run (suc n))
    ∙ ap (λ (part : List ℕ). read_on (record { numbers = (read_all bytes).numbers; part = part }) (item run (suc n))) whole
    ∙ read_on-item (read_all bytes).numbers run (suc n) run_fits (omega arith) fits
    ∙ ap (λ (numbers : List ℕ). record { numbers = numbers; part = [] }) (sym (append_assoc (read_all bytes).numbers (replicate run 0) (suc n ∷ [])))

zeros-fit : (bytes : List ℕ) (run : ℕ) → IsCode bytes run → run < 18446744073709551616
zeros-fit bytes run code = subst (λ (k : ℕ). k < 18446744073709551616) code.same_zeros (end_zeros-fits 0 (numbers_of bytes run) code.fits)

pub numbers_of-push : (bytes : List ℕ) (run n : ℕ) → IsCode bytes run → suc n < 4294967296 → numbers_of (bytes ++ item run (suc n)) 0 ≡ numbers_of bytes run ++ suc n ∷ []
numbers_of-push bytes run n code fits =
    append-nil _ ∙ ap (λ (reading : Reading). reading.numbers) (read_all-push bytes run n code.whole (zeros-fit bytes run code) fits)

pub IsCode-none : IsCode [] 0
unfolding read_all
IsCode-none = record { whole = refl; same_bytes = refl; same_zeros = refl; fits = omega arith }

pub IsCode-push : (bytes : List ℕ) (run n : ℕ) → IsCode bytes run → suc n < 4294967296 → IsCode (bytes ++ item run (suc n)) 0
IsCode-push bytes run n code fits =
    let numbers = numbers_of-push bytes run n code fits in
    record {
      whole = ap (λ (reading : Reading). reading.part) (read_all-push bytes run n code.whole (zeros-fit bytes run code) fits);
      same_bytes = ap (code_bytes 0) numbers ∙ code_bytes-push 0 (numbers_of bytes run) n ∙ rw (code.same_bytes, code.same_zeros);
      same_zeros = ap (end_zeros 0) numbers ∙ end_zeros-push 0 (numbers_of bytes run) n;
      fits = subst (CanCode 0) (sym numbers) (CanCode-push 0 (numbers_of bytes run) n code.fits fits);
    }

pub IsCode-push_zero : (bytes : List ℕ) (run : ℕ) → IsCode bytes run → run + 1 < 18446744073709551616 → IsCode bytes (run + 1)
IsCode-push_zero bytes run code fits =
    let numbers = numbers_of-push_zero bytes run in
    record {
      whole = code.whole;
      same_bytes = ap (code_bytes 0) numbers ∙ code_bytes-push_zero 0 (numbers_of bytes run) ∙ code.same_bytes;
      same_zeros = ap (end_zeros 0) numbers ∙ end_zeros-push_zero 0 (numbers_of bytes run) ∙ ap (λ k. k + 1) code.same_zeros;
      fits = subst (CanCode 0) (sym numbers) (CanCode-push_zero 0 (numbers_of bytes run) code.fits (subst (λ (k : ℕ). k + 1 < 18446744073709551616) (sym code.same_zeros) fits));
    }

-- paths compare as their bytes, and then as their zeros at the end
pub slice_cmp-numbers_of : (bytes : List ℕ) (run : ℕ) (other_bytes : List ℕ) (other_run : ℕ) → IsCode bytes run → IsCode other_bytes other_run
    → slice_cmp nat_cmp (numbers_of bytes run) (numbers_of other_bytes other_run) ≡ ordering_then (slice_cmp nat_cmp bytes other_bytes) (nat_cmp run other_run)
slice_cmp-numbers_of bytes run other_bytes other_run code other_code =
    slice_cmp-code 0 (numbers_of bytes run) (numbers_of other_bytes other_run) code.fits other_code.fits
    ∙ rw (code.same_bytes, other_code.same_bytes, code.same_zeros, other_code.same_zeros)

-- ---- paths with one more number

-- where the bytes are equal the zeros at the end decide
pub numbers_of-tied : (bytes : List ℕ) (run : ℕ) (other_bytes : List ℕ) (other_run : ℕ) (o : Ordering) → IsCode bytes run → IsCode other_bytes other_run
    → o ≡ slice_cmp nat_cmp bytes other_bytes → o ≡ Equal → nat_cmp run other_run ≡ slice_cmp nat_cmp (numbers_of bytes run) (numbers_of other_bytes other_run)
numbers_of-tied bytes run other_bytes other_run o code other_code is tied =
    sym (slice_cmp-numbers_of bytes run other_bytes other_run code other_code ∙ ap (λ (p : Ordering). ordering_then p (nat_cmp run other_run)) (sym is ∙ tied))

pub numbers_of-decided : (bytes : List ℕ) (run : ℕ) (other_bytes : List ℕ) (other_run : ℕ) (o : Ordering) → IsCode bytes run → IsCode other_bytes other_run
    → o ≡ slice_cmp nat_cmp bytes other_bytes → o ≢ Equal → o ≡ slice_cmp nat_cmp (numbers_of bytes run) (numbers_of other_bytes other_run)
numbers_of-decided bytes run other_bytes other_run o code other_code is decided =
    sym (slice_cmp-numbers_of bytes run other_bytes other_run code other_code ∙ ap (λ (p : Ordering). ordering_then p (nat_cmp run other_run)) (sym is) ∙ then-decided o (nat_cmp run other_run) decided)

pub numbers_of-none : numbers_of [] 0 ≡ []
unfolding read_all
numbers_of-none = refl

some_number-push : (bytes : List ℕ) (run : ℕ) (numbers : List ℕ) (number : ℕ) → numbers_of bytes run ≡ numbers ++ number ∷ [] → 0 < length (numbers_of bytes run)
some_number-push bytes run numbers number is = omega (arith, ap length is, length-append numbers (number ∷ []))

pub numbers_of-item : (bytes : List ℕ) (run number : ℕ) → IsCode bytes run → 0 < number → number < 4294967296 → numbers_of (bytes ++ item run number) 0 ≡ numbers_of bytes run ++ number ∷ []
numbers_of-item bytes run zero code above fits = absurd (omega arith)
numbers_of-item bytes run (suc n) code above fits = numbers_of-push bytes run n code fits

pub IsPath-item : (bytes : List ℕ) (run number : ℕ) → IsCode bytes run → 0 < number → number < 4294967296 → IsPath (bytes ++ item run number) 0
IsPath-item bytes run zero code above fits = absurd (omega arith)
IsPath-item bytes run (suc n) code above fits = record {
  code = IsCode-push bytes run n code fits;
  some_number = some_number-push (bytes ++ item run (suc n)) 0 (numbers_of bytes run) (suc n) (numbers_of-push bytes run n code fits);
}

pub IsPath-zero : (bytes : List ℕ) (run : ℕ) → IsCode bytes run → run + 1 < 18446744073709551616 → IsPath bytes (run + 1)
IsPath-zero bytes run code fits = record {
  code = IsCode-push_zero bytes run code fits;
  some_number = some_number-push bytes (run + 1) (numbers_of bytes run) 0 (numbers_of-push_zero bytes run);
}

pub digits-none : (number : ℕ) → digits 0 number ≡ []
unfolding digits
digits-none number = refl

pub digits-more : (count number : ℕ) → 0 < count → digits count number ≡ digits (count - 1) (number / 256) ++ number % 256 ∷ []
unfolding digits
digits-more zero number some = absurd (omega arith)
digits-more (suc count) number some = let same : count ≡ suc count - 1 = omega arith in ap (λ (k : ℕ). digits k (number / 256) ++ number % 256 ∷ []) same
