-- The bytes that a path is kept as. An item of them is a number above 0 with the zeros in front of it. Bytes in order
-- are paths in order: more zeros come first, and then the lower number. The zeros at the end have no bytes.
use Rattle.std.specs.Prelude.{◌≡◌, ℕ, zero, suc, ◌+◌, ◌-◌, ◌*◌, ◌/◌, ◌%◌, ◌<◌, min, nat_lt, nat_eq, if◌then◌else◌, List, [], ◌∷◌, ◌++◌, length, take, drop, replicate}

-- the last digits of the number in base 256
unfoldable pub digits : ℕ → ℕ → List ℕ
digits zero number = []
digits (suc count) number = digits count (number / 256) ++ number % 256 ∷ []

-- the first byte of an item: fewer zeros are a higher byte, and 0 says that digits of their number follow
abbrev pub head_byte : ℕ → ℕ → ℕ
head_byte run number = if nat_lt run 15 then (15 - run) * 16 + min (number - 1) 15 else 0

-- the bytes behind it
abbrev pub item_rest : ℕ → ℕ → List ℕ
item_rest run number =
    if nat_lt run 15 then (if nat_lt number 16 then [] else digits 4 number) else digits 8 (18446744073709551615 - run) ++ digits 4 number

abbrev pub item : ℕ → ℕ → List ℕ
item run number = head_byte run number ∷ item_rest run number

-- the bytes of the numbers, behind `run` zeros
abbrev pub code_bytes : ℕ → List ℕ → List ℕ
code_bytes run [] = []
code_bytes run (zero ∷ numbers) = code_bytes (run + 1) numbers
code_bytes run (suc n ∷ numbers) = item run (suc n) ++ code_bytes 0 numbers

-- how many zeros are at the end, behind `run` zeros
abbrev pub end_zeros : ℕ → List ℕ → ℕ
end_zeros run [] = run
end_zeros run (zero ∷ numbers) = end_zeros (run + 1) numbers
end_zeros run (suc n ∷ numbers) = end_zeros 0 numbers

-- no run of zeros is too long for a count of 64 bits, and no number too large for 32
abbrev pub CanCode : ℕ → List ℕ → Type 0
CanCode run [] = run < 18446744073709551616
CanCode run (zero ∷ numbers) = CanCode (run + 1) numbers
CanCode run (suc n ∷ numbers) = (run < 18446744073709551616) × (suc n < 4294967296) × CanCode 0 numbers

-- the number with these digits, behind those of another
unfoldable pub number_of : ℕ → List ℕ → ℕ
number_of before [] = before
number_of before (digit ∷ rest) = number_of (before * 256 + digit) rest

-- the first eight of the bytes, with zeros behind their end, as a number whose first digit is the first byte
abbrev pub first_word : List ℕ → ℕ
first_word bytes = number_of 0 (take 8 (bytes ++ replicate 8 0))

-- the first bytes of a path, as a number
abbrev pub path_beginning : List ℕ → ℕ
path_beginning path = first_word (code_bytes 0 path)

-- how many bytes an item has behind its first
abbrev pub rest_len : ℕ → ℕ
rest_len head = if nat_lt head 16 then 12 else (if nat_eq (head % 16) 15 then 4 else 0)

abbrev pub item_zeros : ℕ → List ℕ → ℕ
item_zeros head rest = if nat_lt head 16 then 18446744073709551615 - number_of 0 (take 8 rest) else 15 - head / 16

abbrev pub item_number : ℕ → List ℕ → ℕ
item_number head rest =
    if nat_lt head 16 then number_of 0 (drop 8 rest) else (if nat_eq (head % 16) 15 then number_of 0 rest else head % 16 + 1)

abbrev pub item_numbers : ℕ → List ℕ → List ℕ
item_numbers head rest = replicate (item_zeros head rest) 0 ++ item_number head rest ∷ []

-- the numbers that were read, and the bytes of an item that isn't whole
pub record Reading : Type 0 where
  pub numbers : List ℕ
  pub part : List ℕ

abbrev pub with_part : List ℕ → List ℕ → Reading
with_part numbers [] = record { numbers = numbers; part = [] }
with_part numbers (head ∷ rest) =
    if nat_eq (length rest) (rest_len head) then record { numbers = numbers ++ item_numbers head rest; part = [] } else record { numbers = numbers; part = head ∷ rest }

abbrev pub read_byte : Reading → ℕ → Reading
read_byte reading byte = with_part reading.numbers (reading.part ++ byte ∷ [])

abbrev pub read_on : Reading → List ℕ → Reading
read_on reading [] = reading
read_on reading (byte ∷ bytes) = read_on (read_byte reading byte) bytes

unfoldable pub read_all : List ℕ → Reading
read_all bytes = read_on (record { numbers = []; part = [] }) bytes

-- the numbers that are kept as these bytes, and `run` zeros at the end
abbrev pub numbers_of : List ℕ → ℕ → List ℕ
numbers_of bytes run = (read_all bytes).numbers ++ replicate run 0

-- the bytes and the zeros are those of the numbers
pub record IsCode (bytes : List ℕ) (run : ℕ) : Type 0 where
  pub whole : (read_all bytes).part ≡ []
  pub same_bytes : code_bytes 0 (numbers_of bytes run) ≡ bytes
  pub same_zeros : end_zeros 0 (numbers_of bytes run) ≡ run
  pub fits : CanCode 0 (numbers_of bytes run)

pub record IsPath (bytes : List ℕ) (run : ℕ) : Type 0 where
  pub code : IsCode bytes run
  pub some_number : 0 < length (numbers_of bytes run)
