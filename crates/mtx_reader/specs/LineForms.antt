-- What a line says, by that line's bytes and what entries have beside their place.
use Rattle.std.specs.Prelude.{ℕ, ℤ, pos, Bool, false, ◌||◌, not, ◌==◌, if◌then◌else◌, List, [], ◌∷◌, Option, None, Some, Result, Ok, Err, codes, bytes_eq}
use Rattle.kdg_text.specs.declared.fault.LineFault.{LineFault}
use Rattle.kdg_text.specs.declared.number.NumFault.{NumFault}
use Rattle.kdg_text.specs.Numbers.{i64_of, u64_of}
use Rattle.kdg_text.specs.Tokens.{tokens_of, spells}
use Rattle.mtx_reader.specs.declared.banner.Banner.{Banner}
use Rattle.mtx_reader.specs.declared.banner.Field.{Field}
use Rattle.mtx_reader.specs.declared.banner.Field.TheVariants.{Pattern, Integer}
use Rattle.mtx_reader.specs.declared.banner.Symmetry.{Symmetry}
use Rattle.mtx_reader.specs.declared.banner.Symmetry.TheVariants.{General, Symmetric}
use Rattle.mtx_reader.specs.declared.line_form.Entry.{Entry}
use Rattle.mtx_reader.specs.declared.line_form.LineForm.{LineForm}
use Rattle.mtx_reader.specs.declared.line_form.Size.{Size}
use Rattle.mtx_reader.specs.Faults.{bad_banner, unsupported}

-- the words of a line, between spaces and tabs
abbrev pub words_of : List ℕ → List (List ℕ)
words_of line = tokens_of [] line

-- what is wrong with the word for how the entries are laid out
abbrev pub layout_fault : List ℕ → Option LineFault
layout_fault word =
    if spells word (codes "coordinate") then None
    else if spells word (codes "array") then Some unsupported
    else Some bad_banner

-- what an entry has beside its place
abbrev pub field_of : List ℕ → Result Field LineFault
field_of word =
    if spells word (codes "pattern") then Ok Pattern
    else if spells word (codes "integer") then Ok Integer
    else if spells word (codes "real") || spells word (codes "complex") then Err unsupported
    else Err bad_banner

-- which places an entry stands for
abbrev pub symmetry_of : List ℕ → Result Symmetry LineFault
symmetry_of word =
    if spells word (codes "general") then Ok General
    else if spells word (codes "symmetric") then Ok Symmetric
    else if spells word (codes "skew-symmetric") || spells word (codes "hermitian") then Err unsupported
    else Err bad_banner

-- a fault, or else what comes without one
abbrev pub unless_wrong : {X : Type 0} → Option LineFault → Result X LineFault → Result X LineFault
unless_wrong None answer = answer
unless_wrong (Some fault) answer = Err fault

-- what the last two words say together
abbrev pub banner_with : Result Field LineFault → Result Symmetry LineFault → Result Banner LineFault
banner_with (Err fault) symmetry = Err fault
banner_with (Ok field) (Err fault) = Err fault
banner_with (Ok field) (Ok symmetry) = Ok (record { field = field; symmetry = symmetry })

-- what the words of the first line say, which have to be the banner's five
abbrev pub banner_of : List (List ℕ) → Result Banner LineFault
banner_of (mark ∷ object ∷ layout ∷ field ∷ symmetry ∷ []) =
    if not (bytes_eq mark (codes "%%MatrixMarket")) || not (spells object (codes "matrix")) then Err bad_banner
    else unless_wrong (layout_fault layout) (banner_with (field_of field) (symmetry_of symmetry))
banner_of _ = Err bad_banner

-- three numbers are a size
abbrev pub size_from : Result ℕ NumFault → Result ℕ NumFault → Result ℕ NumFault → Option Size
size_from (Ok rows) (Ok columns) (Ok entries) = Some (record { rows = rows; columns = columns; entries = entries })
size_from _ _ _ = None

-- two numbers and a value are an entry
abbrev pub entry_from : Result ℕ NumFault → Result ℕ NumFault → Result ℤ NumFault → Option Entry
entry_from (Ok row) (Ok column) (Ok value) = Some (record { row = row; column = column; value = value })
entry_from _ _ _ = None

-- the size that these words say
abbrev pub size_of : List (List ℕ) → Option Size
size_of (rows ∷ columns ∷ entries ∷ []) = size_from (u64_of rows) (u64_of columns) (u64_of entries)
size_of _ = None

-- the entry that these words say: with a value in a matrix of integers, and without one in a pattern, where each counts as 1
abbrev pub entry_of : Field → List (List ℕ) → Option Entry
entry_of Pattern (row ∷ column ∷ []) = entry_from (u64_of row) (u64_of column) (Ok (pos 1))
entry_of Integer (row ∷ column ∷ value ∷ []) = entry_from (u64_of row) (u64_of column) (i64_of value)
entry_of _ _ = None

-- what these words say, as a size and as an entry; nothing without any
abbrev pub form_of_words : Field → List (List ℕ) → Option LineForm
form_of_words field [] = None
form_of_words field (word ∷ words) = Some (record { size = size_of (word ∷ words); entry = entry_of field (word ∷ words) })

-- whether a line is a comment, by its first byte
abbrev pub is_comment : List ℕ → Bool
is_comment [] = false
is_comment (byte ∷ bytes) = byte == 37

-- what a line below the first says; nothing where it is a comment or has no words
abbrev pub form_of : Field → List ℕ → Option LineForm
form_of field line = if is_comment line then None else form_of_words field (words_of line)
