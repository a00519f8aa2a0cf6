-- What is still to be found of the entries, line by line.
use Rattle.std.specs.Prelude.{◌≡◌, ℕ, ◌+◌, ◌<◌, ◌≤◌, ◌%◌, ◌==◌, Bool, true, false, not, List, [], ◌∷◌, ◌++◌, length, Option, None, Some, Ok, Err, cond, nat_lt, refl}
use Rattle.std.specs.List.{AllByRecursion}
use Rattle.std.specs.Option.{option_or, option_map}
use Rattle.std.proofs.Common.{arith, ap, sym, ◌∙◌, subst, append_assoc, append-nil, length-append, zero-add}
use Rattle.std.proofs.lemmas.Bool.{cond_both, eqb-true, lt-ltb, le-ltb, ltb-false}
use Rattle.plain_laws.specs.Lists.{All-append}
use Rattle.kdg_text.specs.declared.fault.LineFault.{LineFault}
use Rattle.kdg_text.specs.Faults.{Numbered, fault_on, first_fault_after}
use Rattle.mtx_reader.specs.declared.banner.Banner.{Banner}
use Rattle.mtx_reader.specs.declared.banner.Field.{Field}
use Rattle.mtx_reader.specs.declared.banner.Field.TheVariants.{Pattern, Integer}
use Rattle.mtx_reader.specs.declared.banner.Symmetry.{Symmetry}
use Rattle.mtx_reader.specs.declared.banner.Symmetry.TheVariants.{General, Symmetric}
use Rattle.mtx_reader.specs.declared.line_form.Entry.{Entry}
use Rattle.mtx_reader.specs.declared.line_form.LineForm.{LineForm}
use Rattle.mtx_reader.specs.declared.line_form.Size.{Size}
use Rattle.mtx_reader.specs.Addends.{Addend}
use Rattle.mtx_reader.specs.Faults.{bad_size, few, many, beyond}
use Rattle.mtx_reader.specs.Grammar.{answer_below}
use Rattle.mtx_reader.specs.Patterns.{size_fault, is_skew, limit_fault, IsPattern, entry_fault, line_fault, place_fault, addends_by, addends_of}
use Rattle.mtx_reader.specs.Places.{Place, is_among, IsWithin}
use Rattle.mtx_reader.specs.Readings.{answer_from, entries_fault, is_kept, kept_places, pattern_of_kept}
use Rattle.mtx_reader.proofs.Listing.{grid-within, grid-ascending}
use Rattle.mtx_reader.proofs.Parity.{kept-append, ones-kept}
use Rattle.mtx_reader.proofs.Times.{times}

module _ (banner : Banner) (size : Size) where
  pub entry-fits : (count : ℕ) (entry : Option Entry) → count < size.entries → entry_fault size count entry ≡ place_fault size entry
  entry-fits count entry fewer = rw (lt-ltb count size.entries fewer) refl

  -- a line without a fault
  pub answer-step : (count : ℕ) (named : List Place) (end : ℕ) (line : Numbered LineForm) (rest : List (Numbered LineForm)) → entry_fault size count line.form.entry ≡ None
      → answer_from banner size count named end (line ∷ rest) ≡ answer_from banner size (count + 1) (named ++ kept_places banner.field (addends_by banner.symmetry line.form.entry)) end rest
  answer-step count named end line rest fits =
      let longer : count + length (line ∷ rest) ≡ (count + 1) + length rest = omega arith in
      let here = kept_places banner.field (addends_by banner.symmetry line.form.entry) in
      let later = kept_places banner.field (addends_of banner.symmetry rest) in
      rw (fits, longer, kept-append banner.field (addends_by banner.symmetry line.form.entry) (addends_of banner.symmetry rest), append_assoc named here later) refl

  -- the same of the entry that the line says, whose places were kept
  pub answer-entry : (count : ℕ) (named kept : List Place) (end : ℕ) (line : Numbered LineForm) (rest : List (Numbered LineForm)) (entry : Entry) → count < size.entries → line.form.entry ≡ Some entry
      → place_fault size line.form.entry ≡ None → kept ≡ named ++ kept_places banner.field (addends_by banner.symmetry (Some entry))
      → answer_from banner size count named end (line ∷ rest) ≡ answer_from banner size (count + 1) kept end rest
  answer-entry count named kept end line rest entry fewer says fits is =
      answer-step count named end line rest (entry-fits count line.form.entry fewer ∙ fits)
      ∙ ap (λ places. answer_from banner size (count + 1) places end rest) (ap (λ said. named ++ kept_places banner.field (addends_by banner.symmetry said)) says ∙ sym is)

  -- a line with a fault
  pub answer-fault : (count : ℕ) (named : List Place) (end : ℕ) (line : Numbered LineForm) (rest : List (Numbered LineForm)) (fault : LineFault) → entry_fault size count line.form.entry ≡ Some fault
      → answer_from banner size count named end (line ∷ rest) ≡ Err (fault_on line.number fault)
  answer-fault count named end line rest fault wrong = rw wrong refl

  pub answer-few : (count : ℕ) (named : List Place) (end : ℕ) → count < size.entries → answer_from banner size count named end [] ≡ Err (fault_on end few)
  answer-few count named end fewer = let test : nat_lt (count + 0) size.entries ≡ true = lt-ltb (count + 0) size.entries (omega arith) in rw test refl

  pub answer-all : (count : ℕ) (named : List Place) (end : ℕ) → size.entries ≤ count → answer_from banner size count named end [] ≡ Ok (pattern_of_kept banner.field size named)
  answer-all count named end enough =
      let test : nat_lt (count + 0) size.entries ≡ false = le-ltb (count + 0) size.entries (omega arith) in rw (test, append-nil named) refl

  pub entry-many : (count : ℕ) (entry : Option Entry) → size.entries ≤ count → entry_fault size count entry ≡ Some many
  entry-many count entry enough = rw (le-ltb count size.entries enough) refl

  -- the line of the size, which may say an entry too
  abbrev pub size_line : ℕ → Option Entry → Numbered LineForm
  size_line number said = record { number = number; form = record { size = Some size; entry = said } }

  first-entries : (number : ℕ) (said : Option Entry) (done left : List (Numbered LineForm)) → first_fault_after (line_fault banner.symmetry) (size_line number said ∷ done) left ≡ entries_fault size (length done) left
  first-entries number said done [] = refl
  first-entries number said done (line ∷ lines) =
      let rest : first_fault_after (line_fault banner.symmetry) (size_line number said ∷ (done ++ line ∷ [])) lines ≡ entries_fault size (length done + 1) lines =
      first-entries number said (done ++ line ∷ []) lines ∙ ap (λ count. entries_fault size count lines) (length-append done (line ∷ [])) in
      ap (option_or (option_map (fault_on line.number) (entry_fault size (length done) line.form.entry))) rest

  -- the lines below a size that is right
  pub answer-entries : (number end : ℕ) (line : LineForm) (entries : List (Numbered LineForm)) → line.size ≡ Some size → size_fault banner.symmetry line.size ≡ None
      → answer_below banner end (record { number = number; form = line } ∷ entries) ≡ answer_from banner size 0 [] end entries
  answer-entries number end line entries is fits =
      let right : size_fault banner.symmetry (Some size) ≡ None = subst (λ s. size_fault banner.symmetry s ≡ None) is fits in
      ap (λ s. answer_below banner end (record { number = number; form = record { size = s; entry = line.entry } } ∷ entries)) is
      ∙ rw (right, first-entries number line.entry [] entries, zero-add (length entries), ones-kept banner.field size.rows size.columns (addends_of banner.symmetry entries)) refl

-- a size that is wrong
pub answer-size_fault : (banner : Banner) (end : ℕ) (line : Numbered LineForm) (entries : List (Numbered LineForm)) (fault : LineFault) → size_fault banner.symmetry line.form.size ≡ Some fault
    → answer_below banner end (line ∷ entries) ≡ Err (fault_on line.number fault)
answer-size_fault banner end line entries fault wrong = rw wrong refl

-- a size that is right is within the limits
pub size-within : (kind : Symmetry) (size : Size) → size_fault kind (Some size) ≡ None → (size.rows ≤ 4096) × (size.columns ≤ 4096)
size-within kind size right = (within_rows (is_skew kind size) right, within_columns (is_skew kind size) right)
  where
    within_rows : (skew : Bool) → cond skew (Some bad_size) (option_or (limit_fault 4096 size.rows) (option_or (limit_fault 4096 size.columns) (limit_fault 1_000_000 size.entries))) ≡ None → size.rows ≤ 4096
    within_rows true h = cc
    within_rows false h = by_test (nat_lt 4096 size.rows) refl h
      where
        by_test : (b : Bool) → nat_lt 4096 size.rows ≡ b → option_or (cond b (Some (beyond 4096)) None) (option_or (limit_fault 4096 size.columns) (limit_fault 1_000_000 size.entries)) ≡ None → size.rows ≤ 4096
        by_test true is h = cc
        by_test false is h = ltb-false 4096 size.rows is

    within_columns : (skew : Bool) → cond skew (Some bad_size) (option_or (limit_fault 4096 size.rows) (option_or (limit_fault 4096 size.columns) (limit_fault 1_000_000 size.entries))) ≡ None → size.columns ≤ 4096
    within_columns true h = cc
    within_columns false h = by_test (limit_fault 4096 size.rows) (nat_lt 4096 size.columns) refl h
      where
        by_test : (o : Option LineFault) (b : Bool) → nat_lt 4096 size.columns ≡ b → option_or o (option_or (cond b (Some (beyond 4096)) None) (limit_fault 1_000_000 size.entries)) ≡ None → size.columns ≤ 4096
        by_test (Some fault) b is h = cc
        by_test None true is h = cc
        by_test None false is h = ltb-false 4096 size.columns is

-- a symmetric matrix is square
square : (size : Size) → size_fault Symmetric (Some size) ≡ None → size.rows ≡ size.columns
square size right = by_test (size.rows == size.columns) refl right
  where
    by_test : (b : Bool) → (size.rows == size.columns) ≡ b → cond (not b) (Some bad_size) (option_or (limit_fault 4096 size.rows) (option_or (limit_fault 4096 size.columns) (limit_fault 1_000_000 size.entries))) ≡ None → size.rows ≡ size.columns
    by_test true is h = eqb-true size.rows size.columns is
    by_test false is h = cc

all-kept : (P : Place → Type 0) (field : Field) (addends : List Addend) → AllByRecursion (λ (addend : Addend). P addend.0) addends → AllByRecursion P (kept_places field addends)
all-kept P field [] all = tt
all-kept P field (addend ∷ addends) all =
    let rest = all-kept P field addends all.1 in
    cond_both (is_kept field addend.1) (addend.0 ∷ kept_places field addends) (kept_places field addends) (AllByRecursion P) (λ kept. (all.0, rest)) (λ dropped. rest)

addends-within : (kind : Symmetry) (size : Size) (entry : Entry) → size_fault kind (Some size) ≡ None → IsWithin size.rows size.columns (entry.row, entry.column)
    → AllByRecursion (λ (addend : Addend). IsWithin size.rows size.columns addend.0) (addends_by kind (Some entry))
addends-within General size entry right within = (within, tt)
addends-within Symmetric size entry right within =
    let even = square size right in
    let other : IsWithin size.rows size.columns (entry.column, entry.row) = record { row = (within.column.0, omega (arith, within.column.1)); column = (within.row.0, omega (arith, within.row.1)) } in
    cond_both (entry.row == entry.column) (((entry.row, entry.column), entry.value) ∷ []) (((entry.row, entry.column), entry.value) ∷ ((entry.column, entry.row), entry.value) ∷ [])
    (AllByRecursion (λ (addend : Addend). IsWithin size.rows size.columns addend.0)) (λ same. (within, tt)) (λ differs. (within, (other, tt)))

-- the places that are kept lie within the matrix
pub kept-within : (banner : Banner) (size : Size) (named kept : List Place) (entry : Entry) → size_fault banner.symmetry (Some size) ≡ None → IsWithin size.rows size.columns (entry.row, entry.column)
    → AllByRecursion (IsWithin size.rows size.columns) named → kept ≡ named ++ kept_places banner.field (addends_by banner.symmetry (Some entry)) → AllByRecursion (IsWithin size.rows size.columns) kept
kept-within banner size named kept entry right within all is =
    subst (AllByRecursion (IsWithin size.rows size.columns)) (sym is)
    (All-append (IsWithin size.rows size.columns) named (kept_places banner.field (addends_by banner.symmetry (Some entry))) all
    (all-kept (IsWithin size.rows size.columns) banner.field (addends_by banner.symmetry (Some entry)) (addends-within banner.symmetry size entry right within)))

pub pattern-sound : (field : Field) (kind : Symmetry) (size : Size) (named : List Place) → size_fault kind (Some size) ≡ None → IsPattern (pattern_of_kept field size named)
pattern-sound Pattern kind size named right =
    let within = size-within kind size right in
    record {
      rows = within.0;
      columns = within.1;
      within = grid-within size.rows size.columns (is_among named);
      ascending = grid-ascending size.rows size.columns (is_among named);
    }
pattern-sound Integer kind size named right =
    let within = size-within kind size right in
    record {
      rows = within.0;
      columns = within.1;
      within = grid-within size.rows size.columns (λ place. times place named % 2 == 1);
      ascending = grid-ascending size.rows size.columns (λ place. times place named % 2 == 1);
    }
