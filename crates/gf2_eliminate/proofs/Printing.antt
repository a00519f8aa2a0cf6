-- What is printed and made number by number.
use Rattle.std.specs.Prelude.{◌≡◌, ℕ, ◌+◌, ◌<◌, Bool, true, false, List, [], ◌∷◌, ◌++◌, length, map, filter, if◌then◌else◌}
use Rattle.std.proofs.Common.{arith, sym, ap, ◌∙◌, append_assoc, append-nil, length-append}
use Rattle.std.proofs.lemmas.List.{map-append}
use Rattle.std.proofs.lemmas.List.Elements.{filter-append}
use Rattle.cell_store.specs.declared.cell.Cell.{Cell}
use Rattle.cell_store.specs.declared.cell.Cell.TheVariants.{Home, Out}
use Rattle.cell_store.specs.Cells.{cell_at}
use Rattle.cell_store.specs.Values.{homes, values_of}
use Rattle.std.proofs.lemmas.List.{get_or-map}
use Rattle.task_order.specs.declared.start.Start.{Start}
use Rattle.mtx_reader.specs.Ascending.{numbers_from}
use Rattle.gf2_eliminate.specs.declared.line.Line2.{Line2}
use Rattle.gf2_eliminate.specs.Lines.{no_line, numbers_in, is_used, line_at}
use Rattle.gf2_eliminate.specs.Start.{row_text, row_texts, used_among, start_task}
use Rattle.gf2_eliminate.proofs.Marking.{numbers_to}

row_texts-append : (cells : List Line2) (rows : List ℕ) (row : ℕ) → row_texts cells (rows ++ row ∷ []) ≡ row_texts cells rows ++ row_text row (numbers_in (line_at cells row))
row_texts-append cells [] row = append-nil (row_text row (numbers_in (line_at cells row)))
row_texts-append cells (first ∷ rows) row =
    ap (λ text. row_text first (numbers_in (line_at cells first)) ++ text) (row_texts-append cells rows row)
    ∙ sym (append_assoc (row_text first (numbers_in (line_at cells first))) (row_texts cells rows) (row_text row (numbers_in (line_at cells row))))

-- a row that is home is the one of its value
pub row_home : (cells : List (Cell Line2)) (row : ℕ) (line : Line2) → cells ≡ homes (values_of cells) → row < length (values_of cells) → Home line ≡ cell_at cells row → line ≡ line_at (values_of cells) row
row_home cells row line home below is =
    let same : Home line ≡ Home (line_at (values_of cells) row) = is ∙ ap (λ cs. cell_at cs row) home ∙ get_or-map Home (values_of cells) row no_line Out below in
    (cc)

pub row_printed : (cells : List Line2) (row : ℕ) (before after : List ℕ) (line : Line2) → before ≡ row_texts cells (numbers_from 0 row) → after ≡ before ++ row_text row (numbers_in line) → line ≡ line_at cells row
    → after ≡ row_texts cells (numbers_from 0 (row + 1))
row_printed cells row before after line so-far more is =
    more ∙ ap (λ text. text ++ row_text row (numbers_in line)) so-far ∙ ap (λ l. row_texts cells (numbers_from 0 row) ++ row_text row (numbers_in l)) is
    ∙ sym (ap (row_texts cells) (numbers_to row) ∙ row_texts-append cells (numbers_from 0 row) row)

pub row_counted : (cells : List Line2) (row rank : ℕ) (line : Line2) → rank ≡ used_among cells (numbers_from 0 row) → line ≡ line_at cells row
    → (if is_used line then rank + 1 else rank) ≡ used_among cells (numbers_from 0 (row + 1))
row_counted cells row rank line so-far is =
    by_test (is_used line) ∙ sym (ap length (ap (filter (λ r. is_used (line_at cells r))) (numbers_to row) ∙ filter-append (λ r. is_used (line_at cells r)) (numbers_from 0 row) (row ∷ []))
    ∙ length-append (filter (λ r. is_used (line_at cells r)) (numbers_from 0 row)) (filter (λ r. is_used (line_at cells r)) (row ∷ []))
    ∙ ap (λ b. used_among cells (numbers_from 0 row) + length (if b then row ∷ [] else [])) (ap is_used (sym is)))
  where
    by_test : (b : Bool) → (if b then rank + 1 else rank) ≡ used_among cells (numbers_from 0 row) + length (if b then row ∷ [] else [])
    by_test true = ap (λ r. r + 1) so-far
    by_test false = let more : rank ≡ rank + 0 = omega arith in more ∙ ap (λ r. r + 0) so-far

pub task_more : (column : ℕ) (before after : List Start) → before ≡ map start_task (numbers_from 0 column) → after ≡ before ++ start_task column ∷ [] → after ≡ map start_task (numbers_from 0 (column + 1))
task_more column before after so-far more =
    more ∙ ap (λ tasks. tasks ++ start_task column ∷ []) so-far ∙ sym (ap (map start_task) (numbers_to column) ∙ map-append start_task (numbers_from 0 column) (column ∷ []))

pub not_out : (cells : List (Cell Line2)) (row : ℕ) → cells ≡ homes (values_of cells) → row < length (values_of cells) → Out ≡ cell_at cells row → ⊥
not_out cells row home below is =
    let same : Out ≡ Home (line_at (values_of cells) row) = is ∙ ap (λ cs. cell_at cs row) home ∙ get_or-map Home (values_of cells) row no_line Out below in
    (cc)

pub line_more : (f : ℕ → Line2) (loc : ℕ) (before after : List Line2) (line : Line2) → before ≡ map f (numbers_from 0 loc) → after ≡ before ++ line ∷ [] → line ≡ f loc → after ≡ map f (numbers_from 0 (loc + 1))
line_more f loc before after line so-far more is =
    more ∙ ap (λ lines. lines ++ line ∷ []) so-far ∙ ap (λ l. map f (numbers_from 0 loc) ++ l ∷ []) is ∙ sym (ap (map f) (numbers_to loc) ∙ map-append f (numbers_from 0 loc) (loc ∷ []))
