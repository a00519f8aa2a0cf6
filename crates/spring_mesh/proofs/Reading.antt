-- What is held of the lines so far, line by line.
use Rattle.std.proofs.Common.{arith, refl, sym, ap, subst, ◌∙◌, ◌≡◌, ◌+◌, [], ◌∷◌, ◌++◌, ℕ, List, Option, Some, None, Ok, Err, length, append-nil, append_assoc, option_to_list}
use Rattle.std.proofs.lemmas.List.Elements.{filter_map-append}
use Rattle.std.specs.List.{slice_get}
use Rattle.std.specs.Option.{option_or, is_some}
use Rattle.plain_laws.specs.Options.{cons_option-none}
use Rattle.kdg_text.specs.declared.fault.LineFault.{LineFault}
use Rattle.kdg_text.specs.Faults.{Numbered, forms_from, first_fault, first_fault_after, fault_where}
use Rattle.spring_mesh.specs.declared.draft.Draft.{Draft}
use Rattle.spring_mesh.specs.declared.statement.Statement.TheVariants as says
use Rattle.spring_mesh.specs.LineForms.{LineForm, form_of}
use Rattle.spring_mesh.specs.Faults.{syntax}
use Rattle.spring_mesh.specs.Files.{said, node_in, mass_in, spring_in, end_in, end_of, form_fault, line_fault}
use Rattle.spring_mesh.specs.Grammar.{said_lines}
use Rattle.spring_mesh.specs.Drafts.{draft_of, draft_fault, draft_plus}

pub said-push : {X : Type 0} (by : LineForm → Option X) (lines : List (Numbered LineForm)) (line : Numbered LineForm) → said by (lines ++ line ∷ []) ≡ said by lines ++ option_to_list (by line.form)
said-push by lines line =
    filter_map-append (λ (each : Numbered LineForm). by each.form) lines (line ∷ []) ∙ ap (λ last. said by lines ++ last) (cons_option-none (by line.form))

no_first : (numbers : List ℕ) → slice_get numbers 0 ≡ None → numbers ≡ []
no_first [] none = refl
no_first (number ∷ numbers) none = cc

-- no line sets an end before a line that fits
pub endless : (before : List (Numbered LineForm)) (form : LineForm) → line_fault before form ≡ None → end_of before ≡ None
endless before form fits = by_end (end_of before) (form_fault (length (said node_in before)) (length (said spring_in before)) form) fits
  where
    by_end : (end : Option ℕ) (rest : Option LineFault) → option_or (fault_where (is_some end) syntax) rest ≡ None → end ≡ None
    by_end None rest fits = refl
    by_end (Some end) rest fits = cc

end-push : (before : List (Numbered LineForm)) (line : Numbered LineForm) → end_of before ≡ None → end_of (before ++ line ∷ []) ≡ end_in line.form
end-push before line endless =
    rw (said-push end_in before line, no_first (said end_in before) endless) (by_end (end_in line.form))
  where
    by_end : (end : Option ℕ) → slice_get (option_to_list end) 0 ≡ end
    by_end None = refl
    by_end (Some end) = refl

-- the draft with one more line that fits
pub draft_of-push : (before : List (Numbered LineForm)) (line : Numbered LineForm) → line_fault before line.form ≡ None → draft_of (before ++ line ∷ []) ≡ draft_plus (draft_of before) line.form
draft_of-push before line fits =
    rw (said-push node_in before line, said-push mass_in before line, said-push spring_in before line, end-push before line (endless before line.form fits)) (by_form line.form (endless before line.form fits) fits)
  where
    by_form : (form : LineForm) → end_of before ≡ None → line_fault before form ≡ None
        → ◌≡◌ {A = Draft} (record { nodes = said node_in before ++ option_to_list (node_in form); masses = said mass_in before ++ option_to_list (mass_in form); springs = said spring_in before ++ option_to_list (spring_in form); end = end_in form })
        (draft_plus (draft_of before) form)
    by_form (Ok (says.Node node mass)) none fits = rw (append-nil (said spring_in before), none) refl
    by_form (Ok (says.Spring spring)) none fits = rw (append-nil (said node_in before), append-nil (said mass_in before), none) refl
    by_form (Ok (says.End time)) none fits = rw (append-nil (said node_in before), append-nil (said mass_in before), append-nil (said spring_in before)) refl
    by_form (Err fault) none fits = let wrong = rw none at fits in cc

-- The draft stands for the lines so far, and what is left decides the rest.
pub record HasRead (input : List ℕ) (lines : List (List ℕ)) (number count : ℕ) (draft : Draft) : Type 0 where
  pub before : List (Numbered LineForm)
  pub whole : before ++ forms_from form_of number lines ≡ said_lines input
  pub counted : number + length lines ≡ count
  pub held : draft ≡ draft_of before
  pub faultless : first_fault_after line_fault before (forms_from form_of number lines) ≡ first_fault line_fault (said_lines input)

-- a line that says nothing leaves all as it was
pub HasRead-silent : (input line : List ℕ) (lines : List (List ℕ)) (number next count : ℕ) (draft : Draft) → form_of line ≡ None → next ≡ number + 1
    → HasRead input (line ∷ lines) number count draft → HasRead input lines next count draft
HasRead-silent input line lines number next count draft silent counts read =
    let left : forms_from form_of number (line ∷ lines) ≡ forms_from form_of (number + 1) lines = rw silent refl in
    rw counts (record {
      before = read.before;
      whole = ap (λ rest. read.before ++ rest) (sym left) ∙ read.whole;
      counted = omega (arith, read.counted);
      held = read.held;
      faultless = ap (first_fault_after line_fault read.before) (sym left) ∙ read.faultless;
    })

-- a line that fits is added
pub HasRead-more : (input line : List ℕ) (lines : List (List ℕ)) (number next count : ℕ) (draft after : Draft) (form : LineForm) → form_of line ≡ Some form → next ≡ number + 1
    → draft_fault draft form ≡ None → after ≡ draft_plus draft form → HasRead input (line ∷ lines) number count draft → HasRead input lines next count after
HasRead-more input line lines number next count draft after form says counts fits added read =
    let here : Numbered LineForm = record { number = number; form = form } in
    let left : forms_from form_of number (line ∷ lines) ≡ here ∷ forms_from form_of (number + 1) lines = rw says refl in
    let judged : line_fault read.before form ≡ None = subst (λ d. draft_fault d form ≡ None) read.held fits in
    let passed : first_fault_after line_fault read.before (here ∷ forms_from form_of (number + 1) lines) ≡ first_fault_after line_fault (read.before ++ here ∷ []) (forms_from form_of (number + 1) lines) = rw judged refl in
    rw counts (record {
      before = read.before ++ here ∷ [];
      whole = append_assoc read.before (here ∷ []) (forms_from form_of (number + 1) lines) ∙ ap (λ rest. read.before ++ rest) (sym left) ∙ read.whole;
      counted = omega (arith, read.counted);
      held = added ∙ ap (λ d. draft_plus d form) read.held ∙ sym (draft_of-push read.before here judged);
      faultless = sym passed ∙ ap (first_fault_after line_fault read.before) (sym left) ∙ read.faultless;
    })
