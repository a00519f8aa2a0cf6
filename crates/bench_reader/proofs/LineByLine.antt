-- The deck that is made line by line.
use Rattle.std.proofs.Common.{◌<◌, ◌+◌, take, drop, get_or, add-one, refl, sym, ap, ◌∙◌, ◌≡◌, ◌==◌, ◌||◌, ◌&&◌, not, true, false, [], ◌∷◌, ◌++◌, ℕ, List, Bool, Option, Some, None, Ok, ◌≤◌, cond, map, filter, length, append-nil, option_to_list, arith}
use Rattle.std.proofs.lemmas.Bool.Decides.{nat_tests}
use Rattle.std.proofs.Math.Seq.{drop-cons}
use Rattle.std.proofs.lemmas.List.{map-append, take_more, take_all, drop_all}
use Rattle.std.proofs.lemmas.List.Elements.{filter-append}
use Rattle.std.proofs.lemmas.Map.Views.{any-filter_same}
use Rattle.std.specs.List.{list_any}
use Rattle.std.specs.Option.{option_map_or}
use Rattle.kdg_text.specs.declared.fault.Fault.{Fault}
use Rattle.kdg_text.specs.declared.fault.LineFault.{LineFault}
use Rattle.kdg_text.specs.Faults.{Numbered, first_fault, first_fault_after, unless_fault}
use Rattle.bench_reader.specs.declared.deck.Deck.{Deck}
use Rattle.bench_reader.specs.LineForms.{LineForm}
use Rattle.bench_reader.specs.Decks.{said, signal_names, output_by, stimulus_by, signal_by, signal_delay, place_of, firsts, deck_among, deck_with, late_fault}
use Rattle.bench_reader.specs.Grammar.{deck_of_lines}
use Rattle.bench_reader.specs.Outlines.{with_first, deck_plus}
use Rattle.bench_reader.specs.declared.statement.NumberedStatement.{NumberedStatement}
use Rattle.bench_reader.specs.Statements.{line_form, numbered_form}
use Rattle.bench_reader.proofs.Tables.{said-push}

eqb_swap : (m n : ℕ) → (m == n) ≡ (n == m)
eqb_swap m n = grind (arith, nat_tests)

eqb_as : (n y k : ℕ) → (k == n) ≡ true → not (k == y) ≡ not (n == y)
eqb_as n y k same = grind (arith, nat_tests)

firsts-step : (y n : ℕ) (ns : List ℕ) (before : Bool) → y ∷ filter (λ m. not (m == y)) (cond before ns (ns ++ n ∷ [])) ≡ cond ((y == n) || (not (n == y) && before)) (y ∷ filter (λ m. not (m == y)) ns) ((y ∷ filter (λ m. not (m == y)) ns) ++ n ∷ [])
firsts-step y n ns true = rw (eqb_swap y n) (by_test (n == y))
  where
    by_test : (b : Bool) → y ∷ filter (λ m. not (m == y)) ns ≡ cond (b || (not b && true)) (y ∷ filter (λ m. not (m == y)) ns) ((y ∷ filter (λ m. not (m == y)) ns) ++ n ∷ [])
    by_test true = refl
    by_test false = refl
firsts-step y n ns false = rw (eqb_swap y n, filter-append (λ m. not (m == y)) ns (n ∷ [])) (by_test (n == y))
  where
    by_test : (b : Bool) → y ∷ (filter (λ m. not (m == y)) ns ++ cond (not b) (n ∷ []) []) ≡ cond (b || (not b && false)) (y ∷ filter (λ m. not (m == y)) ns) ((y ∷ filter (λ m. not (m == y)) ns) ++ n ∷ [])
    by_test true = ap (λ rest. y ∷ rest) (append-nil (filter (λ m. not (m == y)) ns))
    by_test false = refl

-- a number more at the end
firsts-push : (ns : List ℕ) (n : ℕ) → firsts (ns ++ n ∷ []) ≡ with_first (firsts ns) n
firsts-push [] n = refl
firsts-push (y ∷ ns) n =
    rw (firsts-push ns n, any-filter_same (λ m. m == n) (λ m. not (m == y)) (not (n == y)) (eqb_as n y) (firsts ns))
    (firsts-step y n (firsts ns) (list_any (λ m. m == n) (firsts ns)))

outputs-push : (all : List (List ℕ)) (names : List (List ℕ)) (output : Option (List ℕ))
    → firsts (map (place_of all) (names ++ option_to_list output)) ≡ option_map_or (λ name. with_first (firsts (map (place_of all) names)) (place_of all name)) output (firsts (map (place_of all) names))
outputs-push all names None = rw (append-nil names) refl
outputs-push all names (Some name) = rw (map-append (place_of all) names (name ∷ [])) (firsts-push (map (place_of all) names) (place_of all name))

-- a deck with a line more
pub deck_among-push : (all lines : List (Numbered LineForm)) (line : Numbered LineForm) → deck_among all (lines ++ line ∷ []) ≡ deck_plus all (deck_among all lines) line.form
deck_among-push all lines line =
    rw (said-push (signal_by (signal_names all)) lines line, said-push output_by lines line, said-push stimulus_by lines line, said-push (signal_delay all) lines line, outputs-push (signal_names all) (said output_by lines) (output_by line.form)) refl

abbrev Judge : Type 0
Judge = List (Numbered LineForm) → LineForm → Option LineFault

-- a line without a fault leaves the first fault to those behind it
pub first_fault-fits : (judge : Judge) (before rest : List (Numbered LineForm)) (line : Numbered LineForm) → judge before line.form ≡ None
    → first_fault_after judge before (line ∷ rest) ≡ first_fault_after judge (before ++ line ∷ []) rest
first_fault-fits judge before rest line fits = rw fits refl

-- the lines up to one more
lines-more : (items : List NumberedStatement) (k : ℕ) (d : NumberedStatement) → k < length items → map numbered_form (take (k + 1) items) ≡ map numbered_form (take k items) ++ numbered_form (get_or items k d) ∷ []
lines-more items k d below = ap (map numbered_form) (take_more items k d below) ∙ map-append numbered_form (take k items) (get_or items k d ∷ [])

pub made-step : (all : List (Numbered LineForm)) (items : List NumberedStatement) (k : ℕ) (d : NumberedStatement) (deck next : Deck) → k < length items → deck ≡ deck_among all (map numbered_form (take k items))
    → next ≡ deck_plus all deck (line_form (get_or items k d).statement) → next ≡ deck_among all (map numbered_form (take (k + 1) items))
made-step all items k d deck next below so_far made =
    made ∙ ap (λ front. deck_plus all front (line_form (get_or items k d).statement)) so_far
    ∙ sym (deck_among-push all (map numbered_form (take k items)) (numbered_form (get_or items k d)))
    ∙ ap (deck_among all) (sym (lines-more items k d below))

pub faultless-step : (judge : Judge) (items : List NumberedStatement) (k : ℕ) (d : NumberedStatement) (whole : Option Fault) → k < length items
    → judge (map numbered_form (take k items)) (line_form (get_or items k d).statement) ≡ None → first_fault_after judge (map numbered_form (take k items)) (map numbered_form (drop k items)) ≡ whole
    → first_fault_after judge (map numbered_form (take (k + 1) items)) (map numbered_form (drop (k + 1) items)) ≡ whole
faultless-step judge items k d whole below fits so_far =
    let cut : map numbered_form (drop k items) ≡ numbered_form (get_or items k d) ∷ map numbered_form (drop (k + 1) items) = rw add-one (ap (map numbered_form) (drop-cons items k d below)) in
    ap (λ before. first_fault_after judge before (map numbered_form (drop (k + 1) items))) (lines-more items k d below)
    ∙ sym (ap (first_fault_after judge (map numbered_form (take k items))) cut ∙ first_fault-fits judge (map numbered_form (take k items)) (map numbered_form (drop (k + 1) items)) (numbered_form (get_or items k d)) fits)
    ∙ so_far

-- the deck once each line was gone over without a fault
pub all-made : (lines : List (Numbered LineForm)) (items : List NumberedStatement) (k : ℕ) (deck : Deck) → length items ≤ k → map numbered_form items ≡ lines → deck ≡ deck_among lines (map numbered_form (take k items))
    → first_fault_after (λ _. late_fault lines) (map numbered_form (take k items)) (map numbered_form (drop k items)) ≡ first_fault (λ _. late_fault lines) lines → deck_of_lines lines ≡ Ok deck
all-made lines items k deck past whole made faultless =
    let is_all : map numbered_form (take k items) ≡ lines = ap (map numbered_form) (take_all k items past) ∙ whole in
    let no_fault : first_fault (λ _. late_fault lines) lines ≡ None =
    sym faultless ∙ ap (λ rest. first_fault_after (λ _. late_fault lines) (map numbered_form (take k items)) (map numbered_form rest)) (drop_all k items past) in
    ap (λ fault. unless_fault fault (Ok (deck_with lines))) no_fault ∙ ap Ok (sym (made ∙ ap (deck_among lines) is_all))
