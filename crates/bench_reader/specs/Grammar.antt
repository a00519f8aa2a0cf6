-- The decks that bytes spell, and the faults of those that spell none.
use Rattle.std.specs.Prelude.{◌≡◌, ℕ, List, Result, Ok, Err}
use Rattle.kdg_text.specs.Lines.{lines_of}
use Rattle.kdg_text.specs.Faults.{Numbered, forms_from, first_fault, unless_fault}
use Rattle.kdg_text.specs.declared.fault.Fault.{Fault}
use Rattle.kdg_text.specs.declared.fault.ReadFail.{ReadFail}
use Rattle.kdg_text.specs.declared.fault.ReadFail.TheVariants.{Bad, NoRoom}
use Rattle.bench_reader.specs.declared.deck.Deck.{Deck}
use Rattle.bench_reader.specs.LineForms.{LineForm, form_of}
use Rattle.bench_reader.specs.Decks.{early_fault, late_fault, deck_with}

-- the lines that say something, with their numbers
abbrev pub said_lines : List ℕ → List (Numbered LineForm)
said_lines input = forms_from form_of 1 (lines_of input)

-- the deck of lines that have no early fault, or the first late one
abbrev pub deck_of_lines : List (Numbered LineForm) → Result Deck Fault
deck_of_lines lines = unless_fault (first_fault (λ before. late_fault lines) lines) (Ok (deck_with lines))

-- the deck that lines describe together, or the first fault; each early one comes before any late one
abbrev pub answer_of : List (Numbered LineForm) → Result Deck Fault
answer_of lines = unless_fault (first_fault early_fault lines) (deck_of_lines lines)

-- the deck that the bytes spell, or their first fault
unfoldable pub deck_of : List ℕ → Result Deck Fault
deck_of input = answer_of (said_lines input)

-- bytes are refused only for the fault that they have
abbrev pub Refuses : List ℕ → ReadFail → Type 0
Refuses input NoRoom = Unit {0}
Refuses input (Bad fault) = deck_of input ≡ Err fault
