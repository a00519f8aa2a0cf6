-- A text of which no byte is kept, by the steps that led to it.
use Rattle.std.specs.Prelude.{ℕ, zero, ◌+◌, List, [], ◌++◌, Option, Some, None}

-- the text, and how many steps led to it
pub record PastText : Type 0 where
  pub text : List ℕ
  pub steps : ℕ

-- a piece comes behind the text
pub record PastPiece : Type 0 where
  pub before : PastText
  pub piece : List ℕ

abbrev pub text_after : Option PastPiece → PastText
text_after None = record { text = []; steps = zero }
text_after (Some step) = record { text = step.before.text ++ step.piece; steps = step.before.steps + 1 }
