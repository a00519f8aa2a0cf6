-- What is so of texts that are whole lines.
use Rattle.std.specs.Prelude.{List, [], refl, ℕ, ◌++◌, ◌∷◌}
use Rattle.app_laws.specs.Applications.{IsWholeLines}

pub ends_with_line_feed : (text : List ℕ) → IsWholeLines (text ++ 10 ∷ [])
ends_with_line_feed [] = refl
ends_with_line_feed (byte ∷ []) = refl
ends_with_line_feed (byte ∷ next ∷ text) = ends_with_line_feed (next ∷ text)

pub whole_behind : (front text : List ℕ) → IsWholeLines (front ++ (text ++ 10 ∷ []))
whole_behind [] text = ends_with_line_feed text
whole_behind (byte ∷ []) text = ends_with_line_feed (byte ∷ text)
whole_behind (byte ∷ next ∷ front) text = whole_behind (next ∷ front) text
