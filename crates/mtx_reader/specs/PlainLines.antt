-- What the first line of some bytes says, and what follows it.
use Rattle.std.specs.Prelude.{◌≡◌, ℕ, List, ◌∷◌, Some, None}
use Rattle.kdg_text.specs.Lines.{lines_of}
use Rattle.mtx_reader.specs.declared.banner.Field.TheVariants.{Pattern}
use Rattle.mtx_reader.specs.declared.line_form.Entry.{Entry}
use Rattle.mtx_reader.specs.LineForms.{form_of}

-- the first line says this entry of a pattern and no size, and these bytes follow its line feed
pub record SaysFirst (bytes : List ℕ) (entry : Entry) (rest : List ℕ) : Type 0 where
  pub line : List ℕ
  pub cut : lines_of bytes ≡ line ∷ lines_of rest
  pub says : form_of Pattern line ≡ Some (record { size = None; entry = Some entry })
