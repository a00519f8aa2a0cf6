-- The children of a task as they are stored.
use Rattle.std.specs.Prelude.{◌≡◌, List, [], ◌∷◌, ◌++◌, Option, None, Some}
use Rattle.app_laws.specs.declared.child.Child.{Child}
use Rattle.app_laws.specs.declared.child.Children.{Children}
use Rattle.app_laws.specs.declared.child.Children.TheVariants as stored

abbrev pub children_in : Children → List Child
children_in stored.None = []
children_in (stored.One child) = child ∷ []
children_in (stored.Many children) = children.items

-- the children with one more, or those alone where that one came back
abbrev pub IsAdded : List Child → Child → Children → Option Child → Type 0
IsAdded children child stored None = children_in stored ≡ children ++ child ∷ []
IsAdded children child stored (Some back) = (children_in stored ≡ children) × (back ≡ child)
