use Rattle.std.proofs.Common.{◌≡◌, List, ℕ, ◌++◌, ◌∷◌, [], IfOk, sym, ◌∙◌, ap, subst}
use Rattle.task_order.specs.PathCode.{numbers_of, IsCode}
use Rattle.task_order.proofs.PathCode.{numbers_of-none, IsCode-none}
use Rattle.task_order.proofs.path.Path.root.Goals as goal

pub grown-requires : goal.grown-requires
grown-requires c = subst (λ (bytes : List ℕ). IsCode bytes 0) (sym c.new.ensures) IsCode-none

pub returns : goal.returns
returns c =
    let none : numbers_of c.new.result 0 ≡ [] = ap (λ (bytes : List ℕ). numbers_of bytes 0) c.new.ensures ∙ numbers_of-none in
    subst (λ (numbers : List ℕ). IfOk c.grown.result (λ path. path ≡ numbers ++ c.args.number ∷ [])) none c.grown.ensures
