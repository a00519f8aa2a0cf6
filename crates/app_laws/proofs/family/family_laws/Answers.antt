use Rattle.std.proofs.Common.{◌≡◌, ℕ, suc, false, List, [], ◌∷◌, ◌++◌}
use Rattle.std.specs.List.{AllByRecursion}
use Rattle.task_order.specs.declared.key.Key.{Key}
use Rattle.task_order.specs.declared.start.Start.{Start}
use Rattle.app_laws.specs.Execution.{children_from}
use Rattle.app_laws.specs.Order.{is_prefix, AreApart}
use Rattle.app_laws.proofs.Apart.{apart_longer, children_apart, first_apart, is_prefix-longer, is_prefix-longer_self}
use Rattle.app_laws.proofs.family.family_laws.Goals as goal

-- what holds of each path that goes on from the parent's holds of the children's
all_children : (P : List ℕ → Type 0) (parent : Key) → ((number : ℕ) → P (parent.path ++ number ∷ [])) → (number : ℕ) (children : List Start)
    → AllByRecursion (λ child. P child.key.path) (children_from parent number children)
all_children P parent each number [] = tt
all_children P parent each number (child ∷ children) = (each number, all_children P parent each (suc number) children)

pub returns-clause-apart : goal.returns-clause-apart
returns-clause-apart c = λ parent children path apart. all_children (λ longer. AreApart longer path) parent (λ number. apart_longer parent.path path number apart) 0 children

pub returns-clause-siblings : goal.returns-clause-siblings
returns-clause-siblings c = λ parent children. children_apart parent 0 children

pub returns-clause-new : goal.returns-clause-new
returns-clause-new c = λ parent children path new. all_children (λ longer. is_prefix longer path ≡ false) parent (λ number. is_prefix-longer parent.path path number new) 0 children

pub returns-clause-go_on : goal.returns-clause-go_on
returns-clause-go_on c = λ parent children. all_children (λ longer. is_prefix longer parent.path ≡ false) parent (λ number. is_prefix-longer_self parent.path number) 0 children

pub returns-clause-first : goal.returns-clause-first
returns-clause-first c = λ first. first_apart 0 first
