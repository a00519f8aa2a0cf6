-- How the paths of a task's children lie to other paths.
use Rattle.std.specs.Prelude.{◌≡◌, ℕ, false, List}
use Rattle.std.specs.List.{AllByRecursion}
use Rattle.task_order.specs.declared.key.Key.{Key}
use Rattle.task_order.specs.declared.start.Start.{Start}
use Rattle.app_laws.specs.Execution.{children_from, first_from}
use Rattle.app_laws.specs.Order.{is_prefix, AreApart, Pairwise}

-- what the parent's path is apart from, the children's paths are apart from
abbrev pub ChildrenAreApart : Type 0
ChildrenAreApart = (parent : Key) (children : List Start) (path : List ℕ) → AreApart parent.path path →
    AllByRecursion (λ child. AreApart child.key.path path) (children_from parent 0 children)

-- and they are apart from one another
abbrev pub SiblingsAreApart : Type 0
SiblingsAreApart = (parent : Key) (children : List Start) → Pairwise (λ child sibling. AreApart child.key.path sibling.key.path) (children_from parent 0 children)

-- what the parent's path is no prefix of, the children's paths are no prefix of
abbrev pub ChildrenAreNew : Type 0
ChildrenAreNew = (parent : Key) (children : List Start) (path : List ℕ) → is_prefix parent.path path ≡ false →
    AllByRecursion (λ child. is_prefix child.key.path path ≡ false) (children_from parent 0 children)

-- nor are they a prefix of the parent's
abbrev pub ChildrenGoOn : Type 0
ChildrenGoOn = (parent : Key) (children : List Start) → AllByRecursion (λ child. is_prefix child.key.path parent.path ≡ false) (children_from parent 0 children)

-- first tasks are apart from one another
abbrev pub FirstTasksAreApart : Type 0
FirstTasksAreApart = (first : List Start) → Pairwise (λ task other. AreApart task.key.path other.key.path) (first_from 0 first)
