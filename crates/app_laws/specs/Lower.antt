-- What the crates below promise of keys and lists of tasks.
use Rattle.task_order.specs.Key.{ChildrenComeLater}
use Rattle.task_order.specs.Laws.{PutsKeepAscending}

pub record LowerLaws : Type 0 where
  pub children_later : ChildrenComeLater
  pub puts_ascend : PutsKeepAscending
