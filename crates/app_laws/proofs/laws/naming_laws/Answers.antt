use Rattle.app_laws.proofs.Listed.{listed_tasks_are_named}
use Rattle.app_laws.proofs.laws.naming_laws.Goals as goal

pub returns : goal.returns
returns c =
    listed_tasks_are_named
    c.ascending_laws.ensures.distinct c.ascending_laws.ensures.any_order c.ascending_laws.ensures.determined
    c.put_all_laws.ensures.ascending c.put_all_laws.ensures.tasks
