use Rattle.std.proofs.Common.{◌≡◌, rules, map, ap, ◌∙◌}
use Rattle.std.specs.Ordering.{is_lt}
use Rattle.std.proofs.lemmas.Fn.{always_returns_same}
use Rattle.std.proofs.lemmas.List.{take_all}
use Rattle.app_laws.specs.Names.{start_of_task}
use Rattle.app_laws.proofs.ByPath.{before_ranks, is_before, sorted_by_path}
use Rattle.app_laws.proofs.listing.starts_by_path.Goals as goal

pub returns : goal.returns
returns c =
    let sort = c.sort_unstable_by in
    let whole = take_all c.loop-task.task-index c.deref-task-items.result.now c.loop-task-test.false ∙ c.deref-task-items.ensures.value in
    record {
      tasks = sort.new.self.items;
      same = sort.ensures.permutation;
      by_path = sorted_by_path c.args.tasks.items sort.new.self.items c.requires sort.ensures.permutation
          (sort.ensures.sorted is_before before_ranks
          (always_returns_same _ (λ a r. is_lt r ≡ is_before a.0.now a.1.0.now) _ (λ a r f k. search rules)));
      starts = c.loop-task.invariant ∙ ap (map start_of_task) whole;
    }
