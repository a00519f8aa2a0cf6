use Rattle.std.proofs.Common.{ap, sym, ◌∙◌}
use Rattle.plain_laws.specs.Options.{if_some_at}
use Rattle.cell_store.specs.Values.{homes, values_of}
use Rattle.format_trials.proofs.levels.comes_to.Goals as goal

-- a search leaves the cells at the end of its visits, all home
pub shows-requires : goal.shows-requires
shows-requires c =
    let run = if_some_at _ _ _ c.in-Some.is c.in_ok-found.ensures.run in
    record { home = run.store ∙ ap homes (sym (ap values_of run.store ∙ c.value_laws.ensures.values.values_of_homes run.end.cells)) }
