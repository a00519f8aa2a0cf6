-- What a lawful application's operator keeps, and its children as they are handed over.
use Rattle.std.proofs.Common.{◌≡◌, ℕ, ◌≤◌, List, [], ◌∷◌, length, refl, ap}
use Rattle.std.specs.Prelude.{map}
use Rattle.std.specs.List.{AllByRecursion}
use Rattle.std.proofs.lemmas.List.{length-map}
use Rattle.task_order.specs.declared.start.Start.{Start}
use Rattle.app_laws.specs.Applications.{Application, IsLawful, handed, starts_of}
use Rattle.app_laws.specs.Laws.{NoneEarlier}
use Rattle.app_laws.proofs.Ordered.{KeepsFit, ChildrenNotEarlier}

-- what a lawful application's operator keeps
pub keeps_fit : {V : Type 0} (app : Application V) → IsLawful app → KeepsFit app.is_fit_cells app.is_fit_task app.act
keeps_fit app lawful task cells fit-cells fit-task =
    let fit = lawful.acts_are_fit task cells fit-cells fit-task in
    record { cells = fit.cells; children = fit.children; few = fit.few }

pub not_earlier : {V : Type 0} (app : Application V) → IsLawful app → ChildrenNotEarlier app.is_fit_cells app.is_fit_task app.act
not_earlier app lawful = lawful.children_come_no_earlier

-- children that are handed over are the operator's
pub starts_of_handed : {V : Type 0} (app : Application V) (cells : List V) (starts : List Start) → starts_of (map (handed app cells) starts) ≡ starts
starts_of_handed app cells [] = refl
starts_of_handed app cells (start ∷ starts) = ap (λ rest. start ∷ rest) (starts_of_handed app cells starts)

pub length-handed : {V : Type 0} (app : Application V) (cells : List V) (starts : List Start) → length (map (handed app cells) starts) ≡ length starts
length-handed app cells starts = length-map starts (handed app cells)

pub handed_not_earlier : {V : Type 0} (app : Application V) (cells : List V) (prio : ℕ) (starts : List Start) → NoneEarlier prio starts
    → AllByRecursion (λ child. prio ≤ child.prio) (map (handed app cells) starts)
handed_not_earlier app cells prio [] none = tt
handed_not_earlier app cells prio (start ∷ starts) none = (none.0, handed_not_earlier app cells prio starts none.1)
