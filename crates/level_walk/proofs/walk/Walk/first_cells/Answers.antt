use Rattle.std.proofs.Common.{◌≡◌, ap, subst, sym, ◌∙◌, ℕ}
use Rattle.std.specs.Prelude.{replicate}
use Rattle.plain_laws.specs.Options.{if_ok-weaker}
use Rattle.level_walk.specs.declared.level.Level.TheVariants.{Unset}
use Rattle.level_walk.specs.Levels.{levelling}
use Rattle.level_walk.proofs.Together.{start_fit}
use Rattle.level_walk.proofs.walk.Walk.first_cells.Goals as goal

pub returns-clause-fit : goal.returns-clause-fit
returns-clause-fit c =
    let pattern = c.args.self.now.pattern in
    if_ok-weaker c.unset_levels.result (λ cells. cells.items ≡ replicate c.count.result Unset) (λ cells. (levelling pattern).is_fit_cells cells.items)
    (λ cells are. subst (levelling pattern).is_fit_cells (sym (are ∙ ap (λ (n : ℕ). replicate n Unset) c.count.ensures.count)) (start_fit pattern c.count.ensures.together)) c.unset_levels.ensures
