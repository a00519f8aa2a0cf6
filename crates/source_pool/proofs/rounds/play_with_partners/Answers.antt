use mir.Syntax.{of_param}
use Rattle.std.proofs.Common.{◌∙◌, sym, ap, subst}
use Rattle.source_pool.specs.Round.{BeginsRound}
use Rattle.source_pool.proofs.rounds.play_with_partners.Goals as goal

pub play_round-requires : goal.play_round-requires
play_round-requires g c κs within =
    let asked = c.requires.1.1.1.1.1 in
    let sent = asked.0 in
    let horizon = asked.1.0 in
    let same = c.next_clear.ensures.same in
    let begins = subst (λ e. BeginsRound (g.A.App.meaning e.app) g.from e.progress) (sym same) asked.1.1.0 in
    let told = asked.1.1.1 ∙ ap (λ e. e.app) (sym same) in (
      within.0,
      (
        within.1.0,
        (
          within.1.1.0,
          (
            within.1.1.1.0,
            (
              within.1.1.1.1,
              (
                record { owned = sent.owned; leaving = λ k. sent.leaving (λ _. k (of_param 1)) },
                (record { owned = horizon.owned; leaving = λ k. horizon.leaving (λ _. k (of_param 2)) }, (told, begins)),
              ),
            ),
          ),
        ),
      ),
    )
