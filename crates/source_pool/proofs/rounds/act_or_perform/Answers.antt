use mir.Syntax.{of_param}
use Rattle.source_pool.proofs.rounds.act_or_perform.Goals as goal

pub act_round-requires : goal.act_round-requires
act_round-requires g c κs within =
    let asked = c.requires.1.1.1.1.1.1 in
    let sent = asked.0 in
    let horizon = asked.1.0 in (
      within.0,
      (
        within.1.0,
        (
          within.1.1.0,
          (
            within.1.1.1,
            (
              record { owned = sent.owned; leaving = λ k. sent.leaving (λ _. k (of_param 2)) },
              (record { owned = horizon.owned; leaving = λ k. horizon.leaving (λ _. k (of_param 3)) }, asked.1.1.1.1.1.1.0),
            ),
          ),
        ),
      ),
    )

pub play_with_partners-requires : goal.play_with_partners-requires
play_with_partners-requires g c κs within =
    let asked = c.requires.1.1.1.1.1.1 in
    let sent = asked.0 in
    let horizon = asked.1.0 in (
      within.0,
      (
        within.1.0,
        (
          within.1.1.0,
          (
            within.1.1.1.0,
            (
              within.1.1.1.1,
              (
                record { owned = sent.owned; leaving = λ k. sent.leaving (λ _. k (of_param 3)) },
                (record { owned = horizon.owned; leaving = λ k. horizon.leaving (λ _. k (of_param 4)) }, asked.1.1.1.1.1.1),
              ),
            ),
          ),
        ),
      ),
    )

pub perform_and_end-requires : goal.perform_and_end-requires
perform_and_end-requires g c κs within =
    let asked = c.requires.1.1.1.1.1.1 in
    let sent = asked.0 in
    let horizon = asked.1.0 in (
      within.0,
      (
        within.1.0,
        (
          within.1.1.0,
          (
            within.1.1.1.0,
            (
              within.1.1.1.1.0,
              (
                within.1.1.1.1.1,
                (
                  record { owned = sent.owned; leaving = λ k. sent.leaving (λ _. k (of_param 4)) },
                  (record { owned = horizon.owned; leaving = λ k. horizon.leaving (λ _. k (of_param 5)) }, asked.1.1),
                ),
              ),
            ),
          ),
        ),
      ),
    )
