use mir.Syntax.{of_param}
use Rattle.std.proofs.Common.{◌<◌, refl, rules, arith}
use Rattle.source_pool.proofs.staffing.all_rounds.Goals as goal

pub counted_rounds-run-requires : goal.counted_rounds-run-requires
counted_rounds-run-requires g c κs within =
    let some : 0 < c.new-blank.result.parts = omega (arith, c.new-blank.ensures) in
    let sent = c.type_bounds.send-A-Val in
    let horizon = c.type_bounds.send-A-Horizon in
    let asked = c.requires in (
      within.0,
      (
        within.1.0,
        (
          within.1.1.0,
          (
            within.1.1.1.0,
            (
              search rules,
              (
                within.1.1.1.1.0,
                (
                  within.1.1.1.1.1,
                  (
                    record { owned = sent.owned; leaving = λ k. sent.leaving (λ _. k (of_param 5)) },
                    (
                      record { owned = horizon.owned; leaving = λ k. horizon.leaving (λ _. k (of_param 6)) },
                      (
                        c.type_bounds.sync-R,
                        (c.type_bounds.sync-A, (c.type_bounds.sync-G, (refl, (refl, (some, (asked.workers, (asked.rest, (refl, (asked.limited, (asked.no_fault, c.args.begun.told)))))))))),
                      ),
                    ),
                  ),
                ),
              ),
            ),
          ),
        ),
      ),
    )

pub returns-clause-run : goal.returns-clause-run
returns-clause-run g c =
    let played = c.counted_rounds-run.ensures in
    record { end = played.end; fit = played.fit; fault = played.fault; cut = played.cut }
