use Rattle.std.proofs.Common.{◌<◌, ◌^◌, ◌++◌, not, List, [], refl, sym, ap, subst, ◌∙◌, arith}
use Rattle.std.proofs.lemmas.Bool.{true≢false}
use Rattle.std.proofs.lemmas.Result.{err_from_is_err_and}
use Rattle.kdg_graph.specs.Nodes.{least_of}
use Rattle.app_laws.specs.Applications.{PathsAreIgnored}
use Rattle.run_laws.specs.Progress.{Progress}
use Rattle.run_laws.specs.Renaming.{IsRenamed}
use Rattle.run_laws.specs.Sound.{IsSound}
use Rattle.cell_store.specs.Values.{values_of}
use Rattle.source_pool.specs.Legs.{BeginsAtRest, GoesOnFrom}
use Rattle.source_pool.specs.Runs.{IsRunFault, state_at_rest}
use Rattle.source_pool.specs.Streams.{IsCutShort, IsOnLeg}
use Rattle.source_pool.proofs.EngineAtRest.{no_node, some_node}
use Rattle.source_pool.proofs.LegRounds.{leg_fails, next_begins}
use Rattle.source_pool.proofs.Sending.{tells_both, tells_none}
use Rattle.source_pool.proofs.Telling.{cut_behind, cut_for_room, told_ends}
use Rattle.source_pool.proofs.rounds.counted_rounds.Goals as goal

pub loop-steps-init : goal.loop-steps-init
loop-steps-init g c =
    let app = g.A.App.meaning c.args.engine.app in
    let rest = c.requires.1.1.1.1.1.1.1.1.1.1.1.1.1.1.1.1.0 in
    let begins = c.requires.1.1.1.1.1.1.1.1.1.1.1.1.1.1.1.1.1.0 in
    let no_fault = c.requires.1.1.1.1.1.1.1.1.1.1.1.1.1.1.1.1.1.1.1.0 in
    record {
      app = refl;
      rest = subst (BeginsAtRest app) (sym begins) rest;
      goes_on = ([], tells_none g.K.Sink.contents g.K.Sink.faults c.args.outlet.now c.args.out.now, subst (GoesOnFrom app g.start [] 0) (sym begins) (c.leg_laws.ensures.begins c.args.engine.app g.start));
      none_left = λ failed. absurd (true≢false (sym failed ∙ no_fault));
      few = omega (arith, ap (λ (p : Progress g.row.A-Val.Denot). p.ended) begins);
      room = refl;
      partners = refl;
    }

pub play_leg-requires : goal.play_leg-requires
play_leg-requires g c κs within =
    let bounds = c.requires.1.1.1.1.1.1.1 in
    let others = bounds.1.1 in
    let limited = c.requires.1.1.1.1.1.1.1.1.1.1.1.1.1.1.1.1.1.1.0 in
    let at = c.loop-steps in
    let now = at.engine.progress in
    let rest = subst (λ (app : g.row.A.Denot). BeginsAtRest (g.A.App.meaning app) now) (sym at.invariant.app) at.invariant.rest in
    let limited : now.limit < 2 ^ 64 = omega (arith, at.invariant.goes_on.2.limit, limited) in
    let partners = at.invariant.partners ∙ c.requires.1.1.1.1.1.1.1.1.1.1.1.1.1.1.1.1.1.1.1.1 ∙ sym at.invariant.app in (
      within.0,
      (
        within.1.0,
        (
          within.1.1.0,
          (
            within.1.1.1.0,
            (
              within.1.1.1.1.0,
              (
                within.1.1.1.1.1.0,
                (
                  within.1.1.1.1.1.1,
                  (bounds.0, (bounds.1.0, (others.0, (others.1.0, (others.1.1.0, (others.1.1.1.1.1.1.0, (rest, (refl, (limited, (at.invariant.none_left, partners)))))))))),
                ),
              ),
            ),
          ),
        ),
      ),
    )

-- ---- where a leg is cut short

pub returns-in_err-rounds-clause-fault : goal.returns-in_err-rounds-clause-fault
returns-in_err-rounds-clause-fault g c =
    let at = c.loop-steps in
    let now = at.engine.progress in
    let fault = subst (λ (app : g.row.A.Denot). IsRunFault (g.A.App.meaning app) now c.in_err-rounds.field-0.0) at.invariant.app c.in_err-rounds.ensures.fault in
    let e = err_from_is_err_and c.from_residual.result c.from_residual.ensures.1 in
    rw (e.1, e.2) (leg_fails g.start now at.invariant.goes_on.0 at.rounds at.invariant.goes_on.2 c.in_err-rounds.field-0.0 fault)

pub returns-in_err-rounds-clause-cut : goal.returns-in_err-rounds-clause-cut
returns-in_err-rounds-clause-cut g c =
    let at = c.loop-steps in
    let now = at.engine.progress in
    let new = c.play_leg.new.outlet in
    let why = c.in_err-rounds.field-0.0 in
    let on = at.invariant.goes_on in
    let cut = subst (λ (app : g.row.A.Denot). IsCutShort (g.A.App.meaning app) now new.has_failed new.told why) at.invariant.app c.in_err-rounds.ensures.cut in
    let e = err_from_is_err_and c.from_residual.result c.from_residual.ensures.1 in
    rw (e.1, e.2) (
      on.0 ++ new.told,
      tells_both g.K.Sink.contents g.K.Sink.faults c.args.outlet.now at.outlet new c.args.out.now at.out c.play_leg.new.out on.0 new.told on.1 c.play_leg.ensures.tells,
      cut_behind g.start now on.0 new.told at.rounds new.has_failed why on.2 cut,
    )

pub returns-in_err-engine-clause-cut : goal.returns-in_err-engine-clause-cut
returns-in_err-engine-clause-cut g c =
    let at = c.loop-steps in
    let old = at.engine.progress in
    let now = c.play_leg.new.engine.progress in
    let new = c.play_leg.new.outlet in
    let on = at.invariant.goes_on in
    let leg = subst (λ (app : g.row.A.Denot). IsOnLeg (g.A.App.meaning app) old new.has_failed c.in_ok-rounds.field-0 now new.told) at.invariant.app c.in_ok-rounds.ensures.leg in
    let e = err_from_is_err_and c.from_residual-in_err-engine.result c.from_residual-in_err-engine.ensures.1 in
    rw (e.1, e.2) (
      on.0 ++ new.told,
      tells_both g.K.Sink.contents g.K.Sink.faults c.args.outlet.now at.outlet new c.args.out.now at.out c.play_leg.new.out on.0 new.told on.1 c.play_leg.ensures.tells,
      cut_behind g.start old on.0 new.told at.rounds new.has_failed _ on.2 (cut_for_room old new.told new.has_failed leg.kept),
    )

pub returns-in_err-finals-clause-cut : goal.returns-in_err-finals-clause-cut
returns-in_err-finals-clause-cut g c =
    let at = c.loop-steps in
    let old = at.engine.progress in
    let now = c.play_leg.new.engine.progress in
    let new = c.play_leg.new.outlet in
    let on = at.invariant.goes_on in
    let leg = subst (λ (app : g.row.A.Denot). IsOnLeg (g.A.App.meaning app) old new.has_failed c.in_ok-rounds.field-0 now new.told) at.invariant.app c.in_ok-rounds.ensures.leg in
    let e = err_from_is_err_and c.from_residual-in_err-finals.result c.from_residual-in_err-finals.ensures.1 in
    rw (e.1, e.2) (
      on.0 ++ new.told,
      tells_both g.K.Sink.contents g.K.Sink.faults c.args.outlet.now at.outlet new c.args.out.now at.out c.play_leg.new.out on.0 new.told on.1 c.play_leg.ensures.tells,
      cut_behind g.start old on.0 new.told at.rounds new.has_failed _ on.2 (cut_for_room old new.told new.has_failed leg.kept),
    )

-- ---- from leg to leg

pub renamed-requires-clause-idle : goal.renamed-requires-clause-idle
renamed-requires-clause-idle g c κs within =
    let app = c.args.engine.app in
    let now = c.play_leg.new.engine.progress in
    let new = c.play_leg.new.outlet in
    let leg = subst (λ (app : g.row.A.Denot). IsOnLeg (g.A.App.meaning app) c.loop-steps.engine.progress new.has_failed c.in_ok-rounds.field-0 now new.told) c.loop-steps.invariant.app c.in_ok-rounds.ensures.leg in
    (c.rest_laws.ensures.no_jobs app now [] leg.rest.values leg.rest.course.come.sound).0 refl

pub renamed-requires-clause-silent : goal.renamed-requires-clause-silent
renamed-requires-clause-silent g c κs within =
    let now = c.play_leg.new.engine.progress in
    let some = some_node now.nodes c.least.result (c.least.ensures.least ∙ ap least_of c.graph.ensures.nodes) (c.is_none.ensures ∙ ap not c.if-is_none.false) in
    c.in_ok-rounds.ensures.silent some

pub end-requires-after_bounds : goal.end-requires-after_bounds
end-requires-after_bounds g c κs within =
    no_node c.play_leg.new.engine.progress.nodes c.least.result (c.least.ensures.least ∙ ap least_of c.graph.ensures.nodes) (c.is_none.ensures ∙ ap not c.if-is_none.true)

pub loop-steps-preserved : goal.loop-steps-preserved
loop-steps-preserved g c =
    let laws = c.rounds_laws.ensures in
    let legs = c.leg_laws.ensures in
    let own = c.args.engine.app in
    let app = g.A.App.meaning own in
    let at = c.loop-steps in
    let old = at.engine.progress in
    let now = c.play_leg.new.engine.progress in
    let new = c.play_leg.new.outlet in
    let next = c.in_ok-engine.engine.progress in
    let on = at.invariant.goes_on in
    let rounds = c.in_ok-rounds.field-0 in
    let same = c.play_leg.ensures.app ∙ at.invariant.app in
    let some = some_node now.nodes c.least.result (c.least.ensures.least ∙ ap least_of c.graph.ensures.nodes) (c.is_none.ensures ∙ ap not c.if-is_none.false) in
    let leg = subst (λ (app : g.row.A.Denot). IsOnLeg (g.A.App.meaning app) old new.has_failed rounds now new.told) at.invariant.app c.in_ok-rounds.ensures.leg in
    let ignored = subst (λ (app : g.row.A.Denot). PathsAreIgnored (g.A.App.meaning app)) at.invariant.app (c.in_ok-rounds.ensures.ignored some) in
    let renamed = subst (λ (app : g.row.A.Denot). IsRenamed (g.A.App.meaning app) now next) same c.in_ok-engine.ensures.renamed in
    let keeps = subst (λ (app : g.row.A.Denot). (values : List g.row.A-Val.Denot) → IsSound (g.A.App.meaning app) now [] values → IsSound (g.A.App.meaning app) next [] values) same c.in_ok-engine.ensures.sound in
    let later = legs.renamed own old now next (state_at_rest now) new.told rounds ignored at.invariant.rest leg.rest leg.leads leg.counted (c.in_ok-rounds.ensures.silent some) renamed in
    record {
      app = c.in_ok-engine.ensures.app ∙ same;
      rest = next_begins (laws.home own) (c.drawing_laws.ensures.starts own) old now next (values_of old.cells) new.told leg.rest renamed keeps;
      goes_on = (
        on.0 ++ new.told,
        tells_both g.K.Sink.contents g.K.Sink.faults c.args.outlet.now at.outlet new c.args.out.now at.out c.play_leg.new.out on.0 new.told on.1 c.play_leg.ensures.tells,
        legs.goes_on own g.start old next on.0 new.told at.rounds rounds on.2 later,
      );
      none_left = λ failed. ap (λ (p : Progress g.row.A-Val.Denot). p.log) renamed.after;
      few = omega (arith, at.invariant.few, c.in_ok-rounds.ensures.ended, ap (λ (p : Progress g.row.A-Val.Denot). p.ended) renamed.after);
      room = c.play_leg.ensures.same_room ∙ at.invariant.room;
      partners = c.play_leg.ensures.partners ∙ at.invariant.partners;
    }

-- ---- at the end

pub returns-clause-end : goal.returns-clause-end
returns-clause-end g c =
    let laws = c.rounds_laws.ensures in
    let own = c.args.engine.app in
    let at = c.loop-steps in
    let old = at.engine.progress in
    let now = c.play_leg.new.engine.progress in
    let new = c.play_leg.new.outlet in
    let on = at.invariant.goes_on in
    let rounds = c.in_ok-rounds.field-0 in
    let finals = c.in_ok-finals in
    let leg = subst (λ (app : g.row.A.Denot). IsOnLeg (g.A.App.meaning app) old new.has_failed rounds now new.told) at.invariant.app c.in_ok-rounds.ensures.leg in
    let empty = no_node now.nodes c.least.result (c.least.ensures.least ∙ ap least_of c.graph.ensures.nodes) (c.is_none.ensures ∙ ap not c.if-is_none.true) in (
      on.0 ++ new.told,
      tells_both g.K.Sink.contents g.K.Sink.faults c.args.outlet.now at.outlet new c.args.out.now at.out c.play_leg.new.out on.0 new.told on.1 c.play_leg.ensures.tells,
      told_ends (laws.end own) (laws.taken own) g.start old now on.0 new.told at.rounds rounds new.has_failed on.2 leg empty finals.finals finals.ensures.store finals.ensures.text finals.ensures.count,
    )

pub loop-steps-smaller : goal.loop-steps-smaller
loop-steps-smaller g c =
    let own = c.args.engine.app in
    let at = c.loop-steps in
    let old = at.engine.progress in
    let now = c.play_leg.new.engine.progress in
    let next = c.in_ok-engine.engine.progress in
    let new = c.play_leg.new.outlet in
    let same = c.play_leg.ensures.app ∙ at.invariant.app in
    let some = some_node now.nodes c.least.result (c.least.ensures.least ∙ ap least_of c.graph.ensures.nodes) (c.is_none.ensures ∙ ap not c.if-is_none.false) in
    let leg = subst (λ (app : g.row.A.Denot). IsOnLeg (g.A.App.meaning app) old new.has_failed c.in_ok-rounds.field-0 now new.told) at.invariant.app c.in_ok-rounds.ensures.leg in
    let renamed = subst (λ (app : g.row.A.Denot). IsRenamed (g.A.App.meaning app) now next) same c.in_ok-engine.ensures.renamed in
    let come = leg.rest.course.come in
    let counts = come.sound.keys_and_counts in
    omega (
      arith,
      c.in_ok-rounds.ensures.ended,
      c.in_ok-rounds.ensures.some_round some,
      counts.created,
      counts.within,
      come.limit,
      ap (λ (p : Progress g.row.A-Val.Denot). p.ended) renamed.after,
      ap (λ (p : Progress g.row.A-Val.Denot). p.limit) renamed.after,
    )
