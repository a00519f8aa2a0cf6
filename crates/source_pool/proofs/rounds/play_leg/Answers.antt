use Rattle.std.proofs.Common.{◌≡◌, ◌+◌, ◌++◌, List, [], ℕ, length, false, true, refl, sym, ap, subst, ◌∙◌, arith}
use Rattle.std.proofs.lemmas.Result.{err_from_is_err_and}
use Rattle.cell_store.specs.Values.{values_of}
use Rattle.commuting.specs.Rounds.{after_round, clear_tasks}
use Rattle.kdg_graph.specs.Nodes.{least_of}
use Rattle.run_laws.specs.Events.{drainable, drained}
use Rattle.run_laws.specs.Progress.{Progress}
use Rattle.source_pool.specs.Course.{IsAtRest}
use Rattle.source_pool.specs.Kept.{PassesWith}
use Rattle.source_pool.specs.Runs.{state_at_rest}
use Rattle.source_pool.specs.Streams.{IsOnLeg, told_by}
use Rattle.text_outlet.specs.Sending.{TellsMore}
use Rattle.text_outlet.specs.declared.outlet.Outlet.{Outlet}
use Rattle.source_pool.proofs.EngineAtRest.{some_node}
use Rattle.source_pool.proofs.Sending.{tells_on, tells_same}
use Rattle.source_pool.proofs.Telling.{cut_at_start, cut_by_round, round_told, told_first}
use Rattle.source_pool.proofs.rounds.play_leg.Goals as goal

-- ---- at the start

pub loop-engine-init : goal.loop-engine-init
loop-engine-init g c =
    let own = c.args.engine.now.app in
    let app = g.A.App.meaning own in
    let begun = c.begin_leg.new.self in
    let had = begun.has_failed in
    let rest = c.requires.1.1.1.1.1.1.1.1.1.1.1.1.1.0 in
    let begins = c.requires.1.1.1.1.1.1.1.1.1.1.1.1.1.1.0 in
    let none_left = c.requires.1.1.1.1.1.1.1.1.1.1.1.1.1.1.1.1.0 in
    let now = c.tell.new.engine.progress in
    let told = c.tell.new.outlet.told in
    let drain = subst (λ (p : Progress g.row.A-Val.Denot). had ≡ false → now ≡ drained app p) begins c.in_ok-tell.ensures.drains in
    let same = subst (λ (p : Progress g.row.A-Val.Denot). had ≡ true → now ≡ p) begins c.tell.ensures.stands in
    let told_is : told ≡ told_by app had g.start =
    c.in_ok-tell.ensures.told ∙ ap (λ (front : List ℕ). front ++ told_by app had c.args.engine.now.progress) (ap (λ (o : Outlet). o.told) c.begin_leg.ensures)
    ∙ ap (told_by app had) begins in
    let left = λ (failed : had ≡ true). none_left (sym (ap (λ (o : Outlet). o.has_failed) c.begin_leg.ensures) ∙ failed) in
    let leg = told_first (c.kept_laws.ensures.drained own) g.start rest (c.rounds_laws.ensures.home own) (c.draining_laws.ensures own) now had c.tell.new.outlet.has_failed drain same c.tell.ensures.stays left in
    let ended = leg.counted in
    record {
      app = c.tell.ensures.app;
      leg = subst (IsOnLeg app g.start c.tell.new.outlet.has_failed 0 now) (sym told_is) leg;
      few = omega (arith, leg.counted);
      tells =
          tells_on g.K.Sink.contents g.K.Sink.faults c.args.outlet.now begun c.tell.new.outlet c.args.out.now c.args.out.now c.tell.new.out [] (told_by app had c.args.engine.now.progress) told
          (tells_same g.K.Sink.contents g.K.Sink.faults c.args.outlet.now begun c.args.out.now c.args.out.now (ap (λ (o : Outlet). o.held) c.begin_leg.ensures) (ap (λ (o : Outlet). o.has_failed) c.begin_leg.ensures) refl)
          c.in_ok-tell.ensures.tells (told_is ∙ ap (told_by app had) (sym begins));
      room = c.tell.ensures.same_room;
      partners = refl;
    }

pub returns-in_err-tell-clause-cut : goal.returns-in_err-tell-clause-cut
returns-in_err-tell-clause-cut g c =
    let rest = c.requires.1.1.1.1.1.1.1.1.1.1.1.1.1.0 in
    let told = ap (λ (o : Outlet). o.told) c.in_err-tell.ensures.nothing_told.0 ∙ ap (λ (o : Outlet). o.told) c.begin_leg.ensures in
    let e = err_from_is_err_and c.from_residual.result c.from_residual.ensures.1 in
    rw (e.1, e.2) (cut_at_start g.start c.tell.new.outlet.told c.tell.new.outlet.has_failed rest told)

pub returns-in_err-tell-clause-tells : goal.returns-in_err-tell-clause-tells
returns-in_err-tell-clause-tells g c =
    let same = c.in_err-tell.ensures.nothing_told in
    let next = c.tell.new.outlet in
    let told = ap (λ (o : Outlet). o.told) same.0 ∙ ap (λ (o : Outlet). o.told) c.begin_leg.ensures in
    let held = ap (λ (o : Outlet). o.held) same.0 ∙ ap (λ (o : Outlet). o.held) c.begin_leg.ensures in
    let failed = ap (λ (o : Outlet). o.has_failed) same.0 ∙ ap (λ (o : Outlet). o.has_failed) c.begin_leg.ensures in
    subst (TellsMore g.K.Sink.contents g.K.Sink.faults c.args.outlet.now c.args.out.now next c.tell.new.out) (sym told)
    (tells_same g.K.Sink.contents g.K.Sink.faults c.args.outlet.now next c.args.out.now c.tell.new.out held failed same.1)

-- ---- a round

pub play_round-requires : goal.play_round-requires
play_round-requires g c κs within =
    let bounds = c.requires.1.1.1.1.1.1.1 in
    let others = bounds.1.1 in
    let workers = others.1.1.1.0 in
    let at = c.loop-engine in
    let now = at.engine.progress in
    let rest = subst (λ (app : g.row.A.Denot). IsAtRest (g.A.App.meaning app) g.start (values_of g.start.cells) (state_at_rest now) at.outlet.told now) (sym at.invariant.app) at.invariant.leg.rest in
    let some = some_node now.nodes c.least.result (c.least.ensures.least ∙ ap least_of c.graph.ensures.nodes) (sym c.is_some.ensures ∙ c.loop-engine-test.true) in
    let partners = at.invariant.partners ∙ c.requires.1.1.1.1.1.1.1.1.1.1.1.1.1.1.1.1.1 ∙ sym at.invariant.app in (
      within.0,
      (
        within.1.0,
        (
          within.1.1.0,
          (
            within.1.1.1.0,
            (
              within.1.1.1.1.0,
              (within.1.1.1.1.1.0, (within.1.1.1.1.1.1, (bounds.0, (bounds.1.0, (others.0, (others.1.0, (others.1.1.0, (workers, (record { rest = rest; some = some }, (refl, partners)))))))))),
            ),
          ),
        ),
      ),
    )

pub overflow_add-rounds : goal.overflow_add-rounds
overflow_add-rounds g c =
    let limited = c.requires.1.1.1.1.1.1.1.1.1.1.1.1.1.1.1.0 in
    let come = c.in_ok-play_round.ensures.played.rest.course.come in
    omega (arith, c.loop-engine.invariant.few, c.in_ok-play_round.ensures.played.some, come.sound.keys_and_counts.created, come.sound.keys_and_counts.within, come.limit, limited)

pub returns-then-needs_new_paths-clause-leg : goal.returns-then-needs_new_paths-clause-leg
returns-then-needs_new_paths-clause-leg g c =
    let own = c.args.engine.now.app in
    let app = g.A.App.meaning own in
    let laws = c.rounds_laws.ensures in
    let rest = c.requires.1.1.1.1.1.1.1.1.1.1.1.1.1.0 in
    let at = c.loop-engine in
    let old = at.engine.progress in
    let now = c.play_round.new.engine.progress in
    let same = at.invariant.app in
    let next = subst (λ (app : g.row.A.Denot). IsAtRest (g.A.App.meaning app) g.start (values_of g.start.cells) (after_round (g.A.App.meaning app) (state_at_rest old)) c.play_round.new.outlet.told now) same c.in_ok-play_round.ensures.played.rest in
    let counted = subst (λ (app : g.row.A.Denot). now.ended ≡ old.ended + length (clear_tasks (g.A.App.meaning app) (state_at_rest old))) same c.in_ok-play_round.ensures.played.counted in
    let drained = subst (λ (app : g.row.A.Denot). at.outlet.has_failed ≡ false → drainable (g.A.App.meaning app) now.nodes now.log ≡ []) same c.in_ok-play_round.ensures.drained in
    let some = some_node old.nodes c.least.result (c.least.ensures.least ∙ ap least_of c.graph.ensures.nodes) (sym c.is_some.ensures ∙ c.loop-engine-test.true) in
    round_told (c.kept_laws.ensures.drained own) g.start rest (laws.home own) (laws.add own) old now at.rounds at.outlet.told c.play_round.new.outlet.told at.outlet.has_failed c.play_round.new.outlet.has_failed
    at.invariant.leg some next counted drained c.play_round.ensures.same c.play_round.ensures.stays

pub returns-then-needs_new_paths-clause-tells : goal.returns-then-needs_new_paths-clause-tells
returns-then-needs_new_paths-clause-tells g c =
    let at = c.loop-engine in
    let on = c.in_ok-play_round.ensures.told in
    tells_on g.K.Sink.contents g.K.Sink.faults c.args.outlet.now at.outlet c.play_round.new.outlet c.args.out.now at.out c.play_round.new.out at.outlet.told on.0 c.play_round.new.outlet.told at.invariant.tells on.2 on.1

pub loop-engine-preserved : goal.loop-engine-preserved
loop-engine-preserved g c =
    let own = c.args.engine.now.app in
    let app = g.A.App.meaning own in
    let laws = c.rounds_laws.ensures in
    let rest = c.requires.1.1.1.1.1.1.1.1.1.1.1.1.1.0 in
    let at = c.loop-engine in
    let old = at.engine.progress in
    let now = c.play_round.new.engine.progress in
    let same = at.invariant.app in
    let on = c.in_ok-play_round.ensures.told in
    let next = subst (λ (app : g.row.A.Denot). IsAtRest (g.A.App.meaning app) g.start (values_of g.start.cells) (after_round (g.A.App.meaning app) (state_at_rest old)) c.play_round.new.outlet.told now) same c.in_ok-play_round.ensures.played.rest in
    let counted = subst (λ (app : g.row.A.Denot). now.ended ≡ old.ended + length (clear_tasks (g.A.App.meaning app) (state_at_rest old))) same c.in_ok-play_round.ensures.played.counted in
    let drained = subst (λ (app : g.row.A.Denot). at.outlet.has_failed ≡ false → drainable (g.A.App.meaning app) now.nodes now.log ≡ []) same c.in_ok-play_round.ensures.drained in
    let some = some_node old.nodes c.least.result (c.least.ensures.least ∙ ap least_of c.graph.ensures.nodes) (sym c.is_some.ensures ∙ c.loop-engine-test.true) in
    record {
      app = c.play_round.ensures.app ∙ same;
      leg =
          round_told (c.kept_laws.ensures.drained own) g.start rest (laws.home own) (laws.add own) old now at.rounds at.outlet.told c.play_round.new.outlet.told at.outlet.has_failed c.play_round.new.outlet.has_failed
          at.invariant.leg some next counted drained c.play_round.ensures.same c.play_round.ensures.stays;
      few = omega (arith, at.invariant.few, c.in_ok-play_round.ensures.played.some);
      tells = tells_on g.K.Sink.contents g.K.Sink.faults c.args.outlet.now at.outlet c.play_round.new.outlet c.args.out.now at.out c.play_round.new.out at.outlet.told on.0 c.play_round.new.outlet.told at.invariant.tells on.2 on.1;
      room = c.play_round.ensures.same_room ∙ at.invariant.room;
      partners = c.play_round.ensures.partners ∙ at.invariant.partners;
    }

pub returns-in_err-play_round-clause-cut : goal.returns-in_err-play_round-clause-cut
returns-in_err-play_round-clause-cut g c =
    let own = c.args.engine.now.app in
    let app = g.A.App.meaning own in
    let rest = c.requires.1.1.1.1.1.1.1.1.1.1.1.1.1.0 in
    let at = c.loop-engine in
    let old = at.engine.progress in
    let new = c.play_round.new.outlet in
    let why = c.in_err-play_round.field-0.0 in
    let some = some_node old.nodes c.least.result (c.least.ensures.least ∙ ap least_of c.graph.ensures.nodes) (sym c.is_some.ensures ∙ c.loop-engine-test.true) in
    let passes = subst (λ (app : g.row.A.Denot). PassesWith g.start.limit (old.ended + length (clear_tasks (g.A.App.meaning app) (state_at_rest old))) (after_round (g.A.App.meaning app) (state_at_rest old)) why) at.invariant.app c.in_err-play_round.ensures.fault.passes in
    let told = ap (λ (o : Outlet). o.told) c.in_err-play_round.ensures.nothing_told.0 in
    let e = err_from_is_err_and c.from_residual-in_err-play_round.result c.from_residual-in_err-play_round.ensures.1 in
    rw (e.1, e.2) (cut_by_round (c.kept_laws.ensures.drained own) g.start rest old at.rounds at.outlet.told new.told at.outlet.has_failed new.has_failed why at.invariant.leg some told c.play_round.ensures.stays passes)

pub returns-in_err-play_round-clause-tells : goal.returns-in_err-play_round-clause-tells
returns-in_err-play_round-clause-tells g c =
    let at = c.loop-engine in
    let same = c.in_err-play_round.ensures.nothing_told in
    let first = c.args.outlet.now in
    subst (λ (o : Outlet). TellsMore g.K.Sink.contents g.K.Sink.faults first c.args.out.now o c.play_round.new.out o.told) (sym same.0)
    (subst (λ (s : g.row.K.Denot). TellsMore g.K.Sink.contents g.K.Sink.faults first c.args.out.now at.outlet s at.outlet.told) (sym same.1) at.invariant.tells)
