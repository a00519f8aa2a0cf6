use Rattle.std.proofs.Common.{◌∙◌, ◌∷◌, [], sym, subst, ap, true≢false}
use Rattle.graph_update.specs.Engine.{EngineState, FinishStaysSound}
use Rattle.run_laws.specs.Moves.{Moved}
use Rattle.worker_gate.specs.Fits.{drained_count}
use Rattle.free_pool.proofs.Moves.{ended_drains_none, refused_drains_none, refused_moves}
use Rattle.free_pool.proofs.turns.end_task.Goals as goal
use Rattle.free_pool.proofs.turns.end_task.Goals.{in-Ok, in-Err}

pub returns-clause-ended : goal.returns-clause-ended
returns-clause-ended g c job jobs others performed true =
    let old = c.args.engine.now in
    elim c.match-finish.branch [
      | in-Ok w ↦
          subst (λ (e : EngineState g.row.A.Denot g.row.A-Val.Denot). Moved (g.A.App.meaning old.app) old.progress jobs e.progress others (c.args.done.task.key ∷ [])) (sym w.engine-is)
          (c.move_laws.ensures.ends old.app old.progress c.finish.new.self.progress c.args.done job jobs others performed w.in-Ok.ensures.within w.in-Ok.ensures.finished)
      | in-Err w ↦ absurd (true≢false (sym true ∙ w.result-is))
    ]

pub returns-clause-refused : goal.returns-clause-refused
returns-clause-refused g c job jobs others performed false =
    let old = c.args.engine.now in
    let laws = c.move_laws.ensures in
    elim c.match-finish.branch [
      | in-Ok w ↦ absurd (true≢false (sym w.result-is ∙ false))
      | in-Err w ↦
          refused_moves (laws.refusals old.app) (laws.gives_up old.app) (laws.follow old.app) old.progress c.finish.new.self.progress c.match-finish.engine.progress c.args.done w.in-Err.field-0 job jobs others performed
          w.in-Err.ensures.refused (ap (λ (e : EngineState g.row.A.Denot g.row.A-Val.Denot). e.progress) (w.engine-is ∙ w.give_up.ensures.marked))
    ]

pub returns-clause-sound : goal.returns-clause-sound
returns-clause-sound g c true =
    let old = c.args.engine.now in
    elim c.match-finish.branch [
      | in-Ok w ↦
          subst (λ (e : EngineState g.row.A.Denot g.row.A-Val.Denot). FinishStaysSound (g.A.App.meaning old.app) old.progress c.args.done e.progress) (sym w.engine-is) w.in-Ok.ensures.sound
      | in-Err w ↦ absurd (true≢false (sym true ∙ w.result-is))
    ]

pub returns-clause-drained : goal.returns-clause-drained
returns-clause-drained g c =
    let old = c.args.engine.now in
    let drained = λ (e : EngineState g.row.A.Denot g.row.A-Val.Denot). drained_count e.progress in
    elim c.match-finish.branch [
      | in-Ok w ↦ ap drained w.engine-is ∙ ended_drains_none c.join_laws.ensures.one c.join_laws.ensures.length old.progress c.finish.new.self.progress c.args.done w.in-Ok.ensures.finished
      | in-Err w ↦ ap drained (w.engine-is ∙ w.give_up.ensures.marked) ∙ refused_drains_none (g.A.App.meaning old.app) old.progress c.finish.new.self.progress c.args.done w.in-Err.field-0 w.in-Err.ensures.refused
    ]
