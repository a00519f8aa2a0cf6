use Rattle.std.proofs.Common.{rules, arith, subst, sym}
use Rattle.task_order.specs.declared.task.Task.{Task}
use Rattle.hook_app.specs.Kept.{IsAnswered, IsAsked}
use Rattle.engine_trials.specs.Walking.{AreArrows, place_sets, walking}
use Rattle.engine_trials.proofs.Walking.{walking_together}
use Rattle.engine_trials.proofs.walkers.walkers_meet.Goals as goal

pub hook_meets-requires-clause-keeps : goal.hook_meets-requires-clause-keeps
hook_meets-requires-clause-keeps g c κs within = record {
  together = walking_together c.args.to.items 1 c.requires.arrows (omega arith);
  does_deeds = record {
    callable = λ task bundle asked p is.
        let leads : AreArrows c.args.to.items = c.requires.arrows in
        let here : IsAsked (walking c.args.to.items) place_sets p.now bundle = subst (λ (t : Task). IsAsked (walking c.args.to.items) place_sets t bundle) (sym is) asked in search rules;
    does = λ task bundle answer asked given. subst (λ (t : Task). IsAnswered (walking c.args.to.items) place_sets t bundle answer) given.1 given.2.1;
  };
}
