use Rattle.std.proofs.Common.{rules, subst, sym}
use Rattle.task_order.specs.declared.task.Task.{Task}
use Rattle.hook_app.specs.Kept.{IsAnswered, IsAsked}
use Rattle.engine_trials.specs.Adding.{adding, adding_sets}
use Rattle.engine_trials.proofs.Adding.{adding_together}
use Rattle.engine_trials.proofs.adder.adder_meets.Goals as goal

pub hook_meets-requires-clause-keeps : goal.hook_meets-requires-clause-keeps
hook_meets-requires-clause-keeps g c κs within = record {
  together = adding_together c.args.ahead c.requires.ahead;
  does_deeds = record {
    callable = λ task bundle asked p is. let here : IsAsked adding adding_sets p.now bundle = subst (λ (t : Task). IsAsked adding adding_sets t bundle) (sym is) asked in search rules;
    does = λ task bundle answer asked given. subst (λ (t : Task). IsAnswered adding adding_sets t bundle answer) given.1 given.2.1;
  };
}
