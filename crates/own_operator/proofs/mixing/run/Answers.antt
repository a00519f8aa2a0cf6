use Rattle.std.proofs.Common.{rules, subst, sym}
use Rattle.task_order.specs.declared.task.Task.{Task}
use Rattle.hook_app.specs.Kept.{IsAnswered, IsAsked}
use Rattle.own_operator.specs.Mixing.{group_sets, mixing}
use Rattle.own_operator.proofs.Groups.{mixing_together}
use Rattle.own_operator.proofs.mixing.run.Goals as goal

pub run_by-requires-clause-keeps : goal.run_by-requires-clause-keeps
run_by-requires-clause-keeps g c κs within =
    let mixer = c.args.setting.now.mixer in
    let sets = group_sets mixer.groups in record {
      together = mixing_together mixer;
      does_deeds = record {
        callable = λ task bundle asked p is. let here : IsAsked (mixing mixer) sets p.now bundle = subst (λ (t : Task). IsAsked (mixing mixer) sets t bundle) (sym is) asked in search rules;
        does = λ task bundle answer asked given. subst (λ (t : Task). IsAnswered (mixing mixer) sets t bundle answer) given.1 given.2.1;
      };
    }
