use Rattle.std.proofs.Common.{◌∙◌, ap}
use Rattle.std.specs.Prelude.{slice_index_or}
use Rattle.spring_mesh.specs.Meaning.{no_spring}
use Rattle.spring_mesh.proofs.Steps.{first_steps_early, first_steps_late}
use Rattle.spring_mesh.proofs.mesh.first_steps.Goals as goal
use Rattle.spring_mesh.proofs.mesh.first_steps.Goals.{then-spring-file+in_ok-push, else-spring-file}

pub loop-number-preserved : goal.loop-number-preserved
loop-number-preserved c =
    let number = c.loop-number.number in
    let spring = slice_index_or c.items-spring-items.result.now number no_spring in
    let is = ap (λ springs. slice_index_or springs number no_spring) c.items-spring-items.ensures in
    elim c.if-spring-file.branch [
      | then-spring-file+in_ok-push w ↦
          first_steps_early c.args.file.now number spring w.first_step.result c.loop-number.starts c.if-spring-file.starts is w.if-spring-file.true w.first_step.ensures
          (w.starts-is ∙ w.in_ok-push.ensures.ok) c.loop-number.invariant
      | else-spring-file w ↦ rw w.starts-is (first_steps_late c.args.file.now number spring c.loop-number.starts is w.if-spring-file.false c.loop-number.invariant)
    ]
