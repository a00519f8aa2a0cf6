use Rattle.std.proofs.Common.{◌≡◌, ◌<◌, ◌^◌, length, subst, sym}
use Rattle.std.proofs.lemmas.Result.{IfOk-weaker}
use Rattle.app_laws.specs.Applications.{AreFitStarts}
use Rattle.spring_mesh.specs.Meaning.{mesh_steps, start_tasks}
use Rattle.spring_mesh.proofs.Steps.{start_tasks-few, start_tasks-fit}
use Rattle.spring_mesh.proofs.mesh.Mesh.first_tasks.Goals as goal

pub returns-clause-fit : goal.returns-clause-fit
returns-clause-fit c =
    let file = c.self.inside.file in
    rw (← c.self.view_is)
    (IfOk-weaker c.first_steps.result (λ tasks. tasks ≡ start_tasks file) (AreFitStarts (mesh_steps file)) (λ tasks is. subst (AreFitStarts (mesh_steps file)) (sym is) (start_tasks-fit file)) c.first_steps.ensures)

pub returns-clause-few : goal.returns-clause-few
returns-clause-few c =
    let file = c.self.inside.file in
    IfOk-weaker c.first_steps.result (λ tasks. tasks ≡ start_tasks file) (λ tasks. length tasks < 2 ^ 32) (λ tasks is. rw is (start_tasks-few file c.self.invariant)) c.first_steps.ensures
