use Rattle.std.specs.Prelude.{◌≡◌, ◌<◌, ◌^◌, length, map}
use Rattle.std.proofs.Common.{◌∙◌, arith, ap, sym, subst}
use Rattle.plain_laws.specs.Options.{if_ok-weaker}
use Rattle.app_laws.specs.Applications.{AreFitStarts}
use Rattle.mtx_reader.specs.Ascending.{numbers_from}
use Rattle.mtx_reader.specs.declared.pattern.Pattern.{Pattern}
use Rattle.gf2_eliminate.specs.Elimination.{elimination}
use Rattle.gf2_eliminate.specs.Membership.{length_numbers}
use Rattle.gf2_eliminate.specs.Start.{start_task}
use Rattle.gf2_eliminate.proofs.FirstCells.{tasks_fit}
use Rattle.gf2_eliminate.proofs.matrix.Matrix.first_tasks.Goals as goal

pub returns-clause-fit : goal.returns-clause-fit
returns-clause-fit c =
    let self = c.args.self.now in
    if_ok-weaker c.first_tasks.result (λ tasks. tasks ≡ map start_task (numbers_from 0 c.self.inside.pattern.cols)) (AreFitStarts (elimination self.rows self.cols))
    (λ tasks is. subst (AreFitStarts (elimination self.rows self.cols)) (sym (is ∙ ap (λ (p : Pattern). map start_task (numbers_from 0 p.cols)) c.self.view_is)) (tasks_fit self.rows self.cols)) c.first_tasks.ensures

pub returns-clause-few : goal.returns-clause-few
returns-clause-few c =
    if_ok-weaker c.first_tasks.result (λ tasks. tasks ≡ map start_task (numbers_from 0 c.self.inside.pattern.cols)) (λ tasks. length tasks < 2 ^ 32)
    (λ tasks is. let many = ap length is ∙ length_numbers start_task 0 c.self.inside.pattern.cols in omega (arith, many, c.self.invariant.columns)) c.first_tasks.ensures
