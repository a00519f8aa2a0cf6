use Rattle.std.proofs.Common.{arith}
use Rattle.kdg_prog.specs.Problem.{problem_of}
use Rattle.kdg_prog.proofs.FirstTasks.{refusal_at_start}
use Rattle.kdg_prog.proofs.running.check_start.Goals as goal

pub returns-in-Some : goal.returns-in-Some
returns-in-Some g c =
    let problem = problem_of (g.A.App.meaning c.args.app.now) (g.A.Runnable.setting c.args.app.now) in
    record {
      refusal = refusal_at_start c.put_in_laws.ensures.length c.execution_laws.ensures.ends c.args.options.now problem c.in-Some.created c.in-Some.ensures.0 c.in-Some.ensures.1;
      at_start = λ created most answered. omega (arith, c.in-Some.ensures.0, c.in-Some.ensures.1);
    }
