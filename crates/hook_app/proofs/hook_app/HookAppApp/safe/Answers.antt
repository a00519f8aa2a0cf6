use Rattle.std.proofs.Common.{arith, ap, ◌∙◌, ◌≡◌, ◌<◌, ◌≤◌, ◌+◌, true}
use Rattle.std.specs.Prelude.{nat_lt}
use Rattle.std.proofs.lemmas.Bool.Decides.{nat_tests}
use Rattle.hook_app.specs.Hooked.{Hooked}
use Rattle.hook_app.proofs.SafeTasks.{earliest_far, earliest_near, none_is_below, none_is_pending}
use Rattle.hook_app.proofs.hook_app.HookAppApp.safe.Goals as goal

pub returns-in_default-clause-answer : goal.returns-in_default-clause-answer
returns-in_default-clause-answer g c = none_is_pending c.args.self.now.ahead c.args.task.now (g.P.PendingTasks.tasks c.args.pending.now) c.in_default.ensures.first

pub returns-in-None-clause-answer : goal.returns-in-None-clause-answer
returns-in-None-clause-answer g c =
    none_is_below c.args.self.now.ahead c.args.task.now c.in-Some.first.now (g.P.PendingTasks.tasks c.args.pending.now) c.in-Some.ensures.ascending c.in-Some.ensures.first
    (omega (arith, c.in-None.ensures))

pub returns-then-gap-self-clause-answer : goal.returns-then-gap-self-clause-answer
returns-then-gap-self-clause-answer g c =
    let ahead_is : c.self.inside.ahead ≡ c.args.self.now.ahead = ap (λ (app : Hooked g.row.D.Denot g.row.H.Denot). app.ahead) c.self.view_is in
    let far : c.args.task.now.key.prio < c.in-Some.first.now.key.prio + c.args.self.now.ahead = omega (arith, ahead_is, c.if-gap-self.true, c.in-Some-checked_sub.ensures) in
    let tested : nat_lt c.in-Some-checked_sub.gap c.self.inside.ahead ≡ true = grind (arith, nat_tests, c.if-gap-self.true) in
    tested ∙ earliest_far c.args.self.now.ahead c.args.task.now c.in-Some.first.now (g.P.PendingTasks.tasks c.args.pending.now) c.in-Some.ensures.ascending c.in-Some.ensures.first far

pub returns-else-gap-self-clause-answer : goal.returns-else-gap-self-clause-answer
returns-else-gap-self-clause-answer g c =
    let ahead_is : c.self.inside.ahead ≡ c.args.self.now.ahead = ap (λ (app : Hooked g.row.D.Denot g.row.H.Denot). app.ahead) c.self.view_is in
    let near : c.in-Some.first.now.key.prio + c.args.self.now.ahead ≤ c.args.task.now.key.prio = omega (arith, ahead_is, c.if-gap-self.false, c.in-Some-checked_sub.ensures) in
    let decided = earliest_near c.args.self.now.ahead c.args.task.now c.in-Some.first.now (g.P.PendingTasks.tasks c.args.pending.now) c.in-Some.ensures.ascending c.in-Some.ensures.first near in
    cc (decided)
