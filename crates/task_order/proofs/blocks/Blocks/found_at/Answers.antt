use Rattle.std.proofs.Common.{is_eq, ◌∙◌, ap}
use Rattle.std.proofs.lemmas.Bool.{false≢true}
use Rattle.task_order.proofs.Found.{other_there, none_there, found_there, tells_Equal}
use Rattle.task_order.proofs.blocks.Blocks.found_at.Goals as goal

pub returns-in_default-clause-absent : goal.returns-in_default-clause-absent
returns-in_default-clause-absent c =
    other_there c.args.key.now c.args.self.now c.args.at c.args.place c.get.result c.in-Some.task c.get.ensures c.in-Some.is
    (λ same. false≢true (c.if-is_eq.ensures ∙ ap is_eq (c.compare.ensures.same.1 same)))

pub returns-in_default-2-clause-absent : goal.returns-in_default-2-clause-absent
returns-in_default-2-clause-absent c = none_there c.args.key.now c.args.self.now c.args.at c.args.place c.get.result c.get.ensures c.in_default.is

pub returns-in-Some-clause-found : goal.returns-in-Some-clause-found
returns-in-Some-clause-found c =
    found_there c.args.key.now c.args.self.now c.args.at c.args.place c.get.result c.in-Some.task c.get.ensures c.in-Some.is (c.compare.ensures.same.0 (tells_Equal c.compare.result c.if-is_eq.ensures))
