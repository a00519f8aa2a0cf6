use Rattle.std.proofs.Common.{arith, rules}
use Rattle.gf2_eliminate.proofs.FirstCommon.{none_behind, least_behind}
use Rattle.gf2_eliminate.proofs.ones.first_bit.Goals as goal

pub returns-then-left-eq0 : goal.returns-then-left-eq0
returns-then-left-eq0 c = none_behind c.args.word c.args.from c.if-left-eq0.true

pub returns-else-left-eq0 : goal.returns-else-left-eq0
returns-else-left-eq0 c = least_behind c.args.word c.args.from (search rules) (omega arith)
