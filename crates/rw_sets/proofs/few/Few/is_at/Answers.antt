use Rattle.std.proofs.Common.{arith}
use Rattle.std.proofs.lemmas.Bool.Decides.{nat_tests}
use Rattle.rw_sets.proofs.Places.{at_in_front, in_front_at}
use Rattle.rw_sets.proofs.few.Few.is_at.Goals as goal

pub returns-then-place-from : goal.returns-then-place-from
returns-then-place-from c =
    let few = c.args.self.now in
    let within = rw c.from.ensures at c.if-place-from.true in (
      λ test. at_in_front few.len few.pairs c.args.loc c.args.place (omega (arith, few.in_range, few.room)) within (grind (arith, nat_tests, test)),
      λ at. let here = in_front_at few.len few.pairs c.args.loc c.args.place within at in grind (arith, nat_tests, here),
    )
