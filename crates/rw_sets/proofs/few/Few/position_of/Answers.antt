use Rattle.std.proofs.Common.{arith, sym, ◌∙◌}
use Rattle.std.proofs.lemmas.Bool.{false≢true}
use Rattle.std.proofs.lemmas.List.{length-take-le}
use Rattle.rw_sets.proofs.Places.{absent_from_few}
use Rattle.rw_sets.proofs.few.Few.position_of.Goals as goal

pub returns-else-is_at-4-clause-absent : goal.returns-else-is_at-4-clause-absent
returns-else-is_at-4-clause-absent c =
    let few = c.args.self.now in
    absent_from_few _ c.args.loc (omega (arith, few.in_range, few.room, length-take-le few.len few.pairs))
    (λ at. false≢true (sym c.if-is_at.false ∙ c.is_at.ensures.1 at)) (λ at. false≢true (sym c.if-is_at-2.false ∙ c.is_at-else-is_at.ensures.1 at))
    (λ at. false≢true (sym c.if-is_at-3.false ∙ c.is_at-else-is_at-2.ensures.1 at)) (λ at. false≢true (sym c.if-is_at-4.false ∙ c.is_at-else-is_at-3.ensures.1 at))
