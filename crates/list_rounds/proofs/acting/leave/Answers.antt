use Rattle.list_rounds.proofs.Leaving.{earliest_left}
use Rattle.list_rounds.proofs.acting.leave.Goals as goal

pub returns-then-is_earliest : goal.returns-then-is_earliest
returns-then-is_earliest c =
    let taken = c.take_first.ensures in
    earliest_left c.ascending_laws.ensures.distinct c.put_in_laws.ensures.earliest_first c.without_laws.ensures.forgets_put c.take_first.result c.args.pending.now c.take_first.new.self c.args.key.now
    taken.ascending taken.first taken.empty taken.stays_empty (c.is_earliest.ensures c.if-is_earliest.true)
