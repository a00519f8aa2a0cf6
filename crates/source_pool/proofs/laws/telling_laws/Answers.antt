use Rattle.source_pool.proofs.Sending.{all_written, first_told, front_written, tells_both, tells_none}
use Rattle.source_pool.proofs.laws.telling_laws.Goals as goal

pub returns-clause-begins : goal.returns-clause-begins
returns-clause-begins g c = first_told g.K.Sink.contents g.K.Sink.faults

pub returns-clause-none : goal.returns-clause-none
returns-clause-none g c = tells_none g.K.Sink.contents g.K.Sink.faults

pub returns-clause-add : goal.returns-clause-add
returns-clause-add g c = tells_both g.K.Sink.contents g.K.Sink.faults

pub returns-clause-all : goal.returns-clause-all
returns-clause-all g c = all_written

pub returns-clause-front : goal.returns-clause-front
returns-clause-front g c = front_written
