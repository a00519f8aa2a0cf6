use Rattle.std.proofs.Common.{[], refl}
use Rattle.std.proofs.lemmas.Result.{err_from_is_err_and}
use Rattle.source_pool.proofs.Sending.{tells_none}
use Rattle.source_pool.proofs.Telling.{cut_at_start}
use Rattle.source_pool.proofs.staffing.staffed_rounds.Goals as goal

pub returns-in_err-posts-clause-cut : goal.returns-in_err-posts-clause-cut
returns-in_err-posts-clause-cut g c =
    let e = err_from_is_err_and c.from_residual.result c.from_residual.ensures.1 in
    rw (e.1, e.2) ([], tells_none g.K.Sink.contents g.K.Sink.faults c.args.outlet.now c.args.out.now, cut_at_start c.args.engine.progress [] c.args.outlet.now.has_failed c.requires.rest refl)
