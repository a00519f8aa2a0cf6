use Rattle.kdg_text.specs.Tokens.{tokens_of}
use Rattle.bench_reader.specs.LineForms.{marks}
use Rattle.bench_reader.proofs.FanIns.{drop-next}
use Rattle.bench_reader.proofs.making.names_behind.Goals as goal

pub loop-skipped-preserved : goal.loop-skipped-preserved
loop-skipped-preserved c = drop-next (tokens_of marks c.args.line.now) c.loop-skipped.tokens _ c.loop-skipped.skipped _ c.loop-skipped.invariant c.next_token-token.ensures
