use Rattle.std.proofs.Common.{[]}
use Rattle.bench_reader.specs.Decks.{late_fault}
use Rattle.bench_reader.specs.declared.statement.NumberedStatement.{NumberedStatement}
use Rattle.bench_reader.specs.declared.statement.Statement.TheVariants.{Input}
use Rattle.bench_reader.proofs.LineByLine.{made-step, faultless-step, all-made}
use Rattle.bench_reader.proofs.outline.Outline.deck.Goals as goal

any_line : NumberedStatement
any_line = record { number = 0; statement = Input (record { ref_ptr = (0, 0); now = [] }) }

pub loop-line-preserved : goal.loop-line-preserved
unfolding any_line
loop-line-preserved c =
    let items = c.lines-line-items.result.now in
    let k = c.loop-line.line-index in
    record {
      whole = c.loop-line.invariant.whole;
      made = made-step c.args.self.now items k any_line _ _ c.loop-line-test.true c.loop-line.invariant.made c.in_ok-make.ensures.made;
      marked = c.in_ok-make.ensures.marked;
      faultless = faultless-step (λ _. late_fault c.args.self.now) items k any_line _ c.loop-line-test.true c.in_ok-make.ensures.fits c.loop-line.invariant.faultless;
    }

pub returns : goal.returns
returns c = all-made c.args.self.now c.lines-line-items.result.now c.loop-line.line-index c.loop-line.making.deck c.loop-line-test.false c.loop-line.invariant.whole c.loop-line.invariant.made c.loop-line.invariant.faultless
