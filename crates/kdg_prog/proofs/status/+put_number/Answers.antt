use Rattle.std.proofs.Common.{◌∙◌, arith}
use Rattle.kdg_prog.proofs.Digits.{length-decimal_step, length-decimal_digit, set_digit, set_last_digit}
use Rattle.kdg_prog.proofs.status.+put_number.Goals as goal
use Rattle.kdg_prog.proofs.status.+put_number.Goals.{then-number-lt10, else-number-lt10}

pub put_number-last-requires : goal.put_number-last-requires
put_number-last-requires t c = omega (arith, length-decimal_step c.args.number)

pub bounds-line-last : goal.bounds-line-last
bounds-line-last t c =
    elim c.if-number-lt10.branch [
      | then-number-lt10 w ↦ omega (arith, length-decimal_digit c.args.number)
      | else-number-lt10 w ↦ omega (arith, length-decimal_step c.args.number)
    ]

pub returns-clause-end : goal.returns-clause-end
returns-clause-end t c =
    elim c.if-number-lt10.branch [
      | then-number-lt10 w ↦ omega (arith, length-decimal_digit c.args.number)
      | else-number-lt10 w ↦ omega (arith, length-decimal_step c.args.number)
    ]

pub returns-clause-text : goal.returns-clause-text
returns-clause-text t c =
    elim c.if-number-lt10.branch [
      | then-number-lt10 w ↦
          let digit = set_digit c.args.line.now c.args.at c.args.number (omega arith)
          (omega (arith, length-decimal_digit c.args.number)) in
          rw (w.line-is, w.last-is) digit
      | else-number-lt10 w ↦
          let number = c.args.number in
          let digit = set_last_digit c.args.line.now c.args.at c.if-number-lt10.last number (omega arith) (omega arith)
          (w.last-is ∙ w.put_number-last.ensures.end) (omega (arith, length-decimal_step number)) in
          rw (w.line-is ∙ w.put_number-last.ensures.text) (rw (← w.last-is) digit)
    ]
