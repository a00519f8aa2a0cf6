use Rattle.std.proofs.Common.{rules, arith, ◌+◌, ◌/◌, ◌%◌, sym, ap, length, length-append, []}
use Rattle.std.proofs.lemmas.Grind.{common_steps}
use Rattle.std.proofs.lemmas.Fmt.{decimal_step, decimal_digit, decimal_nonempty, length-decimal-le}
use Rattle.std.specs.Fmt.{decimal}
use Rattle.kdg_text.proofs.Numerals.{drop-set_before}
use Rattle.kdg_text.proofs.number.write_digits.Goals as goal

pub loop-rest-init : goal.loop-rest-init
loop-rest-init c =
    let short = length-decimal-le 20 c.args.number (omega arith) (omega arith) (omega arith) in
    record {
      written = grind (arith, common_steps);
      room = omega arith;
      within = omega arith;
      whole = search rules;
    }

pub loop-rest-preserved : goal.loop-rest-preserved
loop-rest-preserved c =
    let i = c.loop-rest.invariant in
    let step = decimal_step c.loop-rest.rest (omega arith) (omega arith) in
    let len = ap length step in
    let put = drop-set_before (decimal c.args.number) (decimal (c.loop-rest.rest / 10)) c.loop-rest.buffer c.loop-rest.start (48 + c.loop-rest.rest % 10) (omega arith) (omega arith) (rw (← step) i.written) in
    record {
      written = put;
      room = omega (arith, simp length-append at len);
      within = omega arith;
      whole = grind (arith, common_steps);
    }

pub returns-clause-digits : goal.returns-clause-digits
returns-clause-digits c =
    let i = c.loop-rest.invariant in
    let last = decimal_digit c.loop-rest.rest (omega arith) in
    let all = rw last at i.written in
    sym (drop-set_before (decimal c.args.number) [] c.loop-rest.buffer c.loop-rest.start (48 + c.loop-rest.rest) (omega arith) (omega arith) all)

pub returns-clause-start : goal.returns-clause-start
returns-clause-start c =
    let some = decimal_nonempty c.loop-rest.rest (omega arith) in
    let i = c.loop-rest.invariant in
    (omega arith, omega arith)
