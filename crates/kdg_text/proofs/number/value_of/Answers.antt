use Rattle.std.proofs.Common.{arith, ◌+◌, take_all}
use Rattle.kdg_text.proofs.Numerals.{own, value_more, value_so_far}
use Rattle.kdg_text.proofs.number.value_of.Goals as goal

pub returns-in_err-checked_mul : goal.returns-in_err-checked_mul
returns-in_err-checked_mul c =
    let more = value_more c.args.digits.now c.loop-byte.byte-index c.requires (omega arith) in
    let bound = value_so_far c.args.digits.now (c.loop-byte.byte-index + 1) c.requires in
    rw c.from_residual.ensures (λ small. c.in_err-checked_mul.ensures (omega arith))

pub returns-in_err-value : goal.returns-in_err-value
returns-in_err-value c =
    let more = value_more c.args.digits.now c.loop-byte.byte-index c.requires (omega arith) in
    let bound = value_so_far c.args.digits.now (c.loop-byte.byte-index + 1) c.requires in
    rw c.from_residual-in_err-value.ensures (λ small. c.in_err-value.ensures (omega (arith, c.in_ok-checked_mul.ensures)))

pub loop-byte-preserved : goal.loop-byte-preserved
loop-byte-preserved c =
    let more = value_more c.args.digits.now c.loop-byte.byte-index c.requires (omega arith) in
    (omega (arith, c.in_ok-checked_mul.ensures, c.in_ok-value.ensures), omega (arith, c.in_ok-value.ensures))

pub returns : goal.returns
returns c =
    let same = own.same c.args.digits.now (own.to c.args.digits.now c.requires) in
    let all = take_all c.loop-byte.byte-index c.args.digits.now (omega arith) in
    let now = c.loop-byte.invariant.0 in
    let value = rw all at now in
    (omega arith, omega arith)
