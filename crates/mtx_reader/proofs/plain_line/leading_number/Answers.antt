use Rattle.std.specs.Prelude.{◌≡◌, true, take}
use Rattle.std.specs.Char.{is_ascii_digit}
use Rattle.std.specs.List.{list_all}
use Rattle.std.specs.Str.Parse.{digits_value}
use Rattle.std.proofs.Common.{arith, subst}
use Rattle.mtx_reader.proofs.PlainEntries.{few_digits, number_so_far, one_more}
use Rattle.mtx_reader.proofs.plain_line.leading_number.Goals as goal

pub returns-then-digit-gt9-clause-number : goal.returns-then-digit-gt9-clause-number
returns-then-digit-gt9-clause-number c =
    let so_far = c.loop-len.invariant in
    number_so_far c.args.bytes.now c.loop-len.len c.loop-len.value (omega arith) (omega arith) so_far.digits so_far.value

pub returns-clause-number : goal.returns-clause-number
returns-clause-number c =
    let so_far = c.loop-len.invariant in
    let at : c.loop-len.len ≡ 4 = omega arith in
    number_so_far c.args.bytes.now 4 c.loop-len.value (omega arith) (omega arith)
    (subst (λ k. list_all is_ascii_digit (take k c.args.bytes.now) ≡ true) at so_far.digits) (subst (λ k. c.loop-len.value ≡ digits_value 10 (take k c.args.bytes.now)) at so_far.value)

pub overflow_mul-value : goal.overflow_mul-value
overflow_mul-value c =
    let small = few_digits c.args.bytes.now c.loop-len.len (omega arith) c.loop-len.invariant.digits in
    omega (arith, c.loop-len.invariant.value)

pub overflow_add-value : goal.overflow_add-value
overflow_add-value c =
    let small = few_digits c.args.bytes.now c.loop-len.len (omega arith) c.loop-len.invariant.digits in
    omega (arith, c.loop-len.invariant.value, c.if-digit-gt9.false)

pub loop-len-preserved : goal.loop-len-preserved
loop-len-preserved c =
    let so_far = c.loop-len.invariant in
    let more = one_more c.args.bytes.now c.loop-len.len c.loop-len.value c.from-digit.result (omega arith) c.from-digit.ensures (omega arith) c.if-digit-gt9.false so_far.digits so_far.value in
    record { digits = more.0; value = more.1 }
