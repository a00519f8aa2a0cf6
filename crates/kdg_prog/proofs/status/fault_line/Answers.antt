use Rattle.std.proofs.Common.{◌++◌, ◌≤◌, List, ℕ, arith, length, length-append, codes}
use Rattle.std.proofs.lemmas.Fmt.{length-decimal-le}
use Rattle.std.specs.Fmt.{decimal}
use Rattle.kdg_prog.proofs.Digits.{length_decimal, put_more}
use Rattle.kdg_prog.proofs.status.fault_line.Goals as goal

pub returns-in-Budget-clause-text : goal.returns-in-Budget-clause-text
returns-in-Budget-clause-text c =
    let base = c.args.line.now in
    let named : List ℕ = codes "budget: more than " in
    let limit : List ℕ = decimal c.in-Budget.limit in
    let first = c.put-end-in-Budget in
    let second = c.put_number-end-in-Budget in
    let with_limit = put_more base named limit first.new.line second.new.line first.result second.result (omega arith) first.ensures.text second.ensures.end second.ensures.text in
    let whole = put_more base (named ++ limit) (codes " tasks") second.new.line c.put.new.line second.result c.put.result (omega (arith, length-append named limit)) with_limit c.put.ensures.end c.put.ensures.text in
    rw (c.in-Budget.is) whole

pub returns-in-BadInput-clause-text : goal.returns-in-BadInput-clause-text
returns-in-BadInput-clause-text c =
    let base = c.args.line.now in
    let named : List ℕ = codes "bad input: line " in
    let number : List ℕ = decimal c.in-BadInput.number in
    let kinded : List ℕ = codes ": fault " in
    let first = c.put-end-in-BadInput in
    let second = c.put_number-end in
    let third = c.put-end-in-BadInput-2 in
    let last = c.put_number-in-BadInput in
    let with_number = put_more base named number first.new.line second.new.line first.result second.result (omega arith) first.ensures.text second.ensures.end second.ensures.text in
    let with_fault = put_more base (named ++ number) kinded second.new.line third.new.line second.result third.result (omega (arith, length-append named number)) with_number third.ensures.end third.ensures.text in
    let whole = put_more base (named ++ number ++ kinded) (decimal c.into-in-BadInput.result) third.new.line last.new.line third.result last.result (omega (arith, length-append named number, length-append (named ++ number) kinded)) with_fault last.ensures.end last.ensures.text in
    rw (c.in-BadInput.is, ← c.into-in-BadInput.ensures) whole

pub returns-in-BadInput-clause-within : goal.returns-in-BadInput-clause-within
returns-in-BadInput-clause-within c =
    let few : length (decimal c.into-in-BadInput.result) ≤ 3 = length-decimal-le 3 c.into-in-BadInput.result (omega arith) (omega (arith, c.into-in-BadInput.ensures)) (omega (arith, c.into-in-BadInput.ensures)) in
    omega (arith, few, length_decimal c.in-BadInput.number (omega arith), c.put_number-in-BadInput.ensures.end, c.put-end-in-BadInput-2.ensures.end, c.put_number-end.ensures.end, c.put-end-in-BadInput.ensures.end)
