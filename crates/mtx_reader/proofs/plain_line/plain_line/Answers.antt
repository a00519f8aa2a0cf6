use Rattle.std.specs.Prelude.{◌≡◌, ◌+◌, ◌-◌, length, take, drop, Ok}
use Rattle.std.proofs.Common.{arith, get_or, subst}
use Rattle.std.proofs.lemmas.List.{length-drop, take_all}
use Rattle.kdg_text.specs.Numbers.{u64_of}
use Rattle.mtx_reader.proofs.PlainEntries.{plain_first}
use Rattle.mtx_reader.proofs.plain_line.plain_line.Goals as goal

pub returns-clause-said : goal.returns-clause-said
returns-clause-said c =
    let bytes = c.args.bytes.now in
    let row = c.leading_number-row.result in
    let column = c.leading_number-column.result in
    let rest = drop (row.len + 1) bytes in
    let given : take (length bytes - (row.len + 1)) rest ≡ rest = take_all (length bytes - (row.len + 1)) rest (omega (arith, length-drop (row.len + 1) bytes)) in
    let told : u64_of (take column.len rest) ≡ Ok column.value = subst (λ word. u64_of (take column.len word) ≡ Ok column.value) given (c.leading_number-column.ensures.number (omega (arith, c.if-column-eq0.false))) in
    let feed : get_or rest column.len 0 ≡ 10 = subst (λ word. get_or word column.len 0 ≡ 10) given c.if-rest-column-ne10.false in
    rw (c.from.ensures, c.from-2.ensures) (plain_first bytes row.len column.len row.value column.value (omega (arith, c.leading_number-row.ensures.within, c.leading_number-column.ensures.within))
    c.if-bytes-row-ne32.false feed (c.leading_number-row.ensures.number (omega (arith, c.if-row-eq0.false))) told)
