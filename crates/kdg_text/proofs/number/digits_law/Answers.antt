use Rattle.std.proofs.lemmas.Fmt.{first_decimal}
use Rattle.kdg_text.proofs.Numerals.{u64_of-decimal, i64_of-signed_decimal}
use Rattle.kdg_text.proofs.number.digits_law.Goals as goal

pub returns-clause-unsigned : goal.returns-clause-unsigned
returns-clause-unsigned c = u64_of-decimal

pub returns-clause-signed : goal.returns-clause-signed
returns-clause-signed c = i64_of-signed_decimal

pub returns-clause-first : goal.returns-clause-first
returns-clause-first c = first_decimal
