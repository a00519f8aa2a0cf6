use Rattle.std.proofs.Common.{arith, sym, ap, ◌≡◌, ◌∙◌, ◌<◌, ℕ, Option, Some, None, Ok, length}
use Rattle.std.specs.Option.{ok_or}
use Rattle.bench_reader.specs.Decks.{signal_names}
use Rattle.bench_reader.specs.Outlines.{number_of}
use Rattle.bench_reader.proofs.FanIns.{number_of-found}
use Rattle.bench_reader.proofs.outline.Outline.make_output.Goals as goal

there : {E : Type 0} (o : Option ℕ) (error : E) (n : ℕ) → ok_or o error ≡ Ok n → o ≡ Some n
there None error n is = cc
there (Some m) error n is = let same : m ≡ n = cc in ap Some same

pub declare-requires-clause-within : goal.declare-requires-clause-within
declare-requires-clause-within c =
    let number = c.in_ok-output.output in
    let numbered : number_of (signal_names c.args.self.now) c.args.name.now ≡ Some number =
    sym c.number_of.ensures ∙ there c.number_of.result _ number (sym c.ok_or.ensures.value ∙ c.in_ok-output.was) in
    let within : number < length (signal_names c.args.self.now) = (number_of-found (signal_names c.args.self.now) c.args.name.now number numbered).2 in
    omega (arith, c.requires.count)
