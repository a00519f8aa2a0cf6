use Rattle.std.proofs.Common.{sym, ◌∙◌, ◌≡◌, Some}
use Rattle.bench_reader.specs.Decks.{signal_names}
use Rattle.bench_reader.specs.Outlines.{number_of}
use Rattle.bench_reader.proofs.FanIns.{numbers_of-next}
use Rattle.bench_reader.proofs.outline.Outline.fan_in_of.Goals as goal

pub loop-name-preserved : goal.loop-name-preserved
loop-name-preserved c =
    let all = signal_names c.args.self.now in
    let name = c.in-Some.name.now in
    let number = c.in-Some-number_of.number in
    let numbered : number_of all name ≡ Some number = sym c.number_of.ensures ∙ c.in-Some-number_of.is in
    let next = numbers_of-next all c.loop-name.numbers c.loop-name.names c.next_token.new.self c.next_token-mark.new.self name number c.next_token-mark.result
    c.in-Some.ensures c.next_token-mark.ensures numbered in
    rw c.in_ok-push-in-Some-number_of.ensures.ok (next ∙ c.loop-name.invariant)
