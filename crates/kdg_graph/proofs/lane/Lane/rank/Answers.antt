use Rattle.std.proofs.Common.{◌≡◌, ◌∙◌, ◌<◌, ◌-◌, ap, arith, length, sym}
use Rattle.plain_laws.specs.Orderings.{less_from_test}
use Rattle.kdg_graph.proofs.Common.{cmp_at}
use Rattle.kdg_graph.proofs.Searches.{all_earlier, found_ended, gap_ended, inside_tied}
use Rattle.kdg_graph.proofs.lane.Lane.rank.Goals.{then-len-eq0-via-then-len-eq0, then-len-eq0-via-else-len-eq0+then-is_lt}
use Rattle.kdg_graph.proofs.lane.Lane.rank.Goals as goal

pub returns-then-len-eq0-clause-rank : goal.returns-then-len-eq0-clause-rank
returns-then-len-eq0-clause-rank c nodes lane =
    all_earlier c.args.slots.now c.args.key.now nodes c.args.self.now.ids.items c.len-len.result lane c.len-len.ensures.len (λ place is.
    elim c.then-len-eq0.branch [
      | then-len-eq0-via-then-len-eq0 w ↦ absurd (omega (arith, is, w.if-len-eq0.true))
      | then-len-eq0-via-else-len-eq0+then-is_lt w ↦
          let last : place ≡ c.len-len.result - 1 = omega (arith, is) in
          ap (cmp_at c.args.slots.now c.args.key.now c.args.self.now.ids.items) last ∙ sym w.compare_at.ensures.order ∙ less_from_test _ (sym w.is_lt.ensures ∙ w.if-is_lt.true)
    ])

pub returns-in-Ok-clause-rank : goal.returns-in-Ok-clause-rank
returns-in-Ok-clause-rank c nodes lane =
    (found_ended c.args.slots.now c.args.key.now nodes c.args.self.now.ids.items c.in-Ok.place lane c.in-Ok.ensures.ended).rank

pub returns-in-Ok-clause-inside : goal.returns-in-Ok-clause-inside
returns-in-Ok-clause-inside c =
    let inside : c.in-Ok.place < length c.args.self.now.ids.items = inside_tied c.args.slots.now c.args.key.now c.args.self.now.ids.items c.in-Ok.place c.in-Ok.ensures.ended in
    omega (arith, inside)

pub returns-in-Ok-2-clause-rank : goal.returns-in-Ok-2-clause-rank
returns-in-Ok-2-clause-rank c nodes lane =
    (gap_ended c.args.slots.now c.args.key.now nodes c.args.self.now.ids.items c.in-Ok.place lane c.in-Ok.ensures.ended).rank
