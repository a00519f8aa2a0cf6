use Rattle.std.proofs.Common.{◌≡◌, ◌<◌, ◌-◌, ℕ, suc, length, drop, sym, subst, ◌∙◌, arith}
use Rattle.mark_rounds.specs.Writers.{HaveFirstWriters}
use Rattle.mark_rounds.proofs.Noted.{one_more_set}
use Rattle.mark_rounds.proofs.Places.{left_one}
use Rattle.mark_rounds.proofs.writers.note_writers.Goals as goal

pub loop-rank-preserved : goal.loop-rank-preserved
loop-rank-preserved c =
    let sets = c.args.sets.now in
    let rank = c.loop-rank.rank - 1 in
    let set = c.index-sets-rank.result in
    let positive = c.loop-rank-test.true in
    let among = c.loop-rank.invariant.within in
    let within : rank < length sets = omega (arith, positive, among) in
    let after : suc rank ≡ c.loop-rank.rank = omega (arith, positive) in
    let have : HaveFirstWriters c.loop-rank.writers (suc rank) (drop (suc rank) sets) =
    subst (λ (n : ℕ). HaveFirstWriters c.loop-rank.writers n (drop n sets)) (sym after) c.loop-rank.invariant.noted in
    record {
      count = c.note_writer.ensures.count ∙ c.loop-rank.invariant.count;
      within = omega (arith, among);
      noted = subst (HaveFirstWriters c.note_writer.new.writers rank) (sym (left_one sets rank set within c.index-sets-rank.is))
          (one_more_set rank c.loop-rank.writers c.note_writer.new.writers set (drop (suc rank) sets) have c.note_writer.ensures.noted);
    }

pub returns-clause-noted : goal.returns-clause-noted
returns-clause-noted c =
    let none : c.loop-rank.rank ≡ 0 = omega (arith, c.loop-rank-test.false) in
    subst (λ (n : ℕ). HaveFirstWriters c.loop-rank.writers n (drop n c.args.sets.now)) none c.loop-rank.invariant.noted
