use Rattle.std.proofs.Common.{◌<◌, ◌+◌, ℕ, List, length, drop, get_or, sym, ap, subst, ◌∙◌}
use Rattle.std.proofs.lemmas.List.{drop_all}
use Rattle.rw_sets.specs.declared.access.Access.TheVariants.{Read}
use Rattle.mark_rounds.proofs.Noted.{AreNoted, all_noted, reading_noted, within_bound, writing_noted}
use Rattle.mark_rounds.proofs.writers.note_writer.Goals as goal
use Rattle.mark_rounds.proofs.writers.note_writer.Goals.{then-is_write, else-is_write}

pub bounds-writers-pair : goal.bounds-writers-pair
bounds-writers-pair c =
    subst (λ (n : ℕ). (get_or c.items-pair-items.result.now c.loop-pair.pair-index (0, Read)).0 < n) (sym c.loop-pair.invariant.count)
    (within_bound c.lookup_laws.ensures.find_pairs c.args.set.now c.items-pair-items.result.now c.loop-pair.pair-index (length c.args.writers.now) (0, Read)
    c.items-pair-items.ensures.ascending c.items-pair-items.ensures.all c.loop-pair-test.true c.requires.wide)

pub loop-pair-preserved : goal.loop-pair-preserved
loop-pair-preserved c =
    let set = c.args.set.now in
    let items = c.items-pair-items.result.now in
    let i = c.loop-pair.pair-index in
    let old = c.args.writers.now in
    let within : (get_or items i (0, Read)).0 < length c.loop-pair.writers =
    subst (λ (n : ℕ). (get_or items i (0, Read)).0 < n) (sym c.loop-pair.invariant.count)
    (within_bound c.lookup_laws.ensures.find_pairs set items i (length old) (0, Read) c.items-pair-items.ensures.ascending c.items-pair-items.ensures.all c.loop-pair-test.true c.requires.wide) in
    let noted = λ (now : List ℕ). AreNoted c.args.rank set old now (drop (i + 1) set) in
    elim c.if-is_write.branch [
      | then-is_write w ↦
          subst noted (sym w.writers-is)
          (writing_noted c.args.rank set items old c.loop-pair.writers i (0, Read) c.items-pair-items.ensures.all c.loop-pair-test.true c.loop-pair.invariant (sym c.is_write.ensures ∙ w.if-is_write.true) within)
      | else-is_write w ↦
          subst noted (sym w.writers-is)
          (reading_noted c.args.rank set items old c.loop-pair.writers i (0, Read) c.items-pair-items.ensures.all c.loop-pair-test.true c.loop-pair.invariant (sym c.is_write.ensures ∙ w.if-is_write.false))
    ]

pub returns-clause-noted : goal.returns-clause-noted
returns-clause-noted c =
    all_noted c.lookup_laws.ensures.find_pairs c.args.rank c.args.writers.now c.loop-pair.writers c.args.set.now (drop c.loop-pair.pair-index c.args.set.now)
    c.items-pair-items.ensures.ascending
    (ap (drop c.loop-pair.pair-index) (sym c.items-pair-items.ensures.all) ∙ drop_all c.loop-pair.pair-index c.items-pair-items.result.now c.loop-pair-test.false) c.loop-pair.invariant
