use Rattle.std.proofs.Common.{◌≡◌, ℕ, ◌+◌, List, suc, ◌≤◌, ap, arith, sym, subst, ◌∙◌, length}
use Rattle.std.specs.List.{AllByRecursion}
use Rattle.std.proofs.lemmas.Bool.{false≢true}
use Rattle.std.proofs.lemmas.List.{length-replicate}
use Rattle.cell_store.specs.Values.{homes, values_of}
use Rattle.level_walk.specs.VisitLaws.{first_fit}
use Rattle.level_search.specs.Counts.{IsMost}
use Rattle.level_search.specs.Turns.{IsVertexOf, Left, after_level, visited}
use Rattle.level_search.proofs.Course.{HasCome, after, ends_here, has_begun, level_done, level_within, next_within, rounds_here}
use Rattle.level_search.proofs.Fit.{levels_fit}
use Rattle.level_search.proofs.searching.search.Goals as goal

pub loop-found-init : goal.loop-found-init
loop-found-init c =
    subst (λ (left : Left). HasCome c.args.walk.now.pattern c.args.walk.now.from c.args.limit 0 0 0 left) (sym c.in_ok-found.ensures)
    (has_begun c.args.walk.now.pattern c.args.walk.now.from c.args.limit c.from-from.ensures.some)

pub most_to_one-requires-clause-vertices : goal.most_to_one-requires-clause-vertices
most_to_one-requires-clause-vertices c =
    let pattern = c.args.walk.now.pattern in
    let old = c.loop-found in
    subst (λ (count : ℕ). AllByRecursion (IsVertexOf count) c.deref.result.now) (sym c.count-count.ensures.count)
    (subst (AllByRecursion (IsVertexOf _)) (sym (c.deref.ensures.value ∙ c.take_next-visits.ensures.taken)) (next_within pattern c.args.walk.now.from c.args.limit old.level old.ended old.rounds old.found old.invariant))

pub visit_all-requires-clause-vertices : goal.visit_all-requires-clause-vertices
visit_all-requires-clause-vertices c =
    let pattern = c.args.walk.now.pattern in
    let old = c.loop-found in
    subst (AllByRecursion (IsVertexOf _)) (sym (c.deref-in-loop-found.ensures.value ∙ c.take_next-visits.ensures.taken)) (next_within pattern c.args.walk.now.from c.args.limit old.level old.ended old.rounds old.found old.invariant)

pub overflow_add-level : goal.overflow_add-level
overflow_add-level c =
    let old = c.loop-found in
    let low = level_within c.args.walk.now.pattern c.args.walk.now.from c.args.limit old.level old.ended old.rounds old.found old.invariant (λ none. false≢true (sym c.loop-found-test.true ∙ c.is_done.ensures.1 none)) in
    omega (arith, low)

pub loop-found-preserved : goal.loop-found-preserved
loop-found-preserved c =
    let pattern = c.args.walk.now.pattern in
    let from = c.args.walk.now.from in
    let limit = c.args.limit in
    let old = c.loop-found in
    let visits-are = c.take_next-visits.ensures.taken in
    let many : c.len-in-loop-found.result ≡ length old.found.next = c.len-in-loop-found.ensures ∙ sym c.deref.ensures.len ∙ ap length (c.deref.ensures.value ∙ visits-are) in
    let most : IsMost old.found.next c.in_ok-rounds.field-0 = subst (λ (vertices : List ℕ). IsMost vertices c.in_ok-rounds.field-0) (c.deref.ensures.value ∙ visits-are) c.in_ok-rounds.ensures in
    let found-is : c.visit_all.new.self ≡ after_level pattern old.level old.found =
    c.in_ok-visit_all.ensures ∙ (λ i. visited pattern old.level (c.take_next-visits.ensures.left i) ((c.deref-in-loop-found.ensures.value ∙ visits-are) i)) in
    let next-level : suc old.level ≡ old.level + 1 = omega arith in
    let ended-is : old.ended + length old.found.next ≡ old.ended + c.len-in-loop-found.result = omega (arith, many) in
    let within : old.ended + length old.found.next ≤ limit = omega (arith, c.if-len-limit.false, old.invariant.within) in
    subst (HasCome pattern from limit (old.level + 1) (old.ended + c.len-in-loop-found.result) (old.rounds + c.in_ok-rounds.field-0)) (sym found-is)
    (subst (λ (ended : ℕ). HasCome pattern from limit (old.level + 1) ended (old.rounds + c.in_ok-rounds.field-0) (after_level pattern old.level old.found)) ended-is
    (subst (λ (level : ℕ). HasCome pattern from limit level (old.ended + length old.found.next) (old.rounds + c.in_ok-rounds.field-0) (after_level pattern old.level old.found)) next-level
    (level_done pattern from limit old.level old.ended old.rounds old.found old.invariant c.count-count.ensures.sound c.basis.ensures c.in_ok-rounds.field-0 most within)))

pub returns-clause-run : goal.returns-clause-run
returns-clause-run c =
    let pattern = c.args.walk.now.pattern in
    let from = c.args.walk.now.from in
    let old = c.loop-found in
    let inside-is = c.found.view_is in record {
      end = after pattern from old.ended;
      ends = ends_here pattern from c.args.limit old.level old.ended old.rounds old.found old.invariant c.basis.ensures (c.is_done.ensures.0 c.loop-found-test.false);
      store = c.in_ok-store.ensures ∙ ap homes (ap (λ (left : Left). left.levels) inside-is ∙ old.invariant.levels);
      text = ap (λ (left : Left). left.lines) inside-is ∙ old.invariant.lines;
      count = sym old.invariant.logged;
    }

pub returns-clause-rounds : goal.returns-clause-rounds
returns-clause-rounds c = rounds_here c.args.walk.now.pattern c.args.walk.now.from c.args.limit c.loop-found.level c.loop-found.ended c.loop-found.rounds c.loop-found.found c.loop-found.invariant (c.is_done.ensures.0 c.loop-found-test.false)

pub returns-clause-start : goal.returns-clause-start
returns-clause-start c = (levels_fit c.args.walk.now.pattern c.count-count.ensures.together _ (length-replicate _ _), first_fit c.args.walk.now.pattern c.args.walk.now.from c.from-from.ensures.some)

pub returns-clause-fit : goal.returns-clause-fit
returns-clause-fit c =
    let levels-are = ap values_of c.in_ok-store.ensures ∙ c.value_laws.ensures.values.values_of_homes _ ∙ ap (λ (left : Left). left.levels) c.found.view_is in
    levels_fit c.args.walk.now.pattern c.count-count.ensures.together _ (ap length levels-are ∙ c.loop-found.invariant.count)
