use Rattle.std.proofs.Common.{ℕ, ◌≡◌, ◌+◌, sym, ap, subst, ◌∙◌, ⊎_elim, get_or, take, refl}
use Rattle.std.specs.Prelude.{◌↔◌, Contains, IsTrue}
use Rattle.std.proofs.lemmas.Bool.{false≢true}
use Rattle.std.proofs.lemmas.List.{take_all}
use Rattle.std.proofs.lemmas.List.Elements.{Contains-get_or}
use Rattle.rw_sets.specs.declared.access.Access.{Access}
use Rattle.rw_sets.specs.declared.access.Access.TheVariants.{Read}
use Rattle.rw_sets.specs.Accesses.{Accesses}
use Rattle.mark_board.specs.Markers.{IsFreeAt, MarkerState}
use Rattle.mark_board.proofs.Clear.{free_at_pair, free_by_pairs, in_bounds}
use Rattle.mark_board.proofs.Places.{by_next}
use Rattle.mark_board.proofs.board.Board.free.Goals as goal

pub is_free_at-requires-clause-in_range : goal.is_free_at-requires-clause-in_range
is_free_at-requires-clause-in_range c =
    in_bounds c.args.set.now c.items-pair-items.result.now c.loop-pair.pair-index (0, Read) c.args.self.now.cells c.items-pair-items.ensures.all c.loop-pair-test.true c.requires.in_range

pub returns-then-not-is_free_at-clause-answer : goal.returns-then-not-is_free_at-clause-answer
returns-then-not-is_free_at-clause-answer c =
    let items = c.items-pair-items.result.now in
    let i = c.loop-pair.pair-index in
    let pair : ℕ × Access = get_or items i (0, Read) in
    let there : Contains c.args.set.now pair = subst (λ (l : Accesses). Contains l pair) c.items-pair-items.ensures.all (Contains-get_or items i (0, Read) c.loop-pair-test.true) in
    let tells = subst (λ (m : MarkerState). IsTrue c.is_free_at.result ↔ IsFreeAt m.marks c.args.rank pair.0 pair.1) c.loop-pair.invariant.same c.is_free_at.ensures.answer in (
      (λ wrong. absurd (false≢true wrong)),
      (λ free. sym c.if-not-is_free_at.true ∙ tells.1
          (free_at_pair c.lookup_laws.ensures.find_pairs c.args.marker.now.marks c.args.rank c.args.set.now c.items-pair-items.ensures.ascending pair there free)),
    )

pub loop-pair-preserved : goal.loop-pair-preserved
loop-pair-preserved c =
    let i = c.loop-pair.pair-index in
    let items = c.items-pair-items.result.now in
    let all = c.items-pair-items.ensures.all in
    let pair : ℕ × Access = get_or items i (0, Read) in
    let tells = subst (λ (m : MarkerState). IsTrue c.is_free_at.result ↔ IsFreeAt m.marks c.args.rank pair.0 pair.1) c.loop-pair.invariant.same c.is_free_at.ensures.answer in
    record {
      so_far = λ p has. ⊎_elim
          (λ before. c.loop-pair.invariant.so_far p (subst (λ (l : Accesses). Contains (take i l) p) all before))
          (λ (last : pair ≡ p). subst (λ (q : ℕ × Access). IsFreeAt c.args.marker.now.marks c.args.rank q.0 q.1) last (tells.0 c.if-not-is_free_at.false))
          (by_next items i p (0, Read) c.loop-pair-test.true (subst (λ (l : Accesses). Contains (take (i + 1) l) p) (sym all) has));
      same = c.is_free_at.ensures.same ∙ c.loop-pair.invariant.same;
    }

pub returns-clause-answer : goal.returns-clause-answer
returns-clause-answer c =
    let items = c.items-pair-items.result.now in
    let all : take c.loop-pair.pair-index c.args.set.now ≡ c.args.set.now =
    ap (λ (l : Accesses). take c.loop-pair.pair-index l) (sym c.items-pair-items.ensures.all) ∙ take_all c.loop-pair.pair-index items c.loop-pair-test.false ∙ c.items-pair-items.ensures.all in (
      (λ _. free_by_pairs c.lookup_laws.ensures.find_pairs c.args.marker.now.marks c.args.rank c.args.set.now c.items-pair-items.ensures.ascending
          (λ p there. c.loop-pair.invariant.so_far p (subst (λ (l : Accesses). Contains l p) (sym all) there))),
      (λ _. refl),
    )
