-- Where each set of a list was marked with its rank, free is what no set of a lower rank conflicts with.
use Rattle.std.proofs.Common.{◌≡◌, ⊎_elim, ℕ, zero, suc, ◌+◌, ◌≤◌, List, [], ◌∷◌, take, Option, Some, None, IsTrue, refl, sym, ap, subst, arith}
use Rattle.std.specs.Prelude.{Contains}
use Rattle.std.specs.List.{AllByRecursion}
use Rattle.std.proofs.lemmas.Bool.{false≢true}
use Rattle.std.proofs.lemmas.List.Elements.{Contains-append_cases, Contains-append_left, Contains-append_right}
use Rattle.plain_laws.specs.Members.{cases, here, none, there}
use Rattle.rw_sets.specs.declared.access.Access.{Access}
use Rattle.rw_sets.specs.Accesses.{Accesses, Conflicts, IsAscending, access_at, clash}
use Rattle.rw_sets.specs.Laws.{LookupsFindPairs}
use Rattle.mark_board.specs.declared.view.Mark.{Mark}
use Rattle.mark_board.specs.Markers.{Bars, marks_of}
use Rattle.mark_board.specs.Ranks.{FreeRanksAreUnbarred, marks_from}

-- the marks of a set are those of its pairs
of_pair : (rank : ℕ) (set : Accesses) (p : ℕ × Access) → Contains set p → Contains (marks_of rank set) (record { loc = p.0; access = p.1; rank = rank })
of_pair rank [] p has = absurd (none p has)
of_pair rank (q ∷ set) p has = ⊎_elim
    (λ (same : q ≡ p). subst (λ (r : ℕ × Access). Contains (marks_of rank (q ∷ set)) (record { loc = r.0; access = r.1; rank = rank })) same
    (here (record { loc = q.0; access = q.1; rank = rank }) (marks_of rank set)))
    (λ later. there (record { loc = q.0; access = q.1; rank = rank }) (record { loc = p.0; access = p.1; rank = rank }) (marks_of rank set) (of_pair rank set p later))
    (cases q p set has)

to_pair : (rank : ℕ) (set : Accesses) (mark : Mark) → Contains (marks_of rank set) mark → Contains set (mark.loc, mark.access) × (mark.rank ≡ rank)
to_pair rank [] mark has = absurd (none mark has)
to_pair rank (q ∷ set) mark has = ⊎_elim
    (λ (same : record { loc = q.0; access = q.1; rank = rank } ≡ mark). (
      subst (λ (m : Mark). Contains (q ∷ set) (m.loc, m.access)) same (here q set),
      sym (ap (λ (m : Mark). m.rank) same),
    ))
    (λ later. let rest = to_pair rank set mark later in (there q (mark.loc, mark.access) set rest.0, rest.1))
    (cases (record { loc = q.0; access = q.1; rank = rank }) mark (marks_of rank set) has)

-- none has a lower rank than the first set
from_rank : (base : ℕ) (sets : List Accesses) (mark : Mark) → Contains (marks_from base sets) mark → base ≤ mark.rank
from_rank base [] mark has = absurd (none mark has)
from_rank base (s ∷ sets) mark has = ⊎_elim
    (λ first. let is = (to_pair base s mark first).1 in omega (arith, is))
    (λ later. let rest = from_rank (suc base) sets mark later in omega (arith, rest))
    (Contains-append_cases (marks_of base s) (marks_from (suc base) sets) mark has)

module _ (find : LookupsFindPairs) (set : Accesses) where
  unbarred : (count base : ℕ) (sets : List Accesses) → AllByRecursion IsAscending sets → ((mark : Mark) → Contains (marks_from base sets) mark → Bars mark (base + count) set → ⊥)
      → AllByRecursion (λ earlier. ¬ Conflicts earlier set) (take count sets)
  unbarred zero base sets ascending free = tt
  unbarred (suc count) base [] ascending free = tt
  unbarred (suc count) base (s ∷ sets) ascending free = (
    (λ conflict. barred conflict.0 (access_at s conflict.0) refl conflict.1),
    unbarred count (suc base) sets ascending.1 (λ mark has bars. free mark (Contains-append_right (marks_of base s) (marks_from (suc base) sets) mark has)
        (record { lower = let low = bars.lower in omega (arith, low); clashes = bars.clashes })),
  )
    where
      barred : (loc : ℕ) (found : Option Access) → access_at s loc ≡ found → IsTrue (clash found (access_at set loc)) → ⊥
      barred loc None is clashes = false≢true clashes
      barred loc (Some access) is clashes =
          free (record { loc = loc; access = access; rank = base })
          (Contains-append_left (marks_of base s) (marks_from (suc base) sets) (record { loc = loc; access = access; rank = base }) (of_pair base s (loc, access) ((find s loc access ascending.0).0 is)))
          (record { lower = omega arith; clashes = clashes })

  free : (count base : ℕ) (sets : List Accesses) → AllByRecursion IsAscending sets → AllByRecursion (λ earlier. ¬ Conflicts earlier set) (take count sets)
      → (mark : Mark) → Contains (marks_from base sets) mark → Bars mark (base + count) set → ⊥
  free count base [] ascending apart mark has bars = none mark has
  free zero base (s ∷ sets) ascending apart mark has bars = let from = from_rank base (s ∷ sets) mark has in let low = bars.lower in omega (arith, from, low)
  free (suc count) base (s ∷ sets) ascending apart mark has bars = ⊎_elim
      (λ first.
      let found : access_at s mark.loc ≡ Some mark.access = (find s mark.loc mark.access ascending.0).1 (to_pair base s mark first).0 in
      apart.0 (mark.loc, subst (λ (access : Option Access). IsTrue (clash access (access_at set mark.loc))) (sym found) bars.clashes))
      (λ later. free count (suc base) sets ascending.1 apart.1 mark later (record { lower = let low = bars.lower in omega (arith, low); clashes = bars.clashes }))
      (Contains-append_cases (marks_of base s) (marks_from (suc base) sets) mark has)

pub free_ranks : LookupsFindPairs → FreeRanksAreUnbarred
free_ranks find sets marks rank set ascending are = (
  (λ is_free. unbarred find set rank 0 sets ascending (λ mark has bars. is_free mark ((are mark).1 has) (same_bound mark bars))),
  (λ none mark has bars. free find set rank 0 sets ascending none mark ((are mark).0 has) (from_bound mark bars)),
)
  where
    same_bound : (mark : Mark) → Bars mark (0 + rank) set → Bars mark rank set
    same_bound mark bars = record { lower = let low = bars.lower in omega (arith, low); clashes = bars.clashes }

    from_bound : (mark : Mark) → Bars mark rank set → Bars mark (0 + rank) set
    from_bound mark bars = record { lower = let low = bars.lower in omega (arith, low); clashes = bars.clashes }
