-- When the least numbers of all rounds tell that nothing of a lower rank was marked in this one.
use Rattle.std.proofs.Common.{◌≡◌, ◌≢◌, ⊎_elim, ℕ, ◌+◌, ◌-◌, ◌<◌, ◌≤◌, nat_lt, List, [], ◌∷◌, Option, Some, None, IsSome, IsTrue, length, get_or, refl, sym, ap, ◌∙◌, subst, Bool, true, false, cond, arith}
use Rattle.std.specs.Prelude.{◌↔◌, Contains}
use Rattle.std.proofs.lemmas.Bool.{false≢true}
use Rattle.std.proofs.lemmas.Bool.Decides.{nat_tests}
use mathlib.Core.Logic.{dite}
use mathlib.Core.Option.{some}
use lib.ListN.{get_elem?}
use lib.Dec.{leb}
use native.Mathlib.Decide.{ℕ_discrete}
use Rattle.plain_laws.specs.Members.{cases, here, none, there}
use Rattle.plain_laws.specs.Places.{at_inside}
use Rattle.rw_sets.specs.declared.access.Access.{Access}
use Rattle.rw_sets.specs.declared.access.Access.TheVariants.{Read, Write}
use Rattle.rw_sets.specs.Accesses.{Accesses, IsAscending, IsInRange, access_at, clash, excludes}
use Rattle.rw_sets.specs.Laws.{LookupsFindPairs}
use Rattle.rw_sets.specs.AccessLaws.{has_in_place}
use Rattle.mark_board.specs.declared.view.Mark.{Mark}
use Rattle.mark_board.specs.Markers.{IsClear, IsFree, IsFreeAt}
use Rattle.mark_board.specs.Words.{AreOfLastRounds, HaveLeast, base_of, least_at, mark_at, no_rank, of_round, ranks, word_of}
use Rattle.mark_board.proofs.LeastMarks.{least_append, least_elsewhere, least_head}
use Rattle.mark_board.proofs.Places.{index_at}
use Rattle.mark_board.proofs.Rounds.{mark_of_word, word_above}

-- ---- words

module _ (renewals rank word : ℕ) where
  abbrev shown : Mark → Mark
  shown mark = record mark { rank = mark.rank - base_of renewals }

  later : (mark : Mark) (marks : List Mark) → base_of renewals + rank ≤ least_at word (mark ∷ marks) → base_of renewals + rank ≤ least_at word marks
  later mark marks low = let parts = least_append word (mark ∷ []) marks in omega (arith, low, parts)

  bounds : (marks : List Mark) → base_of renewals + rank ≤ least_at word marks → (mark : Mark) → Contains (of_round renewals marks) mark → word_of mark.loc mark.access ≡ word → rank ≤ mark.rank
  bounds [] low mark has here = absurd (none mark has)
  bounds (first ∷ marks) low mark has here = by_test (nat_lt first.rank (base_of renewals + ranks)) has (λ rest. bounds marks (later first marks low) mark rest here)
    where
      by_test : (test : Bool) → Contains (cond test (shown first ∷ of_round renewals marks) (of_round renewals marks)) mark → (Contains (of_round renewals marks) mark → rank ≤ mark.rank) → rank ≤ mark.rank
      by_test true there again = ⊎_elim
          (λ (same : shown first ≡ mark).
          let at_word : word_of first.loc first.access ≡ word = ap (λ (m : Mark). word_of m.loc m.access) same ∙ here in
          let parts = least_append word (first ∷ []) marks in
          let head = least_head word first at_word in
          let its_rank : first.rank - base_of renewals ≡ mark.rank = ap (λ (m : Mark). m.rank) same in
          omega (arith, low, parts, head, its_rank))
          again
          (cases (shown first) mark (of_round renewals marks) there)
      by_test false there again = again there

  in_rest : (first mark : Mark) (marks : List Mark) → Contains (of_round renewals marks) mark → Contains (of_round renewals (first ∷ marks)) mark
  in_rest first mark marks has = elim (nat_lt first.rank (base_of renewals + ranks)) as (λ b. Contains (cond b (shown first ∷ of_round renewals marks) (of_round renewals marks)) mark) [
    | true ↦ there (shown first) mark (of_round renewals marks) has
    | false ↦ has
  ]

  bounded : rank ≤ ranks → base_of renewals + rank ≤ no_rank → (marks : List Mark) → AreOfLastRounds renewals marks
      → ((mark : Mark) → Contains (of_round renewals marks) mark → word_of mark.loc mark.access ≡ word → rank ≤ mark.rank) → base_of renewals + rank ≤ least_at word marks
  bounded few room [] last none = room
  bounded few room (first ∷ marks) last none =
      let rest = bounded few room marks (λ mark has. last mark (there first mark marks has)) (λ mark has. none mark (in_rest first mark marks has)) in
      let parts = least_append word (first ∷ []) marks in
      let head = dite (ℕ_discrete (word_of first.loc first.access) word) here (λ apart. let none_here = least_elsewhere word first apart in omega (arith, none_here, room)) in
      omega (arith, rest, parts, head)
    where
      from : base_of renewals ≤ first.rank
      from = last first (here first marks)

      its_rank : word_of first.loc first.access ≡ word → (test : Bool) → nat_lt first.rank (base_of renewals + ranks) ≡ test
          → (Contains (cond test (shown first ∷ of_round renewals marks) (of_round renewals marks)) (shown first) → rank ≤ first.rank - base_of renewals) → base_of renewals + rank ≤ first.rank
      its_rank at_word true is low = let least = low (here (shown first) (of_round renewals marks)) in omega (arith, least, from)
      its_rank at_word false is low = let above : base_of renewals + ranks ≤ first.rank = grind (arith, nat_tests, is) in omega (arith, above, few)

      here : word_of first.loc first.access ≡ word → base_of renewals + rank ≤ least_at word (first ∷ [])
      here at_word =
          let low = its_rank at_word (nat_lt first.rank (base_of renewals + ranks)) refl (λ has. none (shown first) has at_word) in
          let head = least_head word first at_word in
          omega (arith, low, head, room)

-- the word tells the location and the access
same_word : (mark : Mark) (loc : ℕ) (access : Access) → word_of mark.loc mark.access ≡ word_of loc access → (mark.loc ≡ loc) × (mark.access ≡ access)
same_word mark loc access same =
    let one : record { loc = mark.loc; access = mark.access; rank = 0 } ≡ record { loc = loc; access = access; rank = 0 } =
    sym (mark_of_word mark.loc mark.access 0) ∙ ap (λ word. mark_at word 0) same ∙ mark_of_word loc access 0 in
    (ap (λ (m : Mark). m.loc) one, ap (λ (m : Mark). m.access) one)

there_word : (mark : Mark) (loc : ℕ) (access : Access) → mark.loc ≡ loc → mark.access ≡ access → word_of mark.loc mark.access ≡ word_of loc access
there_word mark loc access here is = ap (λ n. word_of n mark.access) here ∙ ap (λ a. word_of loc a) is

-- a least number that isn't lower than a rank tells that none of a lower rank was marked there
pub least_tells : (renewals rank loc : ℕ) (access : Access) (marks : List Mark) → rank < ranks → renewals + 2 ≤ ranks → AreOfLastRounds renewals marks
    → (number found : ℕ) → number ≡ base_of renewals + rank → found ≡ least_at (word_of loc access) marks → IsTrue (leb number found) ↔ IsClear (of_round renewals marks) rank loc access
least_tells renewals rank loc access marks few fit last number found number_is least_is = (
  (λ test mark has here acts.
      let low : number ≤ found = grind (arith, nat_tests, test) in
      bounds renewals rank (word_of loc access) marks (omega (arith, low, number_is, least_is)) mark has (there_word mark loc access here acts)),
  (λ clear.
      let low = bounded renewals rank (word_of loc access) (omega (arith, few)) (omega (arith, few, fit)) marks last
      (λ mark has same. let parts = same_word mark loc access same in clear mark has parts.0 parts.1) in
      let tested : number ≤ found = omega (arith, low, number_is, least_is) in
      grind (arith, nat_tests, tested)),
)

-- the same by the test of a word that was read
pub clear_by_test : (renewals rank loc : ℕ) (access : Access) (words : List ℕ) (marks : List Mark) → rank < ranks → renewals + 2 ≤ ranks → HaveLeast words renewals marks
    → (word number found : ℕ) → word ≡ word_of loc access → number ≡ base_of renewals + rank → get_elem? words word ≡ some found → IsTrue (leb number found) ↔ IsClear marks rank loc access
clear_by_test renewals rank loc access words marks few fit have word number found word_is number_is read =
    let at : get_elem? words (word_of loc access) ≡ some found = subst (λ n. get_elem? words n ≡ some found) word_is read in
    let least_is = sym (index_at words (word_of loc access) found 0 at) ∙ have.least (word_of loc access) (word_above loc access) (at_inside words (word_of loc access) found at) in
    subst (λ (shown_marks : List Mark). IsTrue (leb number found) ↔ IsClear shown_marks rank loc access) have.shown_is
    (least_tells renewals rank loc access have.marks few fit have.last number found number_is least_is)

-- ---- locations

-- at a location: no mark that writes bars, and none at all where the access writes
pub free_at : (marks : List Mark) (rank loc : ℕ) (access : Access) → IsClear marks rank loc Write → (access ≡ Write → IsClear marks rank loc Read) → IsFreeAt marks rank loc access
free_at marks rank loc access writers readers mark has bars = by_access mark.access refl access refl bars.excluded
  where
    by_access : (its : Access) → mark.access ≡ its → (ours : Access) → access ≡ ours → IsTrue (excludes its ours) → ⊥
    by_access Write is ours own excluded = let low = writers mark has bars.here is in let lower = bars.lower in omega (arith, low, lower)
    by_access Read is Write own excluded = let low = readers own mark has bars.here is in let lower = bars.lower in omega (arith, low, lower)
    by_access Read is Read own excluded = false≢true excluded

not_below : (rank low : ℕ) → (low < rank → ⊥) → rank ≤ low
not_below rank low never = dite (native.Mathlib.Decide.dec_le rank low) (λ h. h) (λ h. absurd (never (omega (arith, h))))

pub writers_clear : (marks : List Mark) (rank loc : ℕ) (access : Access) → IsFreeAt marks rank loc access → IsClear marks rank loc Write
writers_clear marks rank loc access free mark has here acts = not_below rank mark.rank
    (λ lower. free mark has (record { lower = lower; here = here; excluded = subst (λ a. IsTrue (excludes a access)) (sym acts) refl }))

pub readers_clear : (marks : List Mark) (rank loc : ℕ) (access : Access) → IsFreeAt marks rank loc access → access ≡ Write → IsClear marks rank loc Read
readers_clear marks rank loc access free writes mark has here acts = not_below rank mark.rank
    (λ lower. free mark has (record { lower = lower; here = here; excluded = subst (λ a. IsTrue (excludes mark.access a)) (sym writes) (subst (λ a. IsTrue (excludes a Write)) (sym acts) refl) }))

-- ---- sets

module _ (find : LookupsFindPairs) (marks : List Mark) (rank : ℕ) (set : Accesses) (ascending : IsAscending set) where
  -- free at every pair is free
  pub free_by_pairs : ((p : ℕ × Access) → Contains set p → IsFreeAt marks rank p.0 p.1) → IsFree marks rank set
  free_by_pairs all mark has bars = by_access (access_at set mark.loc) refl bars.clashes
    where
      by_access : (found : Option Access) → access_at set mark.loc ≡ found → IsTrue (clash (Some mark.access) found) → ⊥
      by_access None is clashes = false≢true clashes
      by_access (Some access) is clashes =
          all (mark.loc, access) ((find set mark.loc access ascending).0 is) mark has (record { lower = bars.lower; here = refl; excluded = clashes })

  pub free_at_pair : (p : ℕ × Access) → Contains set p → IsFree marks rank set → IsFreeAt marks rank p.0 p.1
  free_at_pair p there free mark has bars =
      let found : access_at set mark.loc ≡ Some p.1 = ap (access_at set) bars.here ∙ (find set p.0 p.1 ascending).1 there in
      free mark has (record { lower = bars.lower; clashes = subst (λ (access : Option Access). IsTrue (clash (Some mark.access) access)) (sym found) bars.excluded })

-- a pair's location lies where the set does
pub in_bounds : (set items : Accesses) (i : ℕ) (d : ℕ × Access) (bound : ℕ) → items ≡ set → i < length items → IsInRange set bound → (get_or items i d).0 < bound
in_bounds set items i d bound same inside range =
    range (get_or items i d).0 (subst (λ (l : Accesses). IsSome (access_at l (get_or items i d).0)) same (has_in_place items i d inside))

pub read_or_write : Read ≢ Write
read_or_write same = cc
