-- What is joined so far of a list of pairs where those of one location are neighbours.
use Rattle.std.proofs.Common.{◌≡◌, ℕ, zero, suc, ◌+◌, ◌-◌, ◌<◌, ◌≤◌, [], ◌∷◌, ◌++◌, length, get_or, set, take, drop, refl, sym, ap, ◌∙◌, arith}
use Rattle.std.specs.List.{insert}
use Rattle.std.specs.List.Sorted.{IsNonDecreasingBy}
use Rattle.std.proofs.lemmas.List.{get_or_default, get_or-take, get_or-drop, get_or-set_same, length-set, length-take-le, take_more, take_more_set, take_all, drop-set-lt, drop-drop}
use Rattle.std.proofs.lemmas.List.Edits.{insert_end}
use Rattle.rw_sets.specs.declared.access.Access.{Access}
use Rattle.rw_sets.specs.declared.access.Access.TheVariants.{Read}
use Rattle.rw_sets.specs.Accesses.{Accesses, IsAscending, stronger, put_access, merged}
use Rattle.rw_sets.specs.Places.{location_at, IsAt, IsGapFor}
use Rattle.rw_sets.specs.AccessLaws.{ascending_none}
use Rattle.rw_sets.specs.MergeLaws.{ascending_merged}
use Rattle.rw_sets.proofs.Places.{access_in, gap_at_end, put_at_place, put_in_gap}
use Rattle.rw_sets.specs.PairLaws.{pairs_by_parts}

-- the first i pairs of a list are joined in its first places
pub record IsJoined (pairs now : Accesses) (kept i : ℕ) : Type 0 where
  pub few : kept ≤ i
  pub as_many : length now ≡ length pairs
  pub front : take kept now ≡ merged [] (take i pairs)
  pub rest : drop i now ≡ drop i pairs
  pub last : 0 < i → (0 < kept) × (location_at now (kept - 1) ≡ location_at pairs (i - 1))

pub joined_none : (pairs : Accesses) → IsJoined pairs pairs 0 0
joined_none pairs = record { few = omega arith; as_many = refl; front = refl; rest = refl; last = λ some. absurd (omega arith) }

pub joined_all : (pairs now : Accesses) (kept i : ℕ) → i ≡ length pairs → IsJoined pairs now kept i → take kept now ≡ merged [] pairs
joined_all pairs now kept i e h = h.front ∙ ap (merged []) (take_all i pairs (omega arith))

take_set : (n i : ℕ) (l : Accesses) (p : ℕ × Access) → i < n → take n (set l i p) ≡ set (take n l) i p
take_set zero i l p lt = absurd (omega arith)
take_set (suc n) i [] p lt = refl
take_set (suc n) zero (q ∷ l) p lt = refl
take_set (suc n) (suc i) (q ∷ l) p lt = ap (λ rest. q ∷ rest) (take_set n i l p (omega arith))

module _ (pairs now : Accesses) (kept i : ℕ) (h : IsJoined pairs now kept i) (lt : i < length pairs) where
  abbrev pub next : ℕ × Access
  next = get_or now i (0, Read)

  pub next_is : next ≡ get_or pairs i (0, Read)
  next_is = sym (at-start now) ∙ ap (λ l. get_or l 0 (0, Read)) h.rest ∙ at-start pairs
    where
      at-start : (l : Accesses) → get_or (drop i l) 0 (0, Read) ≡ get_or l i (0, Read)
      at-start l = let same : i + 0 ≡ i = omega arith in get_or-drop i l 0 (0, Read) ∙ ap (λ k. get_or l k (0, Read)) same

  one_more : merged [] (take (i + 1) pairs) ≡ put_access (take kept now) next
  one_more = ap (merged []) (take_more pairs i (0, Read) lt) ∙ pairs_by_parts [] (take i pairs) (get_or pairs i (0, Read) ∷ []) ∙ ap (put_access (merged [] (take i pairs))) (sym next_is) ∙ ap (λ l. put_access l next) (sym h.front)

  ascends : IsAscending (take kept now)
  ascends = rw h.front (ascending_merged [] (take i pairs) ascending_none)

  length_front : length (take kept now) ≡ kept
  length_front = length-take-le kept now (omega (arith, h.few, h.as_many))

  rest_after : (k : ℕ) (p : ℕ × Access) → k ≤ i → drop (i + 1) (set now k p) ≡ drop (i + 1) pairs
  rest_after k p le = drop-set-lt (i + 1) now k p (omega arith) ∙ sym (drop-drop 1 i now) ∙ ap (drop 1) h.rest ∙ drop-drop 1 i pairs

  -- a pair of the location that was last
  pub joined_same : 0 < kept → location_at now (kept - 1) ≡ next.0 → IsJoined pairs (set now (kept - 1) (next.0, stronger (access_in now (kept - 1)) next.1)) kept (i + 1)
  joined_same some same = record {
    few = omega (arith, h.few);
    as_many = length-set now (kept - 1) new ∙ h.as_many;
    front = take_set kept (kept - 1) now new (omega arith) ∙ ap (λ x. set (take kept now) (kept - 1) (next.0, stronger x next.1)) (sym same-access) ∙ sym (one_more ∙ put_at_place (take kept now) next (kept - 1) ascends at);
    rest = rest_after (kept - 1) new (omega (arith, h.few));
    last = λ _. (some, ap (λ (p : ℕ × Access). p.0) (get_or-set_same now (kept - 1) new (0, Read) (omega (arith, h.few, h.as_many))) ∙ ap (λ (p : ℕ × Access). p.0) next_is ∙ last-is);
  }
    where
      new : ℕ × Access
      new = (next.0, stronger (access_in now (kept - 1)) next.1)

      before : get_or (take kept now) (kept - 1) (0, Read) ≡ get_or now (kept - 1) (0, Read)
      before = get_or-take kept now (kept - 1) (0, Read) (omega arith)

      same-access : access_in (take kept now) (kept - 1) ≡ access_in now (kept - 1)
      same-access = ap (λ (p : ℕ × Access). p.1) before

      at : IsAt (take kept now) next.0 (kept - 1)
      at = record { in_range = omega (arith, length_front); here = ap (λ (p : ℕ × Access). p.0) before ∙ same }

      last-is : location_at pairs i ≡ location_at pairs (i + 1 - 1)
      last-is = let e : i ≡ i + 1 - 1 = omega arith in ap (location_at pairs) e

  -- a pair of a later location
  pub joined_new : IsNonDecreasingBy (λ pair. pair.0) pairs → (0 < kept → location_at now (kept - 1) ≡ next.0 → ⊥) → IsJoined pairs (set now kept next) (kept + 1) (i + 1)
  joined_new sorted differs = record {
    few = omega (arith, h.few);
    as_many = length-set now kept next ∙ h.as_many;
    front = take_more_set now kept next (omega (arith, h.few, h.as_many)) ∙ sym (one_more ∙ put_in_gap (take kept now) next kept gap ∙ at-end);
    rest = rest_after kept next h.few;
    last = λ _. (omega arith, last-is);
  }
    where
      later : 0 < kept → location_at (take kept now) (kept - 1) < next.0
      later some =
          let before = ap (λ (p : ℕ × Access). p.0) (get_or-take kept now (kept - 1) (0, Read) (omega arith)) in
          let previous = (h.last (omega (arith, h.few))).1 in
          let rise = sorted (i - 1) i (0, Read) (omega arith) lt in
          let here = ap (λ (p : ℕ × Access). p.0) next_is in
          let apart = differs some in
          omega arith

      at-end : insert (take kept now) kept next ≡ take kept now ++ next ∷ []
      at-end = ap (λ n. insert (take kept now) n next) (sym length_front) ∙ insert_end (take kept now) next

      gap : IsGapFor (take kept now) next.0 kept
      gap = gap_at_end (take kept now) next.0 kept ascends (sym length_front) later

      last-is : location_at (set now kept next) (kept + 1 - 1) ≡ location_at pairs (i + 1 - 1)
      last-is =
          let e : kept + 1 - 1 ≡ kept = omega arith in
          let f : i + 1 - 1 ≡ i = omega arith in
          rw (e, f) (ap (λ (p : ℕ × Access). p.0) (get_or-set_same now kept next (0, Read) (omega (arith, h.few, h.as_many))) ∙ ap (λ (p : ℕ × Access). p.0) next_is)

  -- the same of pairs as an index reads them
  pub joined_same_read : (p q r : ℕ × Access) (x : Access) → p ≡ get_or now i p → q ≡ get_or now (kept - 1) q → r ≡ get_or now (kept - 1) r → 0 < kept → q.0 ≡ p.0 → x ≡ stronger r.1 p.1 → IsJoined pairs (set now (kept - 1) (p.0, x)) kept (i + 1)
  joined_same_read p q r x read-p read-q read-r some same e =
      let p-is : p ≡ next = read-p ∙ get_or_default now i p (0, Read) (omega (arith, h.as_many)) in
      let q-is : q ≡ get_or now (kept - 1) (0, Read) = read-q ∙ get_or_default now (kept - 1) q (0, Read) (omega (arith, h.few, h.as_many)) in
      let r-is : r ≡ get_or now (kept - 1) (0, Read) = read-r ∙ get_or_default now (kept - 1) r (0, Read) (omega (arith, h.few, h.as_many)) in
      let here : location_at now (kept - 1) ≡ next.0 = ap (λ (r : ℕ × Access). r.0) (sym q-is) ∙ same ∙ ap (λ (r : ℕ × Access). r.0) p-is in
      rw (e, r-is, p-is) (joined_same some here)

  pub joined_new_read : (p : ℕ × Access) → p ≡ get_or now i p → IsNonDecreasingBy (λ pair. pair.0) pairs → (0 < kept → (q : ℕ × Access) × (q ≡ get_or now (kept - 1) q) × (q.0 ≡ p.0 → ⊥)) → IsJoined pairs (set now kept p) (kept + 1) (i + 1)
  joined_new_read p read sorted differs =
      let p-is : p ≡ next = read ∙ get_or_default now i p (0, Read) (omega (arith, h.as_many)) in
      rw p-is (joined_new sorted (λ some same. later p-is (differs some) same some))
    where
      later : p ≡ next → (q : ℕ × Access) × (q ≡ get_or now (kept - 1) q) × (q.0 ≡ p.0 → ⊥) → location_at now (kept - 1) ≡ next.0 → 0 < kept → ⊥
      later p-is (q, read-q, apart) same some =
          let q-is = read-q ∙ get_or_default now (kept - 1) q (0, Read) (omega (arith, h.few, h.as_many)) in
          apart (ap (λ (r : ℕ × Access). r.0) q-is ∙ same ∙ ap (λ (r : ℕ × Access). r.0) (sym p-is))
