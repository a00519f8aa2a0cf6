-- The first places of an array, with a pair written or inserted.
use Rattle.std.proofs.Common.{◌≡◌, ℕ, zero, suc, ◌+◌, ◌-◌, ◌<◌, ◌≤◌, List, [], ◌∷◌, length, get_or, set, take, refl, sym, ap, ◌∙◌, arith}
use Rattle.std.specs.List.{insert}
use Rattle.std.proofs.lemmas.List.{get_or_default, length-take-le, take_more_set, get_or-set_other, get_or-take, length-set}
use Rattle.std.proofs.lemmas.List.Edits.{insert_end}

module _ {X : Type 0} where
  pub take_set : (n i : ℕ) (xs : List X) (x : X) → i < n → take n (set xs i x) ≡ set (take n xs) i x
  take_set zero i xs x lt = absurd (omega arith)
  take_set (suc n) i [] x lt = refl
  take_set (suc n) zero (y ∷ xs) x lt = refl
  take_set (suc n) (suc i) (y ∷ xs) x lt = ap (λ rest. y ∷ rest) (take_set n i xs x (omega arith))

  -- an insertion one place before, where the item that stands there moves up
  insert_before : (xs : List X) (i : ℕ) (y x : X) → i < length xs → y ≡ get_or xs i y → set (insert xs (suc i) y) i x ≡ insert xs i x
  insert_before [] i y x lt e = absurd (omega arith)
  insert_before (z ∷ xs) zero y x lt e = ap (λ w. x ∷ w ∷ xs) e
  insert_before (z ∷ xs) (suc i) y x lt e = ap (λ rest. z ∷ rest) (insert_before xs i y x (omega arith) e)

  -- the places of a list of n items, and one more, where the items from place i on have moved up
  pub record HasMoved (before now : List X) (n i : ℕ) : Type 0 where
    pub in_range : i ≤ n
    pub as_many : length now ≡ length before
    pub inserts : (x : X) → take (n + 1) (set now i x) ≡ insert (take n before) i x

  pub moved_none : (xs : List X) (n : ℕ) → n < length xs → HasMoved xs xs n n
  moved_none xs n lt = record {
    in_range = omega arith;
    as_many = refl;
    inserts = λ x.
        let full : length (take n xs) ≡ n = length-take-le n xs (omega arith) in
        take_more_set xs n x lt ∙ sym (ap (λ k. insert (take n xs) k x) (sym full) ∙ insert_end (take n xs) x);
  }

  moved_more : (before now : List X) (n i : ℕ) (y : X) → n < length before → i < n → HasMoved before now n (suc i) → y ≡ get_or now i y → HasMoved before (set now (suc i) y) n i
  moved_more before now n i y room lt h read = record {
    in_range = omega arith;
    as_many = length-set now (suc i) y ∙ h.as_many;
    inserts = λ x.
        take_set (n + 1) i (set now (suc i) y) x (omega arith) ∙ ap (λ l. set l i x) (h.inserts y) ∙ insert_before (take n before) i y x (omega (arith, length-take-le n before (omega arith))) was;
  }
    where
      before-it : (xs : List X) (k : ℕ) → k < length xs → get_or (insert xs (suc k) y) k y ≡ get_or xs k y
      before-it [] k lt = absurd (omega arith)
      before-it (x ∷ xs) zero lt = refl
      before-it (x ∷ xs) (suc k) lt = before-it xs k (omega arith)

      was : y ≡ get_or (take n before) i y
      was = read ∙ sym (get_or-set_other now (suc i) i y y (λ e. omega arith)) ∙ sym (get_or-take (n + 1) (set now (suc i) y) i y (omega arith)) ∙ ap (λ l. get_or l i y) (h.inserts y) ∙ before-it (take n before) i (omega (arith, length-take-le n before (omega arith)))

  -- the item before place j moves up
  pub moved_up : (before now : List X) (n j : ℕ) (d : X) → n < length before → 0 < j → HasMoved before now n j → HasMoved before (set now j (get_or now (j - 1) d)) n (j - 1)
  moved_up before now n zero d room some h = absurd (omega arith)
  moved_up before now n (suc i) d room some h =
      let e : suc i - 1 ≡ i = omega arith in
      rw e (moved_more before now n i (get_or now i d) room (omega (arith, h.in_range)) h (get_or_default now i d (get_or now i d) (omega (arith, h.in_range, h.as_many))))

  pub moved_all : (before now : List X) (n m i j : ℕ) (x : X) → i ≡ j → m ≡ n → HasMoved before now n i → take (m + 1) (set now j x) ≡ insert (take n before) j x
  moved_all before now n m i j x e f h = rw (f, ← e) (h.inserts x)
