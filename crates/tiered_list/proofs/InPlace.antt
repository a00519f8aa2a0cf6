-- The first items of an array, with one put among them or taken out.
use Rattle.std.proofs.Common.{◌≡◌, ℕ, ◌+◌, ◌-◌, ◌<◌, ◌≤◌, List, length, get_or, set, take, arith}
use Rattle.std.specs.List.{insert, remove}
use Rattle.std.proofs.lemmas.Bool.{cases_order, cases_lt}
use Rattle.std.proofs.lemmas.List.{get_or-set_other, get_or-set_same, get_or-take, length-set, length-take-le, same_lists}
use Rattle.std.proofs.lemmas.List.Edits.{get_or-insert_above, get_or-insert_at, get_or-insert_below, get_or-remove_above, get_or-remove_below, length-insert, length-remove}

module _ {X : Type 0} where
  -- an item is written to its place once those from there on have moved up
  pub put_among_first : (before now : List X) (n i : ℕ) (x : X) → i ≤ n → n < length before → length now ≡ length before → ((k : ℕ) (d : X) → k ≤ i → get_or now k d ≡ get_or before k d) → ((k : ℕ) (d : X) → i ≤ k → k < n → get_or now (k + 1) d ≡ get_or before k d) → take (n + 1) (set now i x) ≡ insert (take n before) i x
  put_among_first before now n i x le lt size same moved =
      let first : length (take n before) ≡ n = length-take-le n before (omega arith) in
      let put : length (take (n + 1) (set now i x)) ≡ n + 1 = length-take-le (n + 1) (set now i x) (omega (arith, length-set now i x)) in
      let long : length (insert (take n before) i x) ≡ n + 1 = omega (arith, length-insert (take n before) i x (omega arith)) in
      same_lists _ _ (omega arith) (λ k d inside.
      grind (arith, cases_order k i, same k d, moved (k - 1) d, get_or-take (n + 1) (set now i x) k d, get_or-set_other now i k x d, get_or-set_same now i x d, get_or-take n before k d, get_or-take n before (k - 1) d, get_or-insert_below (take n before) i x d k, get_or-insert_at (take n before) i x d, get_or-insert_above (take n before) i x d (k - 1)))

  -- those behind a place move down, and the item there is gone
  pub take_from_first : (before now : List X) (n i : ℕ) → i < n → n ≤ length before → length now ≡ length before → ((k : ℕ) (d : X) → k < i → get_or now k d ≡ get_or before k d) → ((k : ℕ) (d : X) → i ≤ k → k < n - 1 → get_or now k d ≡ get_or before (k + 1) d) → take (n - 1) now ≡ remove (take n before) i
  take_from_first before now n i lt le size same moved =
      let first : length (take n before) ≡ n = length-take-le n before le in
      let left : length (take (n - 1) now) ≡ n - 1 = length-take-le (n - 1) now (omega arith) in
      let short : length (remove (take n before) i) ≡ n - 1 = omega (arith, length-remove (take n before) i (omega arith)) in
      same_lists _ _ (omega arith) (λ k d inside.
      grind (arith, cases_lt k i, same k d, moved k d, get_or-take (n - 1) now k d, get_or-take n before k d, get_or-take n before (k + 1) d, get_or-remove_below (take n before) i d k, get_or-remove_above (take n before) i d k))
