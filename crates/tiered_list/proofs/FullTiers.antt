-- The items of tiers that are all full, and what a step on one tier leaves.
use Rattle.std.proofs.Common.{◌≡◌, ℕ, zero, suc, ◌+◌, ◌-◌, ◌*◌, ◌<◌, ◌≤◌, List, [], ◌∷◌, ◌++◌, length, set, get_or, refl, sym, ◌∙◌, ap, arith, append_assoc, length-append}
use Rattle.std.proofs.lemmas.List.{length_push, set-get_or}
use Rattle.std.proofs.lemmas.List.Edits.{insert-append_left, insert-append_right, remove-append_left, remove-append_right}
use Rattle.std.specs.List.{AllByRecursion, insert, remove}
use Rattle.std.specs.Prelude.{slice_get}
use Rattle.tiered_list.specs.Tiers.{items_in, items_with, IsFull}

module _ {X : Type 0} where
  -- ---- one item more between tiers

  pub items_with-first : (tiers : List (List X)) (item : X) → items_with tiers 0 item ≡ item ∷ items_in tiers
  items_with-first [] item = refl
  items_with-first (tier ∷ tiers) item = refl

  pub items_with-last : (tiers : List (List X)) (item : X) → items_with tiers (length tiers) item ≡ items_in tiers ++ item ∷ []
  items_with-last [] item = refl
  items_with-last (tier ∷ tiers) item = ap (λ l. tier ++ l) (items_with-last tiers item) ∙ sym (append_assoc tier (items_in tiers) (item ∷ []))

  -- an item moves from before a tier to behind it, where the tier's items move a place on
  pub passed_forward : (tiers : List (List X)) (at : ℕ) (tier : List X) (item last : X) → at < length tiers → item ∷ get_or tiers at [] ≡ tier ++ last ∷ [] → items_with (set tiers at tier) (suc at) last ≡ items_with tiers at item
  passed_forward [] at tier item last inside moved = absurd (omega (arith, inside))
  passed_forward (old ∷ tiers) zero tier item last inside moved =
      ap (λ l. tier ++ l) (items_with-first tiers last) ∙ sym (append_assoc tier (last ∷ []) (items_in tiers)) ∙ ap (λ l. l ++ items_in tiers) (sym moved)
  passed_forward (old ∷ tiers) (suc at) tier item last inside moved = ap (λ l. old ++ l) (passed_forward tiers at tier item last (omega (arith, inside)) moved)

  -- an item moves from behind a tier to before it, where the tier's items move a place back
  pub passed_backward : (tiers : List (List X)) (at : ℕ) (tier : List X) (item first : X) → at < length tiers → get_or tiers at [] ++ item ∷ [] ≡ first ∷ tier → items_with (set tiers at tier) at first ≡ items_with tiers (suc at) item
  passed_backward [] at tier item first inside moved = absurd (omega (arith, inside))
  passed_backward (old ∷ tiers) zero tier item first inside moved =
      ap (λ l. l ++ items_in tiers) (sym moved) ∙ append_assoc old (item ∷ []) (items_in tiers) ∙ ap (λ l. old ++ l) (sym (items_with-first tiers item))
  passed_backward (old ∷ tiers) (suc at) tier item first inside moved = ap (λ l. old ++ l) (passed_backward tiers at tier item first (omega (arith, inside)) moved)

  -- ---- full tiers

  pub full_at : (tiers : List (List X)) (at : ℕ) → AllByRecursion IsFull tiers → at < length tiers → length (get_or tiers at []) ≡ 128
  full_at [] at full inside = absurd (omega (arith, inside))
  full_at (tier ∷ tiers) zero full inside = full.0
  full_at (tier ∷ tiers) (suc at) full inside = full_at tiers at full.1 (omega (arith, inside))

  pub full-set : (tiers : List (List X)) (at : ℕ) (tier : List X) → AllByRecursion IsFull tiers → length tier ≡ 128 → AllByRecursion IsFull (set tiers at tier)
  full-set [] at tier full one = full
  full-set (old ∷ tiers) zero tier full one = (one, full.1)
  full-set (old ∷ tiers) (suc at) tier full one = (full.0, full-set tiers at tier full.1 one)

  pub length-items_in : (tiers : List (List X)) → AllByRecursion IsFull tiers → length (items_in tiers) ≡ 128 * length tiers
  length-items_in [] full = refl
  length-items_in (tier ∷ tiers) full = omega (arith, length-append tier (items_in tiers), length-items_in tiers full.1, full.0)

  -- what moves through a tier leaves it as long
  pub as_long_forward : (old tier : List X) (item last : X) → item ∷ old ≡ tier ++ last ∷ [] → length tier ≡ length old
  as_long_forward old tier item last moved = omega (arith, ap length moved, length_push tier last)

  pub as_long_backward : (old tier : List X) (item first : X) → old ++ item ∷ [] ≡ first ∷ tier → length tier ≡ length old
  as_long_backward old tier item first moved = omega (arith, ap length moved, length_push old item)

  -- ---- an item put in at a place

  pub put_forward : (tiers : List (List X)) (at place n : ℕ) (tier : List X) (item last : X) → AllByRecursion IsFull tiers → at < length tiers → place < 128 → n ≡ 128 * at + place → insert (get_or tiers at []) place item ≡ tier ++ last ∷ []
      → items_with (set tiers at tier) (suc at) last ≡ insert (items_in tiers) n item
  put_forward [] at place n tier item last full inside within is put = absurd (omega (arith, inside))
  put_forward (old ∷ tiers) zero place n tier item last full inside within is put =
      let here : place ≡ n = omega (arith, is) in
      ap (λ l. tier ++ l) (items_with-first tiers last)
      ∙ sym (append_assoc tier (last ∷ []) (items_in tiers))
      ∙ ap (λ l. l ++ items_in tiers) (sym put)
      ∙ sym (insert-append_left old (items_in tiers) place item (omega (arith, full.0, within)))
      ∙ ap (λ k. insert (old ++ items_in tiers) k item) here
  put_forward (old ∷ tiers) (suc at) place n tier item last full inside within is put =
      ap (λ l. old ++ l) (put_forward tiers at place (n - 128) tier item last full.1 (omega (arith, inside)) within (omega (arith, is)) put)
      ∙ sym (insert-append_right old (items_in tiers) 128 n item full.0 (omega (arith, is)))

  pub put_backward : (tiers : List (List X)) (at place n : ℕ) (tier : List X) (item first : X) → AllByRecursion IsFull tiers → at < length tiers → place < 128 → n ≡ 128 * at + place → insert (get_or tiers at []) place item ≡ first ∷ tier
      → items_with (set tiers at tier) at first ≡ insert (items_in tiers) n item
  put_backward [] at place n tier item first full inside within is put = absurd (omega (arith, inside))
  put_backward (old ∷ tiers) zero place n tier item first full inside within is put =
      let here : place ≡ n = omega (arith, is) in
      ap (λ l. l ++ items_in tiers) (sym put)
      ∙ sym (insert-append_left old (items_in tiers) place item (omega (arith, full.0, within)))
      ∙ ap (λ k. insert (old ++ items_in tiers) k item) here
  put_backward (old ∷ tiers) (suc at) place n tier item first full inside within is put =
      ap (λ l. old ++ l) (put_backward tiers at place (n - 128) tier item first full.1 (omega (arith, inside)) within (omega (arith, is)) put)
      ∙ sym (insert-append_right old (items_in tiers) 128 n item full.0 (omega (arith, is)))

  -- at the start of a tier
  pub put_at_start : (tiers : List (List X)) (at n : ℕ) (item : X) → AllByRecursion IsFull tiers → at < length tiers → n ≡ 128 * at → items_with tiers at item ≡ insert (items_in tiers) n item
  put_at_start tiers at n item full inside is =
      ap (λ all. items_with all at item) (sym (set-get_or tiers at []))
      ∙ put_backward tiers at 0 n (get_or tiers at []) item item full inside (omega arith) (omega (arith, is)) refl

  -- ---- an item read, and taken out

  pub slice_get-append_left : (xs ys : List X) (i : ℕ) → i < length xs → slice_get (xs ++ ys) i ≡ slice_get xs i
  slice_get-append_left [] ys i inside = absurd (omega (arith, inside))
  slice_get-append_left (x ∷ xs) ys zero inside = refl
  slice_get-append_left (x ∷ xs) ys (suc i) inside = slice_get-append_left xs ys i (omega (arith, inside))

  pub slice_get-append_right : (xs ys : List X) (n i : ℕ) → length xs ≡ n → n ≤ i → slice_get (xs ++ ys) i ≡ slice_get ys (i - n)
  slice_get-append_right [] ys n i is behind = let same : i ≡ i - n = omega (arith, is) in ap (slice_get ys) same
  slice_get-append_right (x ∷ xs) ys n zero is behind = absurd (omega (arith, is, behind))
  slice_get-append_right (x ∷ xs) ys n (suc i) is behind =
      let same : i - (n - 1) ≡ suc i - n = omega (arith, is, behind) in
      slice_get-append_right xs ys (n - 1) i (omega (arith, is)) (omega (arith, behind)) ∙ ap (slice_get ys) same

  pub read_in_tier : (tiers : List (List X)) (at place n : ℕ) → AllByRecursion IsFull tiers → at < length tiers → place < 128 → n ≡ 128 * at + place → slice_get (items_in tiers) n ≡ slice_get (get_or tiers at []) place
  read_in_tier [] at place n full inside within is = absurd (omega (arith, inside))
  read_in_tier (tier ∷ tiers) zero place n full inside within is =
      let here : n ≡ place = omega (arith, is) in
      ap (slice_get (tier ++ items_in tiers)) here ∙ slice_get-append_left tier (items_in tiers) place (omega (arith, full.0, within))
  read_in_tier (tier ∷ tiers) (suc at) place n full inside within is =
      slice_get-append_right tier (items_in tiers) 128 n full.0 (omega (arith, is))
      ∙ read_in_tier tiers at place (n - 128) full.1 (omega (arith, inside)) within (omega (arith, is))

  -- where another item stands before the tier
  pub read_behind : (tiers : List (List X)) (at place n : ℕ) (item : X) → AllByRecursion IsFull tiers → at < length tiers → place < 128 → n ≡ 128 * at + place → slice_get (items_with tiers at item) (suc n) ≡ slice_get (get_or tiers at []) place
  read_behind [] at place n item full inside within is = absurd (omega (arith, inside))
  read_behind (tier ∷ tiers) zero place n item full inside within is =
      let here : n ≡ place = omega (arith, is) in
      ap (slice_get (tier ++ items_in tiers)) here ∙ slice_get-append_left tier (items_in tiers) place (omega (arith, full.0, within))
  read_behind (tier ∷ tiers) (suc at) place n item full inside within is =
      let next : suc n - 128 ≡ suc (n - 128) = omega (arith, is) in
      slice_get-append_right tier (items_with tiers at item) 128 (suc n) full.0 (omega (arith, is))
      ∙ ap (slice_get (items_with tiers at item)) next
      ∙ read_behind tiers at place (n - 128) item full.1 (omega (arith, inside)) within (omega (arith, is))

  pub taken_behind : (tiers : List (List X)) (at place n : ℕ) (item : X) → AllByRecursion IsFull tiers → at < length tiers → place < 128 → n ≡ 128 * at + place
      → items_in (set tiers at (item ∷ remove (get_or tiers at []) place)) ≡ remove (items_with tiers at item) (suc n)
  taken_behind [] at place n item full inside within is = absurd (omega (arith, inside))
  taken_behind (tier ∷ tiers) zero place n item full inside within is =
      let here : place ≡ n = omega (arith, is) in
      ap (λ l. item ∷ l) (sym (remove-append_left tier (items_in tiers) place (omega (arith, full.0, within))) ∙ ap (remove (tier ++ items_in tiers)) here)
  taken_behind (tier ∷ tiers) (suc at) place n item full inside within is =
      let next : suc (n - 128) ≡ suc n - 128 = omega (arith, is) in
      ap (λ l. tier ++ l) (taken_behind tiers at place (n - 128) item full.1 (omega (arith, inside)) within (omega (arith, is)) ∙ ap (remove (items_with tiers at item)) next)
      ∙ sym (remove-append_right tier (items_with tiers at item) 128 (suc n) full.0 (omega (arith, is)))

  -- where another item stands behind the tier
  pub read_before : (tiers : List (List X)) (at place n : ℕ) (item : X) → AllByRecursion IsFull tiers → at < length tiers → place < 128 → n ≡ 128 * at + place → slice_get (items_with tiers (suc at) item) n ≡ slice_get (get_or tiers at []) place
  read_before [] at place n item full inside within is = absurd (omega (arith, inside))
  read_before (tier ∷ tiers) zero place n item full inside within is =
      let here : n ≡ place = omega (arith, is) in
      ap (slice_get (tier ++ items_with tiers 0 item)) here ∙ slice_get-append_left tier (items_with tiers 0 item) place (omega (arith, full.0, within))
  read_before (tier ∷ tiers) (suc at) place n item full inside within is =
      slice_get-append_right tier (items_with tiers (suc at) item) 128 n full.0 (omega (arith, is))
      ∙ read_before tiers at place (n - 128) item full.1 (omega (arith, inside)) within (omega (arith, is))

  pub taken_before : (tiers : List (List X)) (at place n : ℕ) (item : X) → AllByRecursion IsFull tiers → at < length tiers → place < 128 → n ≡ 128 * at + place
      → items_in (set tiers at (remove (get_or tiers at []) place ++ item ∷ [])) ≡ remove (items_with tiers (suc at) item) n
  taken_before [] at place n item full inside within is = absurd (omega (arith, inside))
  taken_before (tier ∷ tiers) zero place n item full inside within is =
      let here : place ≡ n = omega (arith, is) in
      append_assoc (remove tier place) (item ∷ []) (items_in tiers)
      ∙ ap (λ l. remove tier place ++ l) (sym (items_with-first tiers item))
      ∙ sym (remove-append_left tier (items_with tiers 0 item) place (omega (arith, full.0, within)))
      ∙ ap (remove (tier ++ items_with tiers 0 item)) here
  taken_before (tier ∷ tiers) (suc at) place n item full inside within is =
      ap (λ l. tier ++ l) (taken_before tiers at place (n - 128) item full.1 (omega (arith, inside)) within (omega (arith, is)))
      ∙ sym (remove-append_right tier (items_with tiers (suc at) item) 128 n full.0 (omega (arith, is)))
