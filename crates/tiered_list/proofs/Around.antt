-- The items of a list as those of its first tier, of the full ones and of its last tier, and what a step on one part leaves.
use Rattle.std.proofs.Common.{◌≡◌, ℕ, ◌+◌, ◌-◌, ◌<◌, ◌≤◌, ◌*◌, List, [], ◌∷◌, ◌++◌, length, refl, sym, ◌∙◌, ap, arith, append_assoc, length-append}
use Rattle.std.proofs.lemmas.List.{append-nil}
use Rattle.std.proofs.lemmas.List.Edits.{insert-append_left, insert-append_right, remove-append_left, remove-append_right}
use Rattle.std.specs.List.{AllByRecursion, insert, remove}
use Rattle.std.specs.Prelude.{slice_get}
use Rattle.tiered_list.specs.Tiers.{TiersState, all_items, items_in, room_for, IsFull}
use Rattle.tiered_list.proofs.FullTiers.{length-items_in, slice_get-append_left, slice_get-append_right}

module _ {X : Type 0} where
  insert_behind : (xs ys : List X) (k : ℕ) (x : X) → xs ++ insert ys k x ≡ insert (xs ++ ys) (length xs + k) x
  insert_behind xs ys k x =
      let same : k ≡ length xs + k - length xs = omega arith in
      ap (λ n. xs ++ insert ys n x) same ∙ sym (insert-append_right xs ys (length xs) (length xs + k) x refl (omega arith))

  remove_behind : (xs ys : List X) (k : ℕ) → xs ++ remove ys k ≡ remove (xs ++ ys) (length xs + k)
  remove_behind xs ys k =
      let same : k ≡ length xs + k - length xs = omega arith in
      ap (λ n. xs ++ remove ys n) same ∙ sym (remove-append_right xs ys (length xs) (length xs + k) refl (omega arith))

  get_behind : (xs ys : List X) (k : ℕ) → slice_get (xs ++ ys) (length xs + k) ≡ slice_get ys k
  get_behind xs ys k =
      let same : length xs + k - length xs ≡ k = omega arith in
      slice_get-append_right xs ys (length xs) (length xs + k) refl (omega arith) ∙ ap (slice_get ys) same

  -- ---- an item put in

  -- in the last part
  pub put_in_back : (front items back : List X) (k n : ℕ) (item : X) → length items ≡ n → n ≤ k → front ++ (items ++ insert back (k - n) item) ≡ insert (front ++ (items ++ back)) (length front + k) item
  put_in_back front items back k n item is behind =
      ap (λ l. front ++ l) (sym (insert-append_right items back n k item is behind)) ∙ insert_behind front (items ++ back) k item

  -- among the full tiers, whose last item went to the last part
  pub put_to_back : (front items back new : List X) (k : ℕ) (item last : X) → k ≤ length items → new ++ last ∷ [] ≡ insert items k item → front ++ (new ++ last ∷ back) ≡ insert (front ++ (items ++ back)) (length front + k) item
  put_to_back front items back new k item last inside put =
      ap (λ l. front ++ l) (sym (append_assoc new (last ∷ []) back) ∙ ap (λ l. l ++ back) put ∙ sym (insert-append_left items back k item inside))
      ∙ insert_behind front (items ++ back) k item

  -- among the full tiers, whose first item went to the first part
  pub put_to_front : (front items back new : List X) (k : ℕ) (item first : X) → k ≤ length items → first ∷ new ≡ insert items k item → (front ++ first ∷ []) ++ (new ++ back) ≡ insert (front ++ (items ++ back)) (length front + k) item
  put_to_front front items back new k item first inside put =
      append_assoc front (first ∷ []) (new ++ back)
      ∙ ap (λ l. front ++ l) (ap (λ l. l ++ back) put ∙ sym (insert-append_left items back k item inside))
      ∙ insert_behind front (items ++ back) k item

  -- ---- an item taken out

  -- of the last part
  pub get_in_back : (front items back : List X) (k n : ℕ) → length items ≡ n → n ≤ k → slice_get (front ++ (items ++ back)) (length front + k) ≡ slice_get back (k - n)
  get_in_back front items back k n is behind = get_behind front (items ++ back) k ∙ slice_get-append_right items back n k is behind

  pub take_from_back : (front items back : List X) (k n : ℕ) → length items ≡ n → n ≤ k → front ++ (items ++ remove back (k - n)) ≡ remove (front ++ (items ++ back)) (length front + k)
  take_from_back front items back k n is behind =
      ap (λ l. front ++ l) (sym (remove-append_right items back n k is behind)) ∙ remove_behind front (items ++ back) k

  -- of the full tiers
  pub get_in_middle : (front items back : List X) (k : ℕ) → k < length items → slice_get (front ++ (items ++ back)) (length front + k) ≡ slice_get items k
  get_in_middle front items back k inside = get_behind front (items ++ back) k ∙ slice_get-append_left items back k inside

  -- of the full tiers, to which the first item of the last part came
  pub take_with_back : (front items back new left : List X) (k : ℕ) (first : X) → k < length items → back ≡ first ∷ left → new ≡ remove items k ++ first ∷ [] → front ++ (new ++ left) ≡ remove (front ++ (items ++ back)) (length front + k)
  take_with_back front items back new left k first inside came is =
      ap (λ l. front ++ l) (ap (λ l. l ++ left) is ∙ append_assoc (remove items k) (first ∷ []) left ∙ ap (λ l. remove items k ++ l) (sym came) ∙ sym (remove-append_left items back k inside))
      ∙ remove_behind front (items ++ back) k

  -- of the full tiers, to which the last item of the first part came
  pub take_with_front : (front items back new left : List X) (k : ℕ) (last : X) → k < length items → front ≡ left ++ last ∷ [] → new ≡ last ∷ remove items k → left ++ (new ++ back) ≡ remove (front ++ (items ++ back)) (length front + k)
  take_with_front front items back new left k last inside came is =
      ap (λ l. left ++ (l ++ back)) is
      ∙ sym (append_assoc left (last ∷ []) (remove items k ++ back))
      ∙ ap (λ l. l ++ (remove items k ++ back)) (sym came)
      ∙ ap (λ l. front ++ l) (sym (remove-append_left items back k inside))
      ∙ remove_behind front (items ++ back) k

  -- ---- a tier that changes its part

  items_in-push : (tiers : List (List X)) (tier : List X) → items_in (tiers ++ tier ∷ []) ≡ items_in tiers ++ tier
  items_in-push [] tier = append-nil tier
  items_in-push (first ∷ tiers) tier = ap (λ l. first ++ l) (items_in-push tiers tier) ∙ sym (append_assoc first (items_in tiers) tier)

  -- the last one and the one before it
  pub back_and_middle : (front back : List X) (tiers : List (List X)) → front ++ (items_in (tiers ++ back ∷ []) ++ []) ≡ front ++ (items_in tiers ++ back)
  back_and_middle front back tiers = ap (λ l. front ++ l) (append-nil (items_in (tiers ++ back ∷ [])) ∙ items_in-push tiers back)

  -- how many items there are
  pub length-parts : (front items back : List X) → length (front ++ (items ++ back)) ≡ length front + length items + length back
  length-parts front items back = omega (arith, length-append front (items ++ back), length-append items back)

  pub length-all : (front back : List X) (tiers : List (List X)) → AllByRecursion IsFull tiers → length (front ++ (items_in tiers ++ back)) ≡ length front + 128 * length tiers + length back
  length-all front back tiers full = omega (arith, length-parts front (items_in tiers) back, length-items_in tiers full)

  -- where there is room for one more item and one of the two at the ends is full, there is a spare tier
  pub some_spare : (state : TiersState X) → AllByRecursion IsFull state.middle → 128 ≤ length state.front + length state.back → length (all_items state) < room_for state → 0 < state.spare
  some_spare state full long room = omega (arith, long, room, length-all state.front state.back state.middle full)
