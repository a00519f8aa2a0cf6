-- A place that is there, and a list of one item.
use Rattle.std.proofs.Common.{◌≡◌, ◌≢◌, List, [], ◌∷◌, Some, None, length, set, refl, arith}

pub some_is_not_none : {X : Type 0} (x : X) → Some x ≢ None
some_is_not_none x same = cc

pub set_only : {A : Type 0} (l : List A) (a : A) → length l ≡ 1 → set l 0 a ≡ a ∷ []
set_only [] a one = absurd (omega arith)
set_only (x ∷ []) a one = refl
set_only (x ∷ y ∷ l) a one = absurd (omega arith)
