-- The order of keys.
use Rattle.std.specs.Prelude.{◌≡◌, ℕ, ◌<◌, ◌≤◌, Bool, true, [], ◌∷◌, ◌++◌}
use Rattle.std.specs.Cmp.{IsTotalOrder, nat_cmp_total, on_total, then_total}
use Rattle.std.specs.Cmp.Lexicographic.{slice_cmp, nat_list_cmp_total}
use Rattle.std.specs.declared.cmp.Ordering.{Ordering}
use Rattle.std.specs.declared.cmp.Ordering.TheVariants.{Less, Equal}
use Rattle.std.specs.Ordering.{is_lt, nat_cmp, ordering_then}
use Rattle.task_order.specs.declared.key.Key.{Key}

-- by priority, and then by path, number by number, where a proper prefix comes first
abbrev pub key_cmp : Key → Key → Ordering
key_cmp a b = ordering_then (nat_cmp a.prio b.prio) (slice_cmp nat_cmp a.path b.path)

-- the key of a task's child: its path is the parent's, and then its number among the children
abbrev pub child_key : Key → ℕ → ℕ → Key
child_key parent number prio = record { prio = prio; path = parent.path ++ number ∷ [] }

-- a key, or the end, which is after every key
pub data Bound : Type 0 where
  at_key : Key → Bound
  end : Bound

-- whether a key is earlier than a bound
abbrev pub is_before : Key → Bound → Bool
is_before key (at_key bound) = is_lt (key_cmp key bound)
is_before key end = true

-- only a key itself compares equal to it
abbrev pub IsExactOrder : Type 0
IsExactOrder = (a b : Key) → key_cmp a b ≡ Equal → a ≡ b

-- a child that is not more urgent than its parent comes after it
abbrev pub ChildrenComeLater : Type 0
ChildrenComeLater = (parent : Key) (number prio : ℕ) → parent.prio ≤ prio → key_cmp parent (child_key parent number prio) ≡ Less

-- of two children at one priority, the one with the lower number comes first
abbrev pub ChildrenComeInTurn : Type 0
ChildrenComeInTurn = (parent : Key) (first second prio : ℕ) → first < second → key_cmp (child_key parent first prio) (child_key parent second prio) ≡ Less

pub key_cmp_total : IsTotalOrder key_cmp
key_cmp_total = then_total (on_total (λ key. key.prio) nat_cmp_total) (on_total (λ key. key.path) nat_list_cmp_total)
