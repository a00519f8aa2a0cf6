-- What a contract sees of each form of a list.
use Rattle.std.specs.Prelude.{◌≡◌, ◌≤◌, ℕ, length, take}
use Rattle.std.specs.VecDeque.{deque_capacity}
use Rattle.tiered_list.specs.Tiered.{Tiered}
use Rattle.tiered_list.specs.Tiers.{all_items, room_for}
use Rattle.tiered_list.specs.declared.form.Form.{Form}
use Rattle.tiered_list.specs.declared.form.Form.TheVariants.{InPlace, Ring, Tiers}

-- how many items stand in place at most
abbrev pub in_place : ℕ
in_place = 10

abbrev pub tiered_of : {T : Type 0} → Form T → Tiered T
tiered_of (InPlace len items) = record { items = take len items; capacity = in_place }
tiered_of (Ring ring) = record { items = ring.items; capacity = deque_capacity ring }
tiered_of (Tiers tiers) = record { items = all_items tiers.value; capacity = room_for tiers.value }

-- what is true of each form of a list: how many items stand in place
abbrev pub IsForm : {T : Type 0} → Form T → Type 0
IsForm (InPlace len items) = (len ≤ in_place) × (length items ≡ in_place)
IsForm (Ring ring) = Unit {0}
IsForm (Tiers tiers) = Unit {0}
