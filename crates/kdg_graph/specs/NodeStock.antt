-- Nodes, and how many more can be put in without taking memory.
use Rattle.std.specs.Prelude.{ℕ, zero, ◌-◌, ◌^◌, ◌==◌, if◌then◌else◌, List, length, Option, Some, None}
use Rattle.kdg_graph.specs.declared.lane.Lane.{Lane}
use Rattle.kdg_graph.specs.Node.{Node}

-- for `numbers` more nodes there is an id, which is below the number of keys
pub record NodeShelf : Type 0 where
  pub nodes : List Node
  pub numbers : ℕ
  pub keys : ℕ

-- for `room` more nodes there is room, but at the locations of their sets, and at each location for as many as `rooms` has there
pub record NodeStock : Type 0 where
  pub nodes : List Node
  pub room : ℕ
  pub rooms : List ℕ

-- the ids that are left of `keys`, of which `used` are in use: an id has 32 bits
abbrev pub ids_left : ℕ → ℕ → ℕ
ids_left keys used = if keys - 2 ^ 32 == zero then keys - used else zero

-- the places that are left in a list of all ids; where none is kept, each that is left has one
abbrev pub places_in : Option Lane → ℕ → ℕ
places_in None numbers = numbers
places_in (Some lane) numbers = lane.ids.capacity - length lane.ids.items
