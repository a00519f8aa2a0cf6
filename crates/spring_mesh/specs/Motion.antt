-- How nodes move, and what a spring does to its ends, in whole numbers without a bound. Each new place and speed is clamped.
use Rattle.std.specs.Prelude.{ℕ, ℤ, pos, neg_ℤ, ◌+ℤ◌, ◌-ℤ◌, ◌*ℤ◌}
use Rattle.std.specs.Int.{int_max, int_min, int_div_euclid}
use Rattle.spring_mesh.specs.declared.file.MeshNode.{MeshNode}
use Rattle.spring_mesh.specs.declared.file.Spring.{Spring}
use Rattle.spring_mesh.specs.LineForms.{reach}

-- the nearest number within reach
abbrev pub clamped : ℤ → ℤ
clamped n = int_max (neg_ℤ (pos reach)) (int_min n (pos reach))

-- where a thing is that moved at a speed for a time
abbrev pub moved : ℤ → ℤ → ℤ → ℤ
moved place speed time = clamped (place +ℤ speed *ℤ time)

-- a node as it is at a time, where nothing changed its speed until then
abbrev pub brought_to : ℕ → MeshNode → MeshNode
brought_to time node = record {
  x = moved node.x node.vx (pos time -ℤ pos node.time);
  y = moved node.y node.vy (pos time -ℤ pos node.time);
  vx = node.vx;
  vy = node.vy;
  time = time;
}

-- what a spring gives along one axis in one step, where at rest its second end is so far from the first, and they are at these
-- places: for each unit of length that it is off its rest, and for each unit of time between its steps
abbrev pub impulse : Spring → ℤ → ℤ → ℤ → ℤ
impulse spring rest from to = spring.k *ℤ (to -ℤ from -ℤ rest) *ℤ pos spring.h

-- how much that changes the speed of a mass, which is above 0: rounded towards minus infinity
abbrev pub change_by : ℤ → ℤ → ℤ
change_by given mass = int_div_euclid given mass

-- the first end of a spring after a step, where both are at the same time: it is pulled to the second
abbrev pub first_after : Spring → ℤ → MeshNode → MeshNode → MeshNode
first_after spring mass a b = record a {
  vx = clamped (a.vx +ℤ change_by (impulse spring spring.rx a.x b.x) mass);
  vy = clamped (a.vy +ℤ change_by (impulse spring spring.ry a.y b.y) mass);
}

-- the second end: it is pulled back to the first
abbrev pub second_after : Spring → ℤ → MeshNode → MeshNode → MeshNode
second_after spring mass a b = record b {
  vx = clamped (b.vx -ℤ change_by (impulse spring spring.rx a.x b.x) mass);
  vy = clamped (b.vy -ℤ change_by (impulse spring spring.ry a.y b.y) mass);
}
