-- How great the numbers of a step can be.
use Rattle.std.specs.Prelude.{ℕ, ◌*◌, ◌≤◌, ℤ, pos, negsuc, ◌+ℤ◌, ◌-ℤ◌, ◌*ℤ◌, ◌≤ℤ◌}
use Rattle.std.specs.Int.{int_div_euclid}
use Rattle.std.proofs.Common.{arith, mul-le-mul, div-le_self}
use Rattle.std.proofs.lemmas.Int.{ints, clamps, unsigned_abs-mul}
use Rattle.spring_mesh.specs.declared.file.MeshNode.{MeshNode}
use Rattle.spring_mesh.specs.declared.file.Spring.{Spring}
use Rattle.spring_mesh.specs.LineForms.{reach, latest, most_stiffness}
use Rattle.spring_mesh.specs.Files.{IsWithin, IsNode}
use Rattle.spring_mesh.specs.Motion.{clamped, brought_to, impulse, change_by, first_after, second_after}

pub clamped-within : (n : ℤ) → IsWithin reach (clamped n)
clamped-within n = omega (arith, ints, clamps)

pub product-within : (a b : ℤ) (m n : ℕ) → IsWithin m a → IsWithin n b → IsWithin (m * n) (a *ℤ b)
product-within a b m n a-in b-in = rw (unsigned_abs-mul a b) (mul-le-mul a-in b-in)

pub stiffness-within : (k : ℤ) → pos 0 ≤ℤ k → k ≤ℤ pos most_stiffness → IsWithin most_stiffness k
stiffness-within k low high = omega (arith, ints, low, high)

pub passed-within : (time since : ℕ) → time ≤ latest → since ≤ latest → IsWithin latest (pos time -ℤ pos since)
passed-within time since a b = omega (arith, ints, a, b)

-- a quotient is no greater than what is divided
pub quotient-within : (n : ℤ) (d : ℕ) (most : ℕ) → IsWithin most n → IsWithin most (int_div_euclid n (pos d))
quotient-within (pos n) d most n-in = let less = div-le_self n d in omega (arith, less, n-in)
quotient-within (negsuc n) d most n-in = let less = div-le_self n d in omega (arith, less, n-in)

pub brought_to-fits : (time : ℕ) (node : MeshNode) → IsNode node → time ≤ latest → IsNode (brought_to time node)
brought_to-fits time node is late = record {
  x = clamped-within (node.x +ℤ node.vx *ℤ (pos time -ℤ pos node.time));
  y = clamped-within (node.y +ℤ node.vy *ℤ (pos time -ℤ pos node.time));
  vx = is.vx;
  vy = is.vy;
  time = late;
}

pub first_after-fits : (spring : Spring) (mass : ℤ) (a b : MeshNode) → IsNode a → IsNode (first_after spring mass a b)
first_after-fits spring mass a b is = record {
  x = is.x;
  y = is.y;
  vx = clamped-within (a.vx +ℤ change_by (impulse spring spring.rx a.x b.x) mass);
  vy = clamped-within (a.vy +ℤ change_by (impulse spring spring.ry a.y b.y) mass);
  time = is.time;
}

pub second_after-fits : (spring : Spring) (mass : ℤ) (a b : MeshNode) → IsNode b → IsNode (second_after spring mass a b)
second_after-fits spring mass a b is = record {
  x = is.x;
  y = is.y;
  vx = clamped-within (b.vx -ℤ change_by (impulse spring spring.rx a.x b.x) mass);
  vy = clamped-within (b.vy -ℤ change_by (impulse spring spring.ry a.y b.y) mass);
  time = is.time;
}
