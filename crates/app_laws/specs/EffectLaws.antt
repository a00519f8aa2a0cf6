-- What is so of effects by their parts.
use Rattle.std.proofs.Common.{ℕ, List, ◌≡◌}
use Rattle.cell_store.specs.Part.{Part}
use Rattle.app_laws.specs.declared.child.Child.{Child}
use Rattle.app_laws.specs.declared.app.Effect.{Effect}

pub same_effects : {one two : Part ℕ} {made others : List Child} {line more : List ℕ} → one ≡ two → made ≡ others → line ≡ more
    → ◌≡◌ {A = Effect ℕ} (record { bundle = one; children = made; text = line }) (record { bundle = two; children = others; text = more })
same_effects e f h = cc
