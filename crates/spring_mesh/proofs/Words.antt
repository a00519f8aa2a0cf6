-- Lines of a wrong number of words.
use Rattle.std.proofs.Common.{refl, ◌≡◌, ◌≢◌, [], ◌∷◌, ℕ, List, Err}
use Rattle.spring_mesh.specs.Faults.{syntax}
use Rattle.spring_mesh.specs.LineForms.{spring_by}

-- more words than a spring has
pub spring_by-long : (a b k rx ry h : List ℕ) (more : List (List ℕ)) → more ≢ [] → spring_by (a ∷ b ∷ k ∷ rx ∷ ry ∷ h ∷ more) ≡ Err syntax
spring_by-long a b k rx ry h [] some = absurd (some refl)
spring_by-long a b k rx ry h (next ∷ more) some = refl
