-- What a contract sees of a tiered list.
use Rattle.std.specs.Prelude.{ℕ, List, refl}
use Rattle.std.specs.Coded.{Coded, code_by, coded×, coded_ℕ, coded_list}

-- the items, and how many there may be without taking memory
pub record Tiered (T : Type 0) : Type 0 where
  pub items : List T
  pub capacity : ℕ

-- a list is stored as the pair of its fields
abbrev pub tiered_code : {T : Type 0} → Coded T → Coded (Tiered T)
tiered_code {T} code =
    code_by
    (List T × ℕ)
    (coded× (coded_list code) coded_ℕ)
    (λ l. (l.items, l.capacity))
    (λ p. record { items = p.0; capacity = p.1 })
    (λ _. refl)
