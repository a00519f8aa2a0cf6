-- What a line of a mesh file says, by that line's bytes alone.
use Rattle.std.specs.Prelude.{ℕ, Bool, true, ◌&&◌, nat_le, if◌then◌else◌, List, [], ◌∷◌, Option, None, Some, Result, Ok, Err, ℤ, pos, int_le, unsigned_abs, codes, bytes_eq}
use Rattle.kdg_text.specs.declared.fault.LineFault.{LineFault}
use Rattle.kdg_text.specs.declared.number.NumFault.{NumFault}
use Rattle.kdg_text.specs.Faults.{before_comment}
use Rattle.kdg_text.specs.Numbers.{u64_of, i64_of}
use Rattle.kdg_text.specs.Tokens.{tokens_of}
use Rattle.spring_mesh.specs.declared.statement.Statement.{Statement}
use Rattle.spring_mesh.specs.declared.statement.Statement.TheVariants.{Node, Spring, End}
use Rattle.spring_mesh.specs.Faults.{syntax, bad_number}

-- what a line says, or what is wrong with it by itself
abbrev pub LineForm : Type 0
LineForm = Result Statement LineFault

-- the byte that begins a comment
abbrev pub comment : ℕ
comment = 35

-- how far from 0 a place and a speed may be
abbrev pub reach : ℕ
reach = 1_099_511_627_776

abbrev pub most_stiffness : ℕ
most_stiffness = 1_000_000

abbrev pub most_mass : ℕ
most_mass = 1_000_000

-- the last time, and the longest time between steps
abbrev pub latest : ℕ
latest = 1_000_000_000

-- a number that a word says, where it is one that may stand there
abbrev pub allowed : {N : Type 0} → (N → Bool) → Result N NumFault → Result N LineFault
allowed test (Ok n) = if test n then Ok n else Err bad_number
allowed test (Err fault) = Err bad_number

abbrev pub is_within_reach : ℤ → Bool
is_within_reach n = nat_le (unsigned_abs n) reach

abbrev pub is_stiffness : ℤ → Bool
is_stiffness n = int_le (pos 0) n && int_le n (pos most_stiffness)

abbrev pub is_between : ℕ → ℕ → ℕ → Bool
is_between low high n = nat_le low n && nat_le n high

-- a place, a speed, or how far an end is from the other at rest
abbrev pub coordinate_of : List ℕ → Result ℤ LineFault
coordinate_of word = allowed is_within_reach (i64_of word)

abbrev pub stiffness_of : List ℕ → Result ℤ LineFault
stiffness_of word = allowed is_stiffness (i64_of word)

-- a number in a range
abbrev pub number_in : ℕ → ℕ → List ℕ → Result ℕ LineFault
number_in low high word = allowed (is_between low high) (u64_of word)

-- a node's number, which has no range by itself
abbrev pub any_number : List ℕ → Result ℕ LineFault
any_number word = allowed (λ n. true) (u64_of word)

-- what is said with a number, or the number's fault
abbrev pub with_number : {N : Type 0} → Result N LineFault → (N → LineForm) → LineForm
with_number (Ok n) said = said n
with_number (Err fault) said = Err fault

-- X Y VX VY MASS
abbrev pub node_by : List (List ℕ) → LineForm
node_by (x ∷ y ∷ vx ∷ vy ∷ mass ∷ []) =
    with_number (coordinate_of x) (λ x.
    with_number (coordinate_of y) (λ y.
    with_number (coordinate_of vx) (λ vx.
    with_number (coordinate_of vy) (λ vy.
    with_number (number_in 1 most_mass mass) (λ mass.
    Ok (Node (record { x = x; y = y; vx = vx; vy = vy; time = 0 }) (pos mass)))))))
node_by _ = Err syntax

-- A B K RX RY H
abbrev pub spring_by : List (List ℕ) → LineForm
spring_by (a ∷ b ∷ k ∷ rx ∷ ry ∷ h ∷ []) =
    with_number (any_number a) (λ a.
    with_number (any_number b) (λ b.
    with_number (stiffness_of k) (λ k.
    with_number (coordinate_of rx) (λ rx.
    with_number (coordinate_of ry) (λ ry.
    with_number (number_in 1 latest h) (λ h.
    Ok (Spring (record { a = a; b = b; k = k; rx = rx; ry = ry; h = h }))))))))
spring_by _ = Err syntax

-- T
abbrev pub end_by : List (List ℕ) → LineForm
end_by (time ∷ []) = with_number (number_in 0 latest time) (λ time. Ok (End time))
end_by _ = Err syntax

-- what a line says behind its first word
abbrev pub form_by : List ℕ → List (List ℕ) → LineForm
form_by word words =
    if bytes_eq word (codes "node") then node_by words
    else if bytes_eq word (codes "spring") then spring_by words
    else if bytes_eq word (codes "end") then end_by words
    else Err syntax

-- what a line of these words says; nothing without any
abbrev pub form_of_words : List (List ℕ) → Option LineForm
form_of_words [] = None
form_of_words (word ∷ words) = Some (form_by word words)

-- what a line says
abbrev pub form_of : List ℕ → Option LineForm
form_of line = form_of_words (tokens_of [] (before_comment comment line))
