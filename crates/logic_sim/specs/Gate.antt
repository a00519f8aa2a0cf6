-- What gates compute.
use Rattle.std.specs.Prelude.{ℕ, Bool, not, ◌==◌, ◌%◌, if◌then◌else◌, List, length, count_by}
use Rattle.bench_reader.specs.declared.deck.GateKind.{GateKind}
use Rattle.bench_reader.specs.declared.deck.GateKind.TheVariants.{And, Nand, Or, Nor, Xor, Xnor, Not, Buff}

-- the value of a signal: 1 where it is high
abbrev pub bit_of : Bool → ℕ
bit_of high = if high then 1 else 0

-- how many of the values are 1
abbrev pub count_ones_of : List ℕ → ℕ
count_ones_of values = count_by (λ value. value == 1) values

-- whether a gate of the kind is high where `ones` of its `n` inputs are 1
abbrev pub is_high : GateKind → ℕ → ℕ → Bool
is_high And ones n = ones == n
is_high Nand ones n = not (ones == n)
is_high Or ones n = not (ones == 0)
is_high Nor ones n = ones == 0
is_high Xor ones n = ones % 2 == 1
is_high Xnor ones n = not (ones % 2 == 1)
is_high Not ones n = ones == 0
is_high Buff ones n = not (ones == 0)

-- what a gate of the kind computes from its inputs, each 0 or 1; one that stands twice counts twice
abbrev pub gate_value : GateKind → List ℕ → ℕ
gate_value kind inputs = bit_of (is_high kind (count_ones_of inputs) (length inputs))
