-- The faults of a line.
use Rattle.std.specs.Prelude.{ℕ}
use Rattle.kdg_text.specs.declared.fault.LineFault.{LineFault}
use Rattle.kdg_text.specs.Faults.{fault_of_kind}

-- the line has none of the forms, or comes behind the end
abbrev pub syntax : LineFault
syntax = fault_of_kind 1

-- a word is no number, or out of its range
abbrev pub bad_number : LineFault
bad_number = fault_of_kind 2

-- the ends of a spring aren't two nodes of earlier lines
abbrev pub no_node : LineFault
no_node = fault_of_kind 3

-- the line goes beyond this limit
abbrev pub beyond : ℕ → LineFault
beyond bound = record { kind = 4; bound = bound }

-- no line has the end
abbrev pub no_end : LineFault
no_end = fault_of_kind 5
