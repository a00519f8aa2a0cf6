-- The faults of a line.
use Rattle.std.specs.Prelude.{ℕ}
use Rattle.kdg_text.specs.declared.fault.LineFault.{LineFault}
use Rattle.kdg_text.specs.Faults.{fault_of_kind}

-- the line has none of the forms, or a byte that isn't allowed
abbrev pub syntax : LineFault
syntax = fault_of_kind 1

-- a gate's word names no kind
abbrev pub unknown_kind : LineFault
unknown_kind = fault_of_kind 2

-- a form that is known and not taken
abbrev pub unsupported : LineFault
unsupported = fault_of_kind 3

-- a gate of this kind has one fan-in
abbrev pub arity : LineFault
arity = fault_of_kind 4

-- an earlier line defines the name, or gives it a delay
abbrev pub double : LineFault
double = fault_of_kind 5

-- no line defines the name, or none as a gate that can have a delay
abbrev pub undefined : LineFault
undefined = fault_of_kind 6

-- a stimulus has another number of bits than there are primary inputs
abbrev pub bit_count : LineFault
bit_count = fault_of_kind 7

-- a time or a delay is no number, or none that it may be
abbrev pub bad_number : LineFault
bad_number = fault_of_kind 8

-- the line goes beyond this limit
abbrev pub beyond : ℕ → LineFault
beyond bound = record { kind = 9; bound = bound }
