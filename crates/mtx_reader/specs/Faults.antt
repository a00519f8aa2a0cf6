-- The faults of a line.
use Rattle.std.specs.Prelude.{ℕ}
use Rattle.kdg_text.specs.declared.fault.LineFault.{LineFault}
use Rattle.kdg_text.specs.Faults.{fault_of_kind}

-- the first line is missing, or isn't the banner of a matrix
abbrev pub bad_banner : LineFault
bad_banner = fault_of_kind 1

-- the banner has a word that is known and not taken
abbrev pub unsupported : LineFault
unsupported = fault_of_kind 2

-- the size is missing, isn't three numbers, or isn't square where the matrix is symmetric
abbrev pub bad_size : LineFault
bad_size = fault_of_kind 3

-- an entry isn't two numbers and, where entries have values, a third
abbrev pub bad_entry : LineFault
bad_entry = fault_of_kind 4

-- an entry lies outside of the matrix
abbrev pub bad_place : LineFault
bad_place = fault_of_kind 5

-- the input ends before as many entries as the size says
abbrev pub few : LineFault
few = fault_of_kind 6

-- a line follows the last entry
abbrev pub many : LineFault
many = fault_of_kind 7

-- the size goes beyond this limit
abbrev pub beyond : ℕ → LineFault
beyond bound = record { kind = 8; bound = bound }
