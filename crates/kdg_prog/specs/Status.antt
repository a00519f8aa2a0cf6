-- What a status says to the outside.
use Rattle.std.specs.Prelude.{ℕ, ◌==◌, List, [], ◌++◌, codes, if◌then◌else◌}
use Rattle.std.specs.Fmt.{decimal}
use Rattle.kdg_text.specs.declared.fault.Fault.{Fault}
use Rattle.kdg_prog.specs.declared.status.Status.{Status}
use Rattle.kdg_prog.specs.declared.status.Status.TheVariants.{Ok, Usage, BadInput, TooLarge, Budget, ReadFault, WriteFault, NoMemory}

-- the exit code of the program
abbrev pub exit_code : Status → ℕ
exit_code Ok = 0
exit_code (Usage word) = 2
exit_code (BadInput line kind) = 3
exit_code (TooLarge line bound) = 4
exit_code (Budget created limit) = 5
exit_code ReadFault = 6
exit_code WriteFault = 7
exit_code NoMemory = 8

-- the line that tells a user of the status, without a line feed
abbrev pub fault_text : Status → List ℕ
fault_text Ok = []
fault_text (Usage word) = codes "usage: word " ++ decimal word
fault_text (BadInput line kind) =
    codes "bad input: line " ++ decimal line ++ codes ": fault " ++ decimal kind
fault_text (TooLarge line bound) = codes "too large: limit " ++ decimal bound
fault_text (Budget created limit) = codes "budget: more than " ++ decimal limit ++ codes " tasks"
fault_text ReadFault = codes "read fault"
fault_text WriteFault = codes "write fault"
fault_text NoMemory = codes "no memory"

-- the status for a fault of the input: that it goes beyond a limit, where the fault has one
abbrev pub status_of_fault : Fault → Status
status_of_fault fault = if fault.bound == 0 then BadInput fault.line fault.kind else TooLarge fault.line fault.bound
