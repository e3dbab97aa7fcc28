-- The exit status and the message of each fault.
use Rattle.std.specs.Prelude.{ℕ, List, ◌++◌, codes, decimal}
use Rattle.rsb_command_parser.specs.declared.fault.Fault.{Fault}
use Rattle.rsb_command_parser.specs.declared.fault.Fault.TheVariants.{BadLine, NoMemory, Io}

-- The exit status.
abbrev pub status_of : Fault → ℕ
status_of (BadLine number) = 2
status_of NoMemory = 3
status_of Io = 4

-- The line that reports the fault, without its line feed.
abbrev pub fault_line : Fault → List ℕ
fault_line (BadLine number) = codes "bad line " ++ decimal number
fault_line NoMemory = codes "no memory"
fault_line Io = codes "read or write failed"
