-- Why a run failed.
use Rattle.std.specs.Prelude.{List, ℕ, codes}
use Rattle.netlink_program.specs.declared.reading.ReadFault.{ReadFault}
use Rattle.netlink_program.specs.declared.reading.ReadFault.TheVariants as read
use Rattle.netlink_input.specs.Stream.{stop_text}
use Rattle.netlink_input.specs.declared.fault.Fault.{Fault}
use Rattle.netlink_input.specs.declared.fault.Fault.TheVariants as fault

-- the fault of a run whose input could not be read
abbrev pub read_fault : ReadFault → Fault
read_fault read.Read = fault.Read
read_fault read.OutOfMemory = fault.OutOfMemory

-- the text of a fault
abbrev pub fault_text : Fault → List ℕ
fault_text fault.Read = codes "read failed"
fault_text fault.Write = codes "write failed"
fault_text fault.OutOfMemory = codes "out of memory"
fault_text fault.Malformed = codes "a message is malformed"
fault_text (fault.Stopped stop) = stop_text stop
