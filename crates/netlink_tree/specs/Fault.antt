-- The text of an error, and when two errors are the same.
use Rattle.std.specs.Prelude.{ℕ, List, ◌++◌, codes, decimal}
use Rattle.netlink_packet_core.specs.Attribute.{value_max}
use Rattle.netlink_packet_core.specs.Causes.{SameCause, cause_text}
use Rattle.netlink_tree.specs.declared.fault.TreeFault.{TreeFault}
use Rattle.netlink_tree.specs.declared.fault.TreeFault.TheVariants.{TooDeep, TooLong, Decode}

abbrev pub fault_text : TreeFault → List ℕ
fault_text TooDeep = codes "attributes are nested deeper than 16"
fault_text TooLong =
    codes "the value of an attribute is longer than " ++ (decimal value_max ++ codes " bytes")
fault_text (Decode cause) = cause_text cause

-- two errors that nothing distinguishes
abbrev pub SameFault : TreeFault → TreeFault → Type 0
SameFault TooDeep TooDeep = Unit {0}
SameFault TooLong TooLong = Unit {0}
SameFault (Decode a) (Decode b) = SameCause a b
SameFault _ _ = ⊥
