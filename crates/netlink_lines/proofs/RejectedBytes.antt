-- The bytes of a payload that a family rejects.
use Rattle.std.proofs.Common.{◌≡◌, ℕ, List, refl, ◌||◌, if◌then◌else◌}
use Rattle.netlink_family.specs.declared.error.FamilyError.{FamilyError}
use Rattle.netlink_family.specs.declared.error.FamilyError.TheVariants.{HeaderShort, InvalidAttribute, OutOfMemory, TooLong, UnknownType}
use Rattle.netlink_packet_core.specs.Header.{header_of, payload_of}
use Rattle.netlink_lines.specs.Bytes.{fault_of, rejected_bytes, told_bytes}
use Rattle.netlink_lines.specs.Check.{Check}
use Rattle.netlink_lines.specs.Families.{is_foreign}
use Rattle.netlink_lines.specs.Requests.{is_dump}

-- with any error but an unknown type
pub rejected_other : (check : Check) (frame : List ℕ) (error : FamilyError) → ((t : ℕ) → error ≡ UnknownType t → ⊥)
    → rejected_bytes check frame error
    ≡ (if is_dump (header_of frame).flags (header_of frame).message_type
    || is_foreign (header_of frame).message_type (payload_of frame)
    then told_bytes frame
    else check.bytes (header_of frame).message_type (fault_of error) 16 (payload_of frame))
rejected_other check frame (UnknownType t) other = absurd (other t refl)
rejected_other check frame (HeaderShort expected received) other = refl
rejected_other check frame (InvalidAttribute error) other = refl
rejected_other check frame TooLong other = refl
rejected_other check frame OutOfMemory other = refl
