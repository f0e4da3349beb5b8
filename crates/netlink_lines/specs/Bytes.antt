-- The bytes of a message, one line per field, with offsets from its start.
use Rattle.std.specs.Prelude.{ℕ, ◌+◌, ◌-◌, ◌==◌, ◌||◌, ◌^◌, nat_lt, List, [], ◌∷◌, ◌++◌, Option, Some, None, codes, length, take, if◌then◌else◌}
use Rattle.netlink_family.specs.ByteLines.{block_lines_at, field_lines_at}
use Rattle.netlink_family.specs.Shapes.{Field, Row, named, nest_levels}
use Rattle.netlink_family.specs.declared.error.FamilyError.{FamilyError}
use Rattle.netlink_family.specs.declared.error.FamilyError.TheVariants.{HeaderShort, InvalidAttribute, UnknownType}
use Rattle.netlink_family.specs.declared.shape.Shape.TheVariants.{I32, U16, U32}
use Rattle.netlink_packet_core.specs.Header.{header_of, payload_of}
use Rattle.netlink_replies.specs.Meaning.{meaning}
use Rattle.netlink_lines.specs.Ack.{ack_attributes}
use Rattle.netlink_lines.specs.Check.{Check}
use Rattle.netlink_lines.specs.Families.{is_foreign}
use Rattle.netlink_lines.specs.Options.{Lines}
use Rattle.netlink_lines.specs.Requests.{is_dump}
use Rattle.netlink_lines.specs.declared.ack_table.TheConstants.{ROWS}
use Rattle.netlink_lines.specs.declared.options.Options.{Options}
use Rattle.netlink_input.specs.declared.time.Time.{Time}

-- struct nlmsghdr of linux/netlink.h
abbrev pub header_fields : List Field
header_fields =
    (codes "nlmsg_len", 0, U32) ∷ (codes "nlmsg_type", 4, U16) ∷ (codes "nlmsg_flags", 6, U16)
    ∷ (codes "nlmsg_seq", 8, U32) ∷ (codes "nlmsg_pid", 12, U32) ∷ []

-- struct nlmsgerr, which has the header of the request
abbrev pub error_fields : List Field
error_fields =
    (codes "error", 0, I32) ∷ (codes "msg.nlmsg_len", 4, U32) ∷ (codes "msg.nlmsg_type", 8, U16)
    ∷ (codes "msg.nlmsg_flags", 10, U16) ∷ (codes "msg.nlmsg_seq", 12, U32) ∷ (codes "msg.nlmsg_pid", 16, U32) ∷ []

-- the code of a done message
abbrev pub done_fields : List Field
done_fields = (codes "error", 0, I32) ∷ []

-- the fields of a payload that no family describes, by its message type
abbrev pub own_fields : ℕ → List Field
own_fields t = if t == 2 then error_fields else if t == 3 then done_fields else []

-- the offset of the error of a payload, in a frame; a payload has fewer than 2^32 bytes
abbrev pub fault_of : FamilyError → Option ℕ
fault_of (HeaderShort expected received) = Some 16
fault_of (InvalidAttribute error) = if nat_lt error.offset (2 ^ 32) then Some (16 + error.offset) else None
fault_of _ = None

-- the rows of an extended acknowledgement
abbrev pub ack_rows : List Row
ack_rows = named ROWS.now (λ name. name.now)

-- the lines of a payload that no family describes, before these attributes of an extended acknowledgement
abbrev pub own_bytes : ℕ → List ℕ → List ℕ → List ℕ
own_bytes t payload attributes =
    field_lines_at None (own_fields t) 16 0 (take (length payload - length attributes) payload)
    ++ block_lines_at None nest_levels ack_rows 0 0 (16 + length payload) attributes

-- the same of a frame
abbrev pub told_bytes : List ℕ → List ℕ
told_bytes frame = own_bytes (header_of frame).message_type (payload_of frame) (ack_attributes (meaning frame))

-- the lines of the payload in a frame that a family rejects with this error
abbrev pub rejected_bytes : Check → List ℕ → FamilyError → List ℕ
rejected_bytes check frame (UnknownType other) = told_bytes frame
rejected_bytes check frame error =
    if is_dump (header_of frame).flags (header_of frame).message_type
    || is_foreign (header_of frame).message_type (payload_of frame)
    then told_bytes frame
    else check.bytes (header_of frame).message_type (fault_of error) 16 (payload_of frame)

-- the lines of the payload in a frame, by its error, if it has one
abbrev pub payload_bytes : Check → List ℕ → Option FamilyError → List ℕ
payload_bytes check frame None = check.bytes (header_of frame).message_type None 16 (payload_of frame)
payload_bytes check frame (Some error) = rejected_bytes check frame error

-- the lines of the bytes of a frame
abbrev pub frame_bytes : Check → List ℕ → List ℕ
frame_bytes check frame =
    field_lines_at None header_fields 0 0 (take 16 frame)
    ++ payload_bytes check frame (check.error (header_of frame).message_type (payload_of frame))

-- lines with those of bytes after them
abbrev pub followed : List ℕ → Lines → Lines
followed bytes (text, malformed) = (text ++ bytes, malformed)

-- the same, unless the message is a time, which has no lines
abbrev pub unless_bytes : Option Time → List ℕ → Lines → Lines
unless_bytes None bytes lines = followed bytes lines
unless_bytes (Some time) bytes lines = lines

-- the lines of a message, and those of its bytes after them if that is asked for
abbrev pub with_bytes : Options → Option Time → List ℕ → Lines → Lines
with_bytes options time bytes lines = if options.bytes then unless_bytes time bytes lines else lines
