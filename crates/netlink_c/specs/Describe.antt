-- A frame as text.
use Rattle.std.specs.Prelude.{ℕ, ◌+◌, List, [], ◌∷◌, ◌++◌, Option, Some, None, codes, decimal, drop, length, nat_lt, take, if◌then◌else◌}
use Rattle.netlink_packet_core.specs.Attribute.{Attribute, padded_size}
use Rattle.netlink_packet_core.specs.DecodeError.{DecodeError}
use Rattle.netlink_packet_core.specs.Header.{header_lines, header_of, payload_of}
use Rattle.netlink_packet_core.specs.Text.{hex_text}
use Rattle.netlink_packet_core.specs.Views.{masked}
use Rattle.netlink_c.specs.Messages.{fixed_part}

-- the lines of the header, and then the name of the bytes that follow
abbrev pub text_before : List ℕ → List ℕ → List ℕ
text_before name frame = header_lines (header_of frame) ++ name

-- bytes in hexadecimal, and a line feed, 10
abbrev pub bytes_line : List ℕ → List ℕ
bytes_line bytes = hex_text bytes ++ (10 ∷ [])

-- the six lines of a frame
abbrev pub frame_text : List ℕ → List ℕ
frame_text frame = text_before (codes "payload ") frame ++ bytes_line (payload_of frame)

-- the two flag bits of a kind: `N` if the value is a nest, `B` if it is in network byte order
abbrev pub flags_text : ℕ → List ℕ
flags_text kind =
    if nat_lt kind 16384 then codes " -- "
    else if nat_lt kind 32768 then codes " -B "
    else if nat_lt kind 49152 then codes " N- "
    else codes " NB "

-- the line of an attribute: its kind without the flag bits, these, its length field, and its value
abbrev pub attribute_line : Attribute → List ℕ
attribute_line a =
    codes "attribute "
    ++ (decimal (masked a.kind)
    ++ (flags_text a.kind ++ (decimal (4 + length a.value) ++ (codes " " ++ bytes_line a.value))))

-- the lines of these attributes, with which the bytes begin, and then a line of the bytes that are
-- left, if an error ends the walk
abbrev pub walk_lines : List ℕ → List Attribute → Option DecodeError → List ℕ
walk_lines bytes [] None = []
walk_lines bytes [] (Some e) = codes "rest " ++ bytes_line bytes
walk_lines bytes (a ∷ more) end = attribute_line a ++ walk_lines (drop (padded_size a) bytes) more end

-- what follows a fixed header of this size and its padding in the payload of a frame
abbrev pub attributes_after : ℕ → List ℕ → List ℕ
attributes_after fixed payload = drop (fixed_part fixed (length payload)) payload

-- the lines of a frame whose payload has a fixed header of this size, and then these attributes
abbrev pub message_text : ℕ → List ℕ → List Attribute → Option DecodeError → List ℕ
message_text fixed frame all end =
    text_before (codes "header ") frame
    ++ (bytes_line (take (fixed_part fixed (length (payload_of frame))) (payload_of frame))
    ++ walk_lines (attributes_after fixed (payload_of frame)) all end)
