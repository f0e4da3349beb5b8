-- The lines that the program prints. Each line ends with a line feed, 10.
use Rattle.std.specs.Prelude.{ℕ, ◌/◌, ◌%◌, List, [], ◌∷◌, ◌++◌, codes, decimal, length}
use Rattle.std.specs.Fmt.{signed_decimal}
use Rattle.netlink_packet_core.specs.Attribute.{Attribute}
use Rattle.netlink_packet_core.specs.Header.{field, header_lines}
use Rattle.netlink_packet_core.specs.Payload.{raw_code}
use Rattle.netlink_packet_core.specs.Text.{hex_pair, hex_text}
use Rattle.netlink_packet_core.specs.declared.payload.NetlinkPayload.{NetlinkPayload}
use Rattle.netlink_packet_core.specs.declared.payload.NetlinkPayload.TheVariants.{Done, Error, Noop, Overrun, InnerMessage}
use Rattle.netlink_packet_core.specs.declared.message.NetlinkMessage.{NetlinkMessage}
use Rattle.netlink_frame.specs.declared.ping_pong.PingPongMessage.{PingPongMessage}
use Rattle.netlink_frame.specs.declared.ping_pong.PingPongMessage.TheVariants.{Ping, Pong}

-- the name of a message of the protocol, and its bytes
abbrev pub inner_text : PingPongMessage → List ℕ
inner_text (Ping bytes) = codes "ping " ++ hex_text bytes.items
inner_text (Pong bytes) = codes "pong " ++ hex_text bytes.items

-- the name of a payload, and the code and the bytes that it has
abbrev pub payload_words : NetlinkPayload PingPongMessage → List ℕ
payload_words Noop = codes "noop"
payload_words (Done m) =
    codes "done " ++ (signed_decimal m.code ++ (codes " " ++ hex_text m.extended_ack.items))
payload_words (Error m) =
    codes "error " ++ (signed_decimal (raw_code m.code) ++ (codes " " ++ hex_text m.header.items))
payload_words (Overrun bytes) = codes "overrun " ++ hex_text bytes.items
payload_words (InnerMessage v) = inner_text v

-- the six lines of a message
abbrev pub message_lines : NetlinkMessage PingPongMessage → List ℕ
message_lines m =
    header_lines m.header ++ (codes "payload " ++ (payload_words m.payload ++ (10 ∷ [])))

-- a kind with the flags as four hexadecimal digits
abbrev pub kind_text : ℕ → List ℕ
kind_text kind = hex_pair (kind / 256) ++ hex_pair (kind % 256)

-- the line of an attribute: its kind, the size of its value in decimal, and the value
abbrev pub nla_line : Attribute → List ℕ
nla_line a =
    kind_text a.kind
    ++ (codes " " ++ (decimal (length a.value) ++ (codes " " ++ (hex_text a.value ++ (10 ∷ [])))))

-- the lines of attributes, one after another
abbrev pub nla_lines : List Attribute → List ℕ
nla_lines [] = []
nla_lines (a ∷ more) = nla_line a ++ nla_lines more

-- the line of a frame: its length and its type, in decimal
abbrev pub frame_line : List ℕ → List ℕ
frame_line frame =
    decimal (field 0 4 frame) ++ (codes " " ++ (decimal (field 4 2 frame) ++ (10 ∷ [])))

-- the lines of frames, one after another
abbrev pub frame_lines : List (List ℕ) → List ℕ
frame_lines [] = []
frame_lines (frame ∷ more) = frame_line frame ++ frame_lines more
