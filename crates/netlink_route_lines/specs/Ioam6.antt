-- Encapsulation by IOAM (linux/ioam6.h, linux/ioam6_iptunnel.h).
use Rattle.std.specs.Prelude.{ℕ, ◌==◌, ◌≡◌, ◌&&◌, ◌+◌, ◌*◌, ◌%◌, not, List, [], ◌∷◌, ◌++◌, Option, Some, None, codes, decimal, if◌then◌else◌, length, nat_lt, slice_index}
use Rattle.netlink_family.specs.Finding.{shape_at}
use Rattle.netlink_family.specs.declared.block_view.BlockView.{BlockView}
use Rattle.netlink_family.specs.declared.shape.Shape.TheVariants.{U32, U8}
use Rattle.netlink_packet_core.specs.Text.{hex_pair}
use Rattle.netlink_route.specs.declared.encapsulations.TheConstants.{IOAM6_IPTUNNEL_DST, IOAM6_IPTUNNEL_FREQ_K, IOAM6_IPTUNNEL_FREQ_N, IOAM6_IPTUNNEL_MODE, IOAM6_IPTUNNEL_TRACE}
use Rattle.netlink_words.specs.Parts.{keyed, number_part}
use Rattle.netlink_words.specs.Text.{ip_words}
use Rattle.netlink_route_lines.specs.Values.{byte_of, number_of, value_of}

-- IOAM6_IPTUNNEL_MODE_* of linux/ioam6_iptunnel.h
unfoldable pub insertion_name : ℕ → List ℕ
insertion_name n =
    if n == 1 then codes "inline" else if n == 2 then codes "encap" else if n == 3 then codes "auto" else codes "<unknown>"

-- the type of a trace, 3 bytes
unfoldable pub type_text : ℕ → ℕ → ℕ → List ℕ
type_text first second third =
    codes "trace prealloc type 0x" ++ (hex_pair first ++ (hex_pair second ++ hex_pair third))

-- a `struct ioam6_trace_hdr`: the type; the namespace, 2 bytes; and the room that is left, in words
-- of 4 bytes
unfoldable pub trace_parts : List ℕ → List (List ℕ)
trace_parts trace =
    type_text (slice_index trace 4) (slice_index trace 5) (slice_index trace 6)
    ∷ number_part (codes "ns") (Some (slice_index trace 0 * 256 + slice_index trace 1))
    ∷ number_part (codes "size") (Some (slice_index trace 3 % 128 * 4)) ∷ []

-- the destination, except for the mode `inline`
abbrev pub destination_part : ℕ → List ℕ → List ℕ
destination_part mode to = if mode == 1 then [] else keyed (codes "tundst") (ip_words to)

-- another mode than `inline` has a destination
unfoldable pub insertion_parts : ℕ → List ℕ → List ℕ → List (List ℕ)
insertion_parts mode to trace =
    if not (mode == 1) && length to == 0 then []
    else keyed (codes "mode") (insertion_name mode) ∷ destination_part mode to ∷ trace_parts trace

-- the packets that get a trace: so many of so many
unfoldable pub frequency_text : ℕ → ℕ → List ℕ
frequency_text k n = codes "freq " ++ (decimal k ++ (codes "/" ++ decimal n))

-- nothing, unless there are two frequencies, a mode and a trace
unfoldable pub ioam6_words : Option ℕ → Option ℕ → Option ℕ → List ℕ → List ℕ → List (List ℕ)
ioam6_words None n mode to trace = []
ioam6_words (Some k) None mode to trace = []
ioam6_words (Some k) (Some n) None to trace = []
ioam6_words (Some k) (Some n) (Some mode) to trace =
    if nat_lt (length trace) 8 then [] else frequency_text k n ∷ insertion_parts mode to trace

unfoldable pub ioam6_parts : List ℕ → List (List ℕ)
ioam6_parts block =
    ioam6_words (number_of block IOAM6_IPTUNNEL_FREQ_K) (number_of block IOAM6_IPTUNNEL_FREQ_N) (byte_of block IOAM6_IPTUNNEL_MODE)
    (value_of block IOAM6_IPTUNNEL_DST) (value_of block IOAM6_IPTUNNEL_TRACE)

-- a view of the values of this type
abbrev pub IsIoam6 : BlockView → Type 0
IsIoam6 view =
    (shape_at view IOAM6_IPTUNNEL_FREQ_K ≡ U32) × (shape_at view IOAM6_IPTUNNEL_FREQ_N ≡ U32)
    × (shape_at view IOAM6_IPTUNNEL_MODE ≡ U8)
