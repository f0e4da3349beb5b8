-- What a message is shown as.
use Rattle.std.specs.Prelude.{ℕ, ◌≡◌, ◌==◌, ◌||◌, ◌&&◌, not, Bool, true, false, List, [], ◌++◌, length, Option, Some, None, Ok, Err, codes, decimal, pos, if◌then◌else◌}
use Rattle.netlink_family.specs.ErrorTexts.{error_text}
use Rattle.netlink_family.specs.declared.error.FamilyError.{FamilyError}
use Rattle.netlink_family.specs.declared.error.FamilyError.TheVariants.{UnknownType}
use Rattle.netlink_packet_core.specs.Causes.{cause_text}
use Rattle.netlink_packet_core.specs.Header.{header_of, payload_of}
use Rattle.netlink_packet_core.specs.Refusal.{refusal_text}
use Rattle.netlink_replies.specs.Meaning.{Item, meaning}
use Rattle.netlink_replies.specs.declared.reply.Reply.TheVariants.{Message, Done, Acknowledged, Rejected, Overrun, Other}
use Rattle.netlink_lines.specs.Ack.{IsWords, marked_if}
use Rattle.netlink_lines.specs.Bytes.{frame_bytes, with_bytes}
pub use Rattle.netlink_lines.specs.Check.{Check}
pub use Rattle.netlink_lines.specs.Options.{Lines}
use Rattle.netlink_lines.specs.Families.{is_foreign}
use Rattle.netlink_lines.specs.Lines.{done_line, error_line, known_by, route_line}
use Rattle.netlink_lines.specs.Options.{labelled}
use Rattle.netlink_lines.specs.Objects.{frame_object}
use Rattle.netlink_lines.specs.Requests.{asked_line, is_dump, is_request}
use Rattle.netlink_lines.specs.Time.{time_in, time_text, time_why}
use Rattle.netlink_names.specs.declared.device.Known.{Known}
use Rattle.netlink_lines.specs.declared.options.Options.{Options}
use Rattle.netlink_lines.specs.declared.state.State.{State}
use Rattle.netlink_input.specs.declared.time.Time.{Time}

abbrev pub good : List ℕ → Lines
good text = (text, false)

-- a malformed message at this offset, with its error
abbrev pub bad : ℕ → List ℕ → Lines
bad at why = (codes "byte " ++ (decimal at ++ (codes ": " ++ (why ++ codes "\n"))), true)

-- a message without a line of its own, by its type and its length field
abbrev pub type_line : ℕ → ℕ → List ℕ
type_line t size =
    codes "type " ++ (decimal t ++ (codes ", " ++ (decimal size ++ codes " bytes\n")))

-- a message by its flags, type, size and payload, and by the line of such a message that is no request, if it has one
abbrev pub line_or_type : Options → ℕ → ℕ → ℕ → List ℕ → Option (List ℕ) → List ℕ
line_or_type options flags t size payload (Some line) = labelled options t payload (asked_line flags t line)
line_or_type options flags t size payload None = type_line t size

-- a message whose payload has this error, by the offset, type and size of the message
abbrev pub error_lines : ℕ → ℕ → ℕ → FamilyError → Lines
error_lines at t size (UnknownType other) = good (type_line t size)
error_lines at t size error = bad at (refusal_text t (error_text error))

-- a message whose family rejects its payload with this error, by its offset and its frame
abbrev pub rejected_lines : ℕ → List ℕ → FamilyError → Lines
rejected_lines at frame error =
    if is_dump (header_of frame).flags (header_of frame).message_type
    || is_foreign (header_of frame).message_type (payload_of frame)
    then good (type_line (header_of frame).message_type (length frame))
    else error_lines at (header_of frame).message_type (length frame) error

-- a message of a family, by the known names of links, its offset and its frame, and by its payload's error
abbrev pub family_lines : Options → List Known → ℕ → List ℕ → Option FamilyError → Lines
family_lines options known at frame None =
    good (line_or_type options (header_of frame).flags (header_of frame).message_type (length frame) (payload_of frame)
    (route_line known ((header_of frame).message_type, payload_of frame)))
family_lines options known at frame (Some error) = rejected_lines at frame error

-- a message of type 15 at this offset, whose payload is no time
abbrev pub wrong_time : ℕ → List ℕ → Lines
wrong_time at payload =
    bad at (refusal_text 15 (time_why payload))

abbrev pub own_lines : Check → Options → List Known → ℕ → List ℕ → Lines
own_lines check options known at frame =
    if (header_of frame).message_type == 15 then wrong_time at (payload_of frame)
    else family_lines options known at frame (check.error (header_of frame).message_type (payload_of frame))

-- a frame by what it means, and by what the kernel says in it
abbrev pub item_lines : Check → Options → List Known → ℕ → List ℕ → List ℕ → Option Item → Lines
item_lines check options known at frame words None = good (codes "noop\n")
item_lines check options known at frame words (Some (Err error)) = bad at (cause_text error)
item_lines check options known at frame words (Some (Ok (Done code attributes))) = good (done_line code words)
item_lines check options known at frame words (Some (Ok (Acknowledged attributes))) = good (error_line (pos 0) words)
item_lines check options known at frame words (Some (Ok (Rejected code request attributes))) = good (error_line code words)
item_lines check options known at frame words (Some (Ok Overrun)) = good (codes "overrun\n")
item_lines check options known at frame words (Some (Ok (Message whole))) = own_lines check options known at frame
item_lines check options known at frame words (Some (Ok (Other whole))) = own_lines check options known at frame

-- the lines of the frame of a message at this offset, by the known names of links and what the kernel
-- says in it
abbrev pub frame_lines : Check → Options → List Known → ℕ → List ℕ → List ℕ → Lines
frame_lines check options known at frame words =
    marked_if (header_of frame).flags (item_lines check options known at frame words (meaning frame))

-- the frame of a message at this offset has these lines
abbrev pub HasLines : Check → Options → List Known → ℕ → List ℕ → Lines → Type 0
HasLines check options known at frame lines =
    (words : List ℕ) × IsWords (meaning frame) words
    × (lines ≡ frame_lines check options known at frame words)

-- ---- what the messages so far leave to the next

-- the time that precedes the next line, the names of links, what is printed besides the lines, and the time of
-- the packet, which precedes each of its lines
pub record Memory : Type 0 where
  pub time : Option Time
  pub known : List Known
  pub options : Options
  pub stamp : Option Time

abbrev pub memory_of : State → Memory
memory_of state =
    record { time = state.time; known = state.known; options = state.options; stamp = state.stamp }

-- no message so far
abbrev pub no_memory : Options → Memory
no_memory options = record { time = None; known = []; options = options; stamp = None }

-- messages with these flags and of this type tell the names of links
abbrev pub is_named : ℕ → ℕ → Bool
is_named flags t = (t == 16 || t == 17) && not (is_request flags t)

-- the memory before a packet with this time, which precedes each of its messages, if times are printed
abbrev pub stamped : Memory → Option Time → Memory
stamped memory time =
    if memory.options.times
    then record { time = time; known = memory.known; options = memory.options; stamp = time } else memory

-- the names of links after a message of this type and payload, by the payload's error
abbrev pub known_if : Option FamilyError → ℕ → List ℕ → List Known → List Known
known_if None t payload known = known_by (t, payload) known
known_if (Some error) t payload known = known

-- the names of links after the message in a frame
unfoldable pub known_after : Check → List ℕ → List Known → List Known
known_after check frame known =
    if is_named (header_of frame).flags (header_of frame).message_type
    then known_if (check.error (header_of frame).message_type (payload_of frame))
    (header_of frame).message_type (payload_of frame) known
    else known

-- lines after a time, if there is one
abbrev pub timed : Option Time → Lines → Lines
timed None lines = lines
timed (Some time) (text, malformed) = (time_text time ++ text, malformed)

-- a time has no line
abbrev pub unless_time : Option Time → Lines → Lines
unless_time None lines = lines
unless_time (Some time) lines = good []

-- ---- a message after others

-- a message as it is in the input: its offset, its frame and what the kernel says in it
pub record Seen : Type 0 where
  pub at : ℕ
  pub frame : List ℕ
  pub words : List ℕ

-- its lines without those of its bytes, by what the messages before it leave; the names of links are those after it
abbrev pub message_lines : Check → Memory → Seen → Lines
message_lines check memory seen =
    unless_time (time_in seen.frame)
    (timed memory.time
    (frame_lines check memory.options (known_after check seen.frame memory.known) seen.at seen.frame seen.words))

-- and with them, if they are asked for
abbrev pub all_lines : Check → Memory → Seen → Lines
all_lines check memory seen =
    with_bytes memory.options (time_in seen.frame) (frame_bytes check seen.frame) (message_lines check memory seen)

-- its object; that of a time is none
abbrev pub seen_object : Check → Memory → Seen → Lines
seen_object check memory seen =
    unless_time (time_in seen.frame)
    (frame_object check (known_after check seen.frame memory.known) memory.time seen.at seen.frame seen.words)

-- what is shown of it: its object, if objects are asked for, or its lines
abbrev pub seen_lines : Check → Memory → Seen → Lines
seen_lines check memory seen =
    if memory.options.json then seen_object check memory seen else all_lines check memory seen

-- the time in a message, or that of its packet
abbrev pub time_or : Option Time → Option Time → Option Time
time_or None stamp = stamp
time_or (Some time) stamp = Some time

-- what it leaves: a time is for the next message alone, that of a packet for each of its messages
abbrev pub memory_after : Check → Memory → Seen → Memory
memory_after check memory seen = record {
  time = time_or (time_in seen.frame) memory.stamp;
  known = known_after check seen.frame memory.known;
  options = memory.options;
  stamp = memory.stamp;
}

-- the frame of a message at this offset has these lines after others, and leaves this
abbrev pub Tells : Check → ℕ → List ℕ → Memory → Lines → Memory → Type 0
Tells check at frame memory lines after =
    (words : List ℕ) × IsWords (meaning frame) words
    × (lines ≡ seen_lines check memory (record { at = at; frame = frame; words = words }))
    × (after ≡ memory_after check memory (record { at = at; frame = frame; words = words }))

-- the same as its lines, as its object, and without the lines of its bytes
abbrev pub TellsLines : Check → ℕ → List ℕ → Memory → Lines → Memory → Type 0
TellsLines check at frame memory lines after =
    (words : List ℕ) × IsWords (meaning frame) words
    × (lines ≡ all_lines check memory (record { at = at; frame = frame; words = words }))
    × (after ≡ memory_after check memory (record { at = at; frame = frame; words = words }))

abbrev pub TellsObject : Check → ℕ → List ℕ → Memory → Lines → Memory → Type 0
TellsObject check at frame memory lines after =
    (words : List ℕ) × IsWords (meaning frame) words
    × (lines ≡ seen_object check memory (record { at = at; frame = frame; words = words }))
    × (after ≡ memory_after check memory (record { at = at; frame = frame; words = words }))

abbrev pub TellsMessage : Check → ℕ → List ℕ → Memory → Lines → Memory → Type 0
TellsMessage check at frame memory lines after =
    (words : List ℕ) × IsWords (meaning frame) words
    × (lines ≡ message_lines check memory (record { at = at; frame = frame; words = words }))
    × (after ≡ memory_after check memory (record { at = at; frame = frame; words = words }))
