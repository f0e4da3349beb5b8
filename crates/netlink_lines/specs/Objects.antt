-- The object of JSON that a message is shown as.
use Rattle.std.specs.Prelude.{ℕ, ℤ, ◌≡◌, ◌==◌, ◌||◌, Bool, true, false, List, [], ◌∷◌, ◌++◌, drop, length, Option, Some, None, Ok, Err, codes, pos, unsigned_abs, if◌then◌else◌}
use Rattle.netlink_family.specs.ErrorTexts.{error_text}
use Rattle.netlink_family.specs.declared.error.FamilyError.{FamilyError}
use Rattle.netlink_family.specs.declared.error.FamilyError.TheVariants.{UnknownType}
use Rattle.netlink_json.specs.Fields.{AddsParts, Field, Written, no_field, object_text, present, with_parts}
use Rattle.netlink_json.specs.declared.object.Object.{Object}
use Rattle.netlink_json.specs.Json.{boolean, number, signed, text}
use Rattle.netlink_objects.specs.Forms.{when_json, word_json}
use Rattle.netlink_objects.specs.Rows.{field_of}
use Rattle.netlink_packet_core.specs.Causes.{cause_text}
use Rattle.netlink_packet_core.specs.Header.{header_of, payload_of}
use Rattle.netlink_packet_core.specs.Refusal.{refusal_text}
use Rattle.netlink_replies.specs.Meaning.{Item, meaning}
use Rattle.netlink_replies.specs.declared.reply.Reply.TheVariants.{Message, Done, Acknowledged, Rejected, Overrun, Other}
use Rattle.netlink_lines.specs.Ack.{is_interrupted}
use Rattle.netlink_lines.specs.Check.{Check}
use Rattle.netlink_lines.specs.Families.{is_foreign}
use Rattle.netlink_lines.specs.Members.{message_name, route_parts}
use Rattle.netlink_lines.specs.Options.{Lines}
use Rattle.netlink_lines.specs.Requests.{is_dump, is_request}
use Rattle.netlink_lines.specs.SystemErrors.{error_name}
use Rattle.netlink_lines.specs.Time.{time_why}
use Rattle.netlink_names.specs.declared.device.Known.{Known}
use Rattle.netlink_input.specs.declared.time.Time.{Time}

-- members of several parts, and whether the message is malformed
abbrev pub Shown : Type 0
Shown = List (List Field) × Bool

-- an object has its old members and these parts, and the message is malformed or not
abbrev pub AddsShown : Object → Object → Bool → Shown → Type 0
AddsShown old new malformed shown = AddsParts old new shown.0 × (malformed ≡ shown.1)

-- an object as a line
abbrev pub lined : Written → Bool → Lines
lined so_far malformed = (object_text so_far ++ codes "\n", malformed)

-- the object of these parts, after some that come first, as a line
abbrev pub line_of : List (List Field) → Shown → Lines
line_of front shown = lined (with_parts (with_parts no_field front) shown.0) shown.1

-- the header of a message
abbrev pub header_fields : List ℕ → List Field
header_fields frame =
    present (codes "nlmsg_flags") (number (header_of frame).flags)
    ∷ present (codes "nlmsg_seq") (number (header_of frame).sequence_number)
    ∷ present (codes "nlmsg_pid") (number (header_of frame).port_number) ∷ []

-- a time before a message, in two members
abbrev pub time_fields : Option Time → List Field
time_fields None = []
time_fields (Some time) =
    present (codes "sec") (number time.seconds) ∷ present (codes "usec") (number time.micros) ∷ []

-- the mark of an interrupted dump
abbrev pub interrupted_fields : ℕ → List Field
interrupted_fields flags = field_of (codes "interrupted") (when_json (is_interrupted flags) (boolean true)) ∷ []

abbrev pub front_parts : Option Time → List ℕ → List (List Field)
front_parts time frame = time_fields time ∷ interrupted_fields (header_of frame).flags ∷ []

-- ---- a message by itself

-- one without members of its own, by its type and its length field
abbrev pub type_parts : List ℕ → List (List Field)
type_parts frame =
    (present (codes "type") (number (header_of frame).message_type)
    ∷ present (codes "bytes") (number (length frame)) ∷ [])
    ∷ header_fields frame ∷ []

-- something malformed at this offset, with its error
abbrev pub bad_fields : ℕ → List ℕ → List Field
bad_fields at why = present (codes "byte") (number at) ∷ present (codes "error") (text why) ∷ []

abbrev pub bad_parts : ℕ → List ℕ → List ℕ → Shown
bad_parts at frame why = (bad_fields at why ∷ header_fields frame ∷ [], true)

-- a control message by its name
abbrev pub named_parts : List ℕ → List ℕ → List (List Field)
named_parts frame name = (present (codes "message") (text name) ∷ []) ∷ header_fields frame ∷ []

-- an error or done message: its code, the name of the error, and what the kernel says
abbrev pub control_parts : List ℕ → List ℕ → ℤ → List ℕ → List (List Field)
control_parts frame name code words =
    (present (codes "message") (text name) ∷ [])
    ∷ header_fields frame
    ∷ (present (codes "code") (signed code)
    ∷ field_of (codes "strerror") (word_json (error_name (unsigned_abs code)))
    ∷ field_of (codes "text") (word_json (drop 2 words)) ∷ []) ∷ []

-- a message of a family, by the name of its type and its members; one without a name has no members of its own
abbrev pub request_field : List ℕ → Field
request_field frame =
    field_of (codes "request") (when_json (is_request (header_of frame).flags (header_of frame).message_type) (boolean true))

abbrev pub parts_by : List ℕ → List ℕ → List (List Field) → List (List Field)
parts_by frame [] parts = type_parts frame
parts_by frame (b ∷ name) parts =
    (present (codes "message") (text (b ∷ name)) ∷ []) ∷ header_fields frame ∷ (request_field frame ∷ []) ∷ parts

abbrev pub message_parts : List ℕ → List (List Field) → List (List Field)
message_parts frame parts = parts_by frame (message_name (header_of frame).message_type) parts

abbrev pub error_parts : ℕ → List ℕ → FamilyError → Shown
error_parts at frame (UnknownType other) = (type_parts frame, false)
error_parts at frame error = bad_parts at frame (refusal_text (header_of frame).message_type (error_text error))

abbrev pub rejected_parts : ℕ → List ℕ → FamilyError → Shown
rejected_parts at frame error =
    if is_dump (header_of frame).flags (header_of frame).message_type
    || is_foreign (header_of frame).message_type (payload_of frame)
    then (type_parts frame, false) else error_parts at frame error

abbrev pub family_parts : List Known → ℕ → List ℕ → Option FamilyError → Shown
family_parts known at frame None =
    (message_parts frame (route_parts known ((header_of frame).message_type, payload_of frame)), false)
family_parts known at frame (Some error) = rejected_parts at frame error

-- one whose type is that of a time, but whose payload is none
abbrev pub own_parts : Check → List Known → ℕ → List ℕ → Shown
own_parts check known at frame =
    if (header_of frame).message_type == 15 then bad_parts at frame (refusal_text 15 (time_why (payload_of frame)))
    else family_parts known at frame (check.error (header_of frame).message_type (payload_of frame))

-- a frame by what it means, and by what the kernel says in it
abbrev pub item_parts : Check → List Known → ℕ → List ℕ → List ℕ → Option Item → Shown
item_parts check known at frame words None = (named_parts frame (codes "NLMSG_NOOP"), false)
item_parts check known at frame words (Some (Err error)) = bad_parts at frame (cause_text error)
item_parts check known at frame words (Some (Ok (Done code attributes))) =
    (control_parts frame (codes "NLMSG_DONE") code words, false)
item_parts check known at frame words (Some (Ok (Acknowledged attributes))) =
    (control_parts frame (codes "NLMSG_ERROR") (pos 0) words, false)
item_parts check known at frame words (Some (Ok (Rejected code request attributes))) =
    (control_parts frame (codes "NLMSG_ERROR") code words, false)
item_parts check known at frame words (Some (Ok Overrun)) = (named_parts frame (codes "NLMSG_OVERRUN"), false)
item_parts check known at frame words (Some (Ok (Message whole))) = own_parts check known at frame
item_parts check known at frame words (Some (Ok (Other whole))) = own_parts check known at frame

-- the object of the frame of a message at this offset, after this time, by the known names of links and what the
-- kernel says in it
abbrev pub frame_object : Check → List Known → Option Time → ℕ → List ℕ → List ℕ → Lines
frame_object check known time at frame words =
    line_of (front_parts time frame) (item_parts check known at frame words (meaning frame))

-- ---- packets

-- something malformed at this offset that is no message, and a datagram of another netlink family
abbrev pub bad_object : ℕ → List ℕ → Lines
bad_object at why = line_of [] (bad_fields at why ∷ [], true)

abbrev pub netlink_fields : ℕ → ℕ → List Field
netlink_fields n size = present (codes "netlink_family") (number n) ∷ present (codes "bytes") (number size) ∷ []

abbrev pub family_object : ℕ → ℕ → Lines
family_object n size = line_of [] (netlink_fields n size ∷ [], false)
