-- What the kernel says in an error or done message, and the mark of an interrupted dump.
use Rattle.std.specs.Prelude.{ℕ, ◌≡◌, Bool, List, [], ◌++◌, Option, Some, None, Ok, codes, if◌then◌else◌, option_and_then}
use Rattle.std.specs.Option.{option_map}
use Rattle.netlink_packet_core.specs.Attribute.{Attribute}
use Rattle.netlink_packet_core.specs.DecodeError.{DecodeError}
use Rattle.netlink_packet_core.specs.Walk.{Walk}
use Rattle.netlink_packet_core.specs.declared.constants.TheConstants.{NLM_F_DUMP_INTR}
use Rattle.netlink_replies.specs.AckValues.{first_value, number_of_value, without_nul}
use Rattle.netlink_replies.specs.Headers.{has_flag}
use Rattle.netlink_replies.specs.Meaning.{Item}
use Rattle.netlink_replies.specs.declared.reply.Reply.TheVariants.{Done, Acknowledged, Rejected}
use Rattle.netlink_words.specs.Text.{sentence_text}
use Rattle.netlink_lines.specs.Concern.{IsPlace, missing_words}

-- the attributes of an extended acknowledgement in what a frame means; other frames have none
abbrev pub ack_attributes : Option Item → List ℕ
ack_attributes (Some (Ok (Done code attributes))) = attributes
ack_attributes (Some (Ok (Acknowledged attributes))) = attributes
ack_attributes (Some (Ok (Rejected code request attributes))) = attributes
ack_attributes _ = []

-- the request, or its header, that an error refuses; nothing for other frames
abbrev pub ack_request : Option Item → List ℕ
ack_request (Some (Ok (Rejected code request attributes))) = request
ack_request _ = []

-- the kernel's text after a colon, if there is one
abbrev pub text_words : Option (List ℕ) → List ℕ
text_words None = []
text_words (Some text) = codes ": " ++ sentence_text text

-- the value of the first `NLMSGERR_ATTR_MSG`, without a zero byte at its end
abbrev pub text_of : List Attribute → Option (List ℕ)
text_of all = option_map without_nul (first_value 1 all)

-- the number in the first attribute of a kind: `NLMSGERR_ATTR_OFFS` is 2, `NLMSGERR_ATTR_MISS_TYPE` 5 and
-- `NLMSGERR_ATTR_MISS_NEST` 6
abbrev pub number_of : ℕ → List Attribute → Option ℕ
number_of kind all = option_and_then number_of_value (first_value kind all)

-- what the attributes of an extended acknowledgement say in words: the kernel's text, where in the request the
-- attribute is that it complains of, and which is missing; attributes before an error count
abbrev pub IsSaid : List ℕ → List ℕ → List ℕ → Type 0
IsSaid attributes request words =
    (all : List Attribute) × (fault : Option DecodeError) × Walk attributes all fault
    × (place : List ℕ) × IsPlace (number_of 2 all) request place
    × (words ≡ text_words (text_of all) ++ (place ++ missing_words (number_of 5 all) (number_of 6 all)))

-- what a frame that means this says
abbrev pub IsWords : Option Item → List ℕ → Type 0
IsWords item words = IsSaid (ack_attributes item) (ack_request item) words

-- the flags are those of a message of an interrupted dump
abbrev pub is_interrupted : ℕ → Bool
is_interrupted flags = has_flag flags NLM_F_DUMP_INTR

-- the lines of a message with these flags, and whether it is malformed: a line precedes them if the
-- message is of an interrupted dump
abbrev pub marked_if : ℕ → List ℕ × Bool → List ℕ × Bool
marked_if flags (text, malformed) =
    (if is_interrupted flags then codes "interrupted\n" ++ text else text, malformed)
