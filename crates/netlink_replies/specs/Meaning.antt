-- What one frame means, by the type in its header (NLMSG_NOOP to NLMSG_OVERRUN of linux/netlink.h).
use Rattle.std.specs.Prelude.{ℕ, nat_eq, nat_lt, true, if◌then◌else◌, List, [], length, drop, Option, Some, None, Result, Ok, Err, pos}
use denote.Ref.{Bor}
use Rattle.netlink_packet_core.specs.DecodeError.{DecodeError}
use Rattle.netlink_packet_core.specs.Header.{field, header_of, payload_of}
use Rattle.netlink_packet_core.specs.declared.constants.TheConstants.{NLMSG_DONE, NLMSG_ERROR, NLMSG_NOOP, NLMSG_OVERRUN}
use Rattle.netlink_packet_core.specs.Numbers.{signed}
use Rattle.netlink_packet_core.specs.DecodeError.TheVariants.{DoneShort, ErrorShort}
use Rattle.netlink_replies.specs.Bodies.{done_attributes, error_attributes, request_of}
use Rattle.netlink_replies.specs.declared.reply.Reply.{Reply}
use Rattle.netlink_replies.specs.declared.reply.Reply.TheVariants.{Message, Done, Acknowledged, Rejected, Overrun, Other}

-- an item of an answer: a reply, or an error
abbrev pub Item : Type 0
Item = Result (Reply (List ℕ)) DecodeError

-- what an error message means, from its flags and its payload
abbrev pub error_item : ℕ → List ℕ → Item
error_item flags payload =
    if nat_lt (length payload) 4 then Err (ErrorShort (length payload) true)
    else if nat_eq (field 0 4 payload) 0
    then Ok (Acknowledged (error_attributes flags (drop 4 payload)))
    else Ok (Rejected (signed 4 (field 0 4 payload)) (request_of flags (drop 4 payload))
    (error_attributes flags (drop 4 payload)))

-- what a done message means; an empty payload means code 0
abbrev pub done_item : ℕ → List ℕ → Item
done_item flags payload =
    if nat_eq (length payload) 0 then Ok (Done (pos 0) [])
    else if nat_lt (length payload) 4 then Err (DoneShort (length payload) true)
    else Ok (Done (signed 4 (field 0 4 payload)) (done_attributes flags (drop 4 payload)))

-- what a frame of the answer means; a noop means nothing
abbrev pub meaning : List ℕ → Option Item
meaning frame =
    if nat_eq (header_of frame).message_type NLMSG_NOOP then None
    else if nat_eq (header_of frame).message_type NLMSG_ERROR
    then Some (error_item (header_of frame).flags (payload_of frame))
    else if nat_eq (header_of frame).message_type NLMSG_DONE
    then Some (done_item (header_of frame).flags (payload_of frame))
    else if nat_eq (header_of frame).message_type NLMSG_OVERRUN then Some (Ok Overrun)
    else Some (Ok (Message frame))

-- what a frame that is no part of the answer means; a noop means nothing
abbrev pub other : List ℕ → Option Item
other frame =
    if nat_eq (header_of frame).message_type NLMSG_NOOP then None else Some (Ok (Other frame))

-- a reply with the bytes that its references point to
abbrev pub shown : Reply (Bor (List ℕ)) → Reply (List ℕ)
shown (Message frame) = Message frame.now
shown (Done code attributes) = Done code attributes.now
shown (Acknowledged attributes) = Acknowledged attributes.now
shown (Rejected code request attributes) = Rejected code request.now attributes.now
shown Overrun = Overrun
shown (Other frame) = Other frame.now

-- the same for what a call returns
abbrev pub shown_result : Result (Reply (Bor (List ℕ))) DecodeError → Item
shown_result (Ok reply) = Ok (shown reply)
shown_result (Err error) = Err error

abbrev pub shown_item : Option (Result (Reply (Bor (List ℕ))) DecodeError) → Option Item
shown_item None = None
shown_item (Some item) = Some (shown_result item)
