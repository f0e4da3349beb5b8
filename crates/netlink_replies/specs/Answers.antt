-- Which frames answer a request, and which frame ends the answer. docs/DECISIONS.md has the cases in
-- which libmnl, libnl and mdlayher/netlink do something else.
use Rattle.std.specs.Prelude.{ℕ, Bool, true, false, not, ◌&&◌, ◌||◌, nat_eq, if◌then◌else◌, List, [], ◌∷◌, ◌++◌, Option, Some, None, Ok, Err}
use Rattle.std.specs.List.{cons_option}
use Rattle.netlink_packet_core.specs.DecodeError.{DecodeError}
use Rattle.netlink_packet_core.specs.Header.{header_of}
use Rattle.netlink_packet_core.specs.declared.constants.TheConstants.{NLM_F_DUMP_INTR, NLM_F_MULTIPART}
use Rattle.netlink_replies.specs.Headers.{has_flag}
use Rattle.netlink_replies.specs.Meaning.{Item, meaning, other}
use Rattle.netlink_replies.specs.declared.replies.Replies.{Replies}
use Rattle.netlink_replies.specs.declared.reply.Reply.TheVariants.{Message, Done, Acknowledged, Rejected}
use Rattle.netlink_replies.specs.declared.request.Request.{Request}

-- the frame has the numbers of the request; a request with port number 0 accepts every port number
-- (`mnl_nlmsg_seq_ok` and `mnl_nlmsg_portid_ok` of libmnl, which also accept a number 0 in the frame)
abbrev pub belongs : Request → List ℕ → Bool
belongs r frame =
    nat_eq (header_of frame).sequence_number r.sequence_number
    && (nat_eq r.port_number 0 || nat_eq (header_of frame).port_number r.port_number)

-- a frame of the answer with these flags and this meaning ends it: done and errors as in `mnl_cb_run`;
-- an acknowledgement as in `netlink_ack` of net/netlink/af_netlink.c, which sends none for a dump; a
-- message without NLM_F_MULTI (linux/netlink.h: a multipart message, terminated by NLMSG_DONE)
abbrev pub ends : Request → ℕ → Option Item → Bool
ends r flags (Some (Ok (Done code attributes))) = true
ends r flags (Some (Ok (Rejected code request attributes))) = true
ends r flags (Some (Ok (Acknowledged attributes))) = not r.is_dump
ends r flags (Some (Ok (Message frame))) =
    not (r.is_dump || (r.wants_ack || has_flag flags NLM_F_MULTIPART))
ends r flags _ = false

-- the answer is open, and the frame is a part of it
abbrev pub concerns : Replies → List ℕ → Bool
concerns s frame = not s.ended && belongs s.request frame

-- what a frame means in a state, and the state after it
abbrev pub item_of : Replies → List ℕ → Option Item
item_of s frame = if concerns s frame then meaning frame else other frame

abbrev pub after : Replies → List ℕ → Replies
after s frame =
    if concerns s frame
    then record {
      request = s.request;
      ended = ends s.request (header_of frame).flags (meaning frame);
      interrupted = s.interrupted || has_flag (header_of frame).flags NLM_F_DUMP_INTR;
    }
    else s

-- the items of these frames, in order, and the state after them
abbrev pub answers_in : Replies → List (List ℕ) → List Item
answers_in s [] = []
answers_in s (frame ∷ more) = cons_option (item_of s frame) (answers_in (after s frame) more)

abbrev pub after_all : Replies → List (List ℕ) → Replies
after_all s [] = s
after_all s (frame ∷ more) = after_all (after s frame) more

-- the state in which nothing was read
abbrev pub waiting : Request → Replies
waiting r = record { request = r; ended = false; interrupted = false }

-- the state with these parts
abbrev pub resumed : Request → Bool → Bool → Replies
resumed r ended interrupted = record { request = r; ended = ended; interrupted = interrupted }

-- the items of a walk: those of its frames, and then its error
abbrev pub items_of : Replies → List (List ℕ) → Option DecodeError → List Item
items_of s frames None = answers_in s frames
items_of s frames (Some error) = answers_in s frames ++ (Err error ∷ [])

-- what callers see of a state
abbrev pub request_in : Replies → Request
request_in s = s.request

abbrev pub has_ended : Replies → Bool
has_ended s = s.ended

abbrev pub is_interrupted : Replies → Bool
is_interrupted s = s.interrupted
