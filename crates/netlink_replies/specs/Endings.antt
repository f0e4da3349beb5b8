-- The end of an answer, the frames up to it, and the items that are not of other answers.
use Rattle.std.specs.Prelude.{ℕ, Bool, true, ◌&&◌, if◌then◌else◌, List, [], ◌∷◌, Option, Ok}
use Rattle.netlink_packet_core.specs.Header.{header_of}
use Rattle.netlink_packet_core.specs.declared.constants.TheConstants.{NLM_F_DUMP_INTR}
use Rattle.netlink_replies.specs.Answers.{belongs, ends}
use Rattle.netlink_replies.specs.Headers.{has_flag}
use Rattle.netlink_replies.specs.Meaning.{Item, meaning, other}
use Rattle.netlink_replies.specs.declared.reply.Reply.TheVariants.{Other}
use Rattle.netlink_replies.specs.declared.request.Request.{Request}

-- the frame ends the answer, if the answer is open before it
abbrev pub is_end : Request → List ℕ → Bool
is_end r frame = belongs r frame && ends r (header_of frame).flags (meaning frame)

-- what the frame means while the answer is open
abbrev pub open_item : Request → List ℕ → Option Item
open_item r frame = if belongs r frame then meaning frame else other frame

-- the frames of the answer, up to its end
abbrev pub answer_of : Request → List (List ℕ) → List (List ℕ)
answer_of r [] = []
answer_of r (frame ∷ more) =
    if belongs r frame
    then frame ∷ (if ends r (header_of frame).flags (meaning frame) then [] else answer_of r more)
    else answer_of r more

-- the frame is of a dump that was interrupted (`nl_dump_check_consistent` of net/netlink.h)
abbrev pub has_interruption : List ℕ → Bool
has_interruption frame = has_flag (header_of frame).flags NLM_F_DUMP_INTR

-- the item is not a frame with other numbers than the request's
abbrev pub is_own : Request → Item → Bool
is_own r (Ok (Other frame)) = belongs r frame
is_own r _ = true
