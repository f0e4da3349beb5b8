-- A reply as numbers and parts of the datagram.
use Rattle.std.specs.Prelude.{ℕ, ℤ, ◌≡◌, ◌+◌, ◌≤◌, List, [], drop, pos, Some, Ok}
use Rattle.netlink_replies.specs.Answers.{after, item_of}
use Rattle.netlink_replies.specs.Reads.{Gives}
use Rattle.netlink_replies.specs.declared.replies.Replies.{Replies}
use Rattle.netlink_replies.specs.declared.reply.Reply.{Reply}
use Rattle.netlink_replies.specs.declared.reply.Reply.TheVariants.{Message, Done, Acknowledged, Rejected, Overrun, Other}
use Rattle.netlink_c.specs.Parts.{part_of}
use Rattle.netlink_c.specs.Steps.{StartsFrameAt}
use Rattle.netlink_c.specs.declared.reply_item.ReplyItem.{ReplyItem}

-- which variant it is, from 1 on
abbrev pub what_of : Reply (List ℕ) → ℕ
what_of (Message frame) = 1
what_of (Done code attributes) = 2
what_of (Acknowledged attributes) = 3
what_of (Rejected code request attributes) = 4
what_of Overrun = 5
what_of (Other frame) = 6

-- its code, or 0
abbrev pub code_of : Reply (List ℕ) → ℤ
code_of (Message frame) = pos 0
code_of (Done code attributes) = code
code_of (Acknowledged attributes) = pos 0
code_of (Rejected code request attributes) = code
code_of Overrun = pos 0
code_of (Other frame) = pos 0

-- its request, or no bytes
abbrev pub request_in : Reply (List ℕ) → List ℕ
request_in (Message frame) = []
request_in (Done code attributes) = []
request_in (Acknowledged attributes) = []
request_in (Rejected code request attributes) = request
request_in Overrun = []
request_in (Other frame) = []

-- where the request is in the frame: after the header and the code
abbrev pub request_start : Reply (List ℕ) → ℕ
request_start (Message frame) = 0
request_start (Done code attributes) = 0
request_start (Acknowledged attributes) = 0
request_start (Rejected code request attributes) = 20
request_start Overrun = 0
request_start (Other frame) = 0

-- its attributes, or no bytes
abbrev pub attributes_in : Reply (List ℕ) → List ℕ
attributes_in (Message frame) = []
attributes_in (Done code attributes) = attributes
attributes_in (Acknowledged attributes) = attributes
attributes_in (Rejected code request attributes) = attributes
attributes_in Overrun = []
attributes_in (Other frame) = []

-- The numbers and the parts are those of the reply. The request starts where it does in the frame,
-- and the attributes end with the frame.
pub record ShowsReply (bytes : List ℕ) (item : ReplyItem) (r : Reply (List ℕ)) : Type 0 where
  pub what : item.what ≡ what_of r
  pub code : item.code ≡ code_of r
  pub request : part_of item.request bytes ≡ request_in r
  pub request_at : item.request.offset ≡ item.frame.offset + request_start r
  pub request_inside : item.request.offset + item.request.size
      ≤ item.frame.offset + item.frame.size
  pub attributes : part_of item.attributes bytes ≡ attributes_in r
  pub attributes_end : item.attributes.offset + item.attributes.size
      ≡ item.frame.offset + item.frame.size

-- A call in a state, at an offset of the datagram, returns this reply, and leaves a state and an
-- offset. The reply is the first item of the reading, and the frame is the one that means it: before
-- it are only noops, and after it comes the rest.
pub record GivesReply (s : Replies) (bytes : List ℕ) (at : ℕ) (item : ReplyItem) (t : Replies)
    (next : ℕ) : Type 0 where
  pub reply : Reply (List ℕ)
  pub gives : Gives s (drop at bytes) (Some (Ok reply)) t (drop next bytes)
  pub shows : ShowsReply bytes item reply
  pub later : at ≤ item.frame.offset
  pub starts : StartsFrameAt bytes item.frame.offset item.frame next
  pub before : Replies
  pub means : item_of before (part_of item.frame bytes) ≡ Some (Ok reply)
  pub state : t ≡ after before (part_of item.frame bytes)
