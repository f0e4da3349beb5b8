-- Where the frame of a reply is.
use Rattle.std.specs.Prelude.{ℕ, ◌≡◌, List, drop, Option}
use Rattle.netlink_packet_core.specs.FrameWalk.{StartsFrame}
use Rattle.netlink_replies.specs.Answers.{after, item_of}
use Rattle.netlink_replies.specs.Meaning.{Item}
use Rattle.netlink_replies.specs.declared.replies.Replies.{Replies}

-- From the offset `start` up to the offset `next`, the datagram is a frame and its padding. In some
-- state, the frame means this item and leaves this state.
pub record MeansFrame (datagram : List ℕ) (start : ℕ) (item : Option Item) (t : Replies)
    (next : ℕ) : Type 0 where
  pub frame : List ℕ
  pub starts : StartsFrame (drop start datagram) frame (drop next datagram)
  pub before : Replies
  pub means : item ≡ item_of before frame
  pub state : t ≡ after before frame
