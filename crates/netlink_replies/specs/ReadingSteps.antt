-- What calls of `next` on an iterator over the items of a datagram do.
use Rattle.std.specs.Prelude.{ℕ, ◌≡◌, ◌-◌, List, drop, length, map, Option, None, Result}
use Rattle.std.specs.Iterator.{YieldsThen}
use denote.Ref.{Bor}
use Rattle.netlink_packet_core.specs.DecodeError.{DecodeError}
use Rattle.netlink_replies.specs.Meaning.{Item, shown_item, shown_result}
use Rattle.netlink_replies.specs.Reads.{Gives, ReadsAs}
use Rattle.netlink_replies.specs.declared.reading.Reading.{Reading}
use Rattle.netlink_replies.specs.declared.replies.Replies.{Replies}
use Rattle.netlink_replies.specs.declared.reply.Reply.{Reply}

-- the state of the answer
abbrev pub state_of : Reading → Replies
state_of reading = reading.replies.now

-- the bytes that are still to be read
abbrev pub unread_of : Reading → List ℕ
unread_of reading = drop reading.cursor reading.datagram.now

-- and how many
abbrev pub left_of : Reading → ℕ
left_of reading = length reading.datagram.now - reading.cursor

-- one call of `next`
abbrev pub reading_steps : Reading → Option (Result (Reply (Bor (List ℕ))) DecodeError) → Reading → Type 0
reading_steps before item after =
    Gives (state_of before) (unread_of before) (shown_item item) (state_of after) (unread_of after)
    × (after.replies.ghost_name ≡ before.replies.ghost_name)

-- Reading the unread bytes gives these items and leaves this state, and so do calls of `next` until
-- it returns `None`.
abbrev pub GivesReplies : Reading → Type 0
GivesReplies reading =
    (items : List Item) × (last : Replies) × ReadsAs (state_of reading) (unread_of reading) items last
    × ((given : List (Result (Reply (Bor (List ℕ))) DecodeError)) (end : Reading)
    → YieldsThen reading_steps reading given None end
    → (map shown_result given ≡ items) × (state_of end ≡ last))
