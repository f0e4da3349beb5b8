-- What reading the bytes of a datagram gives.
use Rattle.std.specs.Prelude.{ℕ, ◌≡◌, ◌⊎◌, false, List, [], ◌∷◌, Option, Some, None, Result, Err}
use denote.Ref.{Bor}
use Rattle.netlink_packet_core.specs.DecodeError.{DecodeError}
use Rattle.netlink_packet_core.specs.FrameWalk.{FrameWalk, frame_of}
use Rattle.netlink_packet_core.specs.Header.{HoldsFrame}
use Rattle.netlink_packet_core.specs.Refusal.{IsFrameFault}
use Rattle.netlink_replies.specs.Answers.{after, after_all, item_of, items_of}
use Rattle.netlink_replies.specs.Meaning.{Item, shown_item}
use Rattle.netlink_replies.specs.declared.replies.Replies.{Replies}
use Rattle.netlink_replies.specs.declared.reply.Reply.{Reply}

-- reading the bytes in a state gives these items and leaves this state
pub record ReadsAs (s : Replies) (bytes : List ℕ) (items : List Item) (last : Replies) : Type 0 where
  pub frames : List (List ℕ)
  pub error : Option DecodeError
  pub walk : FrameWalk bytes frames error
  pub items_are : items ≡ items_of s frames error
  pub last_is : last ≡ after_all s frames

-- A call in a state, at unread bytes, returns this item and leaves a state and unread bytes. The item
-- is the first of the reading of the bytes, and the reading of the rest gives the others. There is
-- none if the reading gives none; then all bytes are read.
abbrev pub Gives : Replies → List ℕ → Option Item → Replies → List ℕ → Type 0
Gives s bytes None t rest =
    (rest ≡ [])
    × ((items : List Item) (last : Replies) → ReadsAs s bytes items last
    → (items ≡ []) × (t ≡ last))
Gives s bytes (Some item) t rest =
    (items : List Item) (last : Replies) → ReadsAs s bytes items last
    → (left : List Item) × (items ≡ item ∷ left) × ReadsAs t rest left last

-- a call reads one frame and returns its item, or the error of bytes that hold none
abbrev pub TakesFrame : Replies → List ℕ → Option (Result (Reply (Bor (List ℕ))) DecodeError) → Replies → Type 0
TakesFrame s bytes item t =
    (HoldsFrame bytes × (shown_item item ≡ item_of s (frame_of bytes))
    × (t ≡ after s (frame_of bytes)))
    ⊎ ((error : DecodeError) × IsFrameFault false bytes error × (item ≡ Some (Err error)) × (t ≡ s))

-- a call reads one frame: a noop leaves the items unchanged, and any other item is the first
abbrev pub StepsFrame : Replies → List ℕ → Option Item → Replies → List ℕ → Type 0
StepsFrame s bytes None t rest =
    (items : List Item) (last : Replies) → ReadsAs s bytes items last → ReadsAs t rest items last
StepsFrame s bytes (Some item) t rest = Gives s bytes (Some item) t rest
