-- Messages of a datagram.
use Rattle.std.proofs.Common.{◌≡◌, ℕ, ◌+◌, ◌-◌, ◌<◌, ◌≤◌, List, [], ◌∷◌, ◌++◌, length, take, drop, set, refl, ap, sym, subst, ◌∙◌, arith, length-drop}
use Rattle.std.proofs.lemmas.List.{drop-drop, drop-set-lt, length-take-le, take_more_set}
use Rattle.netlink_packet_core.specs.Attribute.{padding}
use Rattle.netlink_packet_core.specs.Header.{HoldsFrame, field}
use Rattle.netlink_c.proofs.WalkLemmas.{frame_found}
use Rattle.netlink_c.specs.Messages.{MessagesAt, StartsMessageAt, message_at}
use Rattle.netlink_c.specs.Parts.{part_of}
use Rattle.netlink_c.specs.Steps.{StartsFrameAt}
use Rattle.netlink_c.specs.declared.frame.Part.{Part}
use Rattle.netlink_c.specs.declared.messages.MessageItem.{MessageItem}

-- a frame has at least the size of its header
pub frame_least : (bytes : List ℕ) (at : ℕ) (item : Part) (next : ℕ) → StartsFrameAt bytes at item next → 16 ≤ item.size
frame_least bytes at item next starts =
    let least : 16 ≤ length (part_of item bytes) = starts.starts.least in
    let inside = starts.inside in
    let left = length-drop item.offset bytes in
    let size : length (take ((item.offset + item.size) - item.offset) (drop item.offset bytes)) ≡ (item.offset + item.size) - item.offset =
    length-take-le ((item.offset + item.size) - item.offset) (drop item.offset bytes) (omega arith) in
    omega arith

-- one message more
pub messages_more : (bytes : List ℕ) (at : ℕ) (items : List MessageItem) (item : MessageItem) (between next : ℕ)
    → MessagesAt bytes at items between → StartsMessageAt bytes between item next → MessagesAt bytes at (items ++ (item ∷ [])) next
messages_more bytes at [] item between next none starts =
    (next, subst (λ (here : ℕ). StartsMessageAt bytes here item next) none starts, refl)
messages_more bytes at (first ∷ more) item between next (after, begins, rest) starts =
    (after, begins, messages_more bytes after more item between next rest starts)

-- the messages written, after one more
pub messages_set : (bytes : List ℕ) (start : ℕ) (items : List MessageItem) (count : ℕ) (item : MessageItem) (at next : ℕ)
    → count < length items → MessagesAt bytes start (take count items) at → StartsMessageAt bytes at item next
    → MessagesAt bytes start (take (count + 1) (set items count item)) next
messages_set bytes start items count item at next below filled starts =
    subst (λ (all : List MessageItem). MessagesAt bytes start all next) (sym (take_more_set items count item below))
    (messages_more bytes start (take count items) item at next filled starts)

-- the items not written, after one more
pub rest_set : (items old : List MessageItem) (count : ℕ) (item : MessageItem) → drop count items ≡ drop count old
    → drop (count + 1) (set items count item) ≡ drop (count + 1) old
rest_set items old count item rest =
    drop-set-lt (count + 1) items count item (omega arith)
    ∙ sym (drop-drop 1 count items) ∙ ap (drop 1) rest ∙ drop-drop 1 count old

-- the message of a frame that the bytes hold
pub message_found : (bytes : List ℕ) (at size next : ℕ) (item : MessageItem) → at < length bytes → HoldsFrame (drop at bytes)
    → size ≡ field 0 4 (drop at bytes) → item ≡ message_at bytes (record { offset = at; size = size })
    → drop next bytes ≡ drop (size + padding size) (drop at bytes) → (at < next) × (next ≤ length bytes)
    → StartsMessageAt bytes at item next
message_found bytes at size next item inside holds said same behind forward =
    (record { offset = at; size = size }, frame_found bytes (drop at bytes) at size next inside refl holds said behind forward, same)

-- and of one whose padding ends within the bytes
pub message_padded : (bytes : List ℕ) (at size whole : ℕ) (item : MessageItem) → HoldsFrame (drop at bytes)
    → size ≡ field 0 4 (drop at bytes) → item ≡ message_at bytes (record { offset = at; size = size })
    → whole ≡ size + padding size → at + whole ≤ length bytes → StartsMessageAt bytes at item (at + whole)
message_padded bytes at size whole item holds said same padded inside =
    let least = holds.least in
    message_found bytes at size (at + whole) item (omega arith) holds said same
    (sym (drop-drop whole at bytes) ∙ ap (λ (n : ℕ). drop n (drop at bytes)) padded) (omega arith, omega arith)
