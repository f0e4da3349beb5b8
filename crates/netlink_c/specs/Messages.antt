-- Messages of a datagram, and their attributes.
use Rattle.std.specs.Prelude.{◌≡◌, ◌≢◌, ◌+◌, ◌-◌, ◌^◌, ℕ, List, [], ◌∷◌, drop, min, nat_le, nat_lt, if◌then◌else◌}
use Rattle.netlink_packet_core.specs.Attribute.{padding}
use Rattle.netlink_packet_core.specs.Header.{header_of}
use Rattle.netlink_c.specs.Steps.{StartsFrameAt}
use Rattle.netlink_c.specs.declared.frame.Part.{Part}
use Rattle.netlink_c.specs.declared.messages.MessageItem.{MessageItem}

-- the header and the payload of the frame that is this part of the bytes
abbrev pub message_at : List ℕ → Part → MessageItem
message_at bytes frame = record {
  header = header_of (drop frame.offset bytes);
  payload = record { offset = frame.offset + 16; size = frame.size - 16 };
}

-- starting at offset `at`, the bytes are the frame of a message, its padding, and then the bytes
-- starting at offset `next`; this is its header and its payload
abbrev pub StartsMessageAt : List ℕ → ℕ → MessageItem → ℕ → Type 0
StartsMessageAt bytes at item next =
    (frame : Part) × StartsFrameAt bytes at frame next × (item ≡ message_at bytes frame)

-- starting at offset `at`, the bytes are the frames of these messages, each with its padding, and
-- then the bytes starting at offset `next`
abbrev pub MessagesAt : List ℕ → ℕ → List MessageItem → ℕ → Type 0
MessagesAt bytes at [] next = next ≡ at
MessagesAt bytes at (item ∷ more) next =
    (between : ℕ) × StartsMessageAt bytes at item between × MessagesAt bytes between more next

-- the size of a fixed header with its padding, as far as the payload has it
abbrev pub fixed_part : ℕ → ℕ → ℕ
fixed_part fixed size = min (fixed + padding fixed) size

-- what is after a fixed header of this size
abbrev pub after_fixed : Part → ℕ → Part
after_fixed payload fixed = record {
  offset = payload.offset + fixed_part fixed payload.size;
  size = payload.size - fixed_part fixed payload.size;
}

-- what finding it returns: `NO_PLACE` if the payload ends at an offset that is not a `usize`,
-- `WRONG_SIZE` if it is shorter than the fixed header, and 0 otherwise
abbrev pub fixed_result : Part → ℕ → ℕ
fixed_result payload fixed =
    if nat_lt (payload.offset + payload.size) (2 ^ 64) then (if nat_le fixed payload.size then 0 else 35) else 34

-- what finding it does: if it returns 0, it writes that part, and otherwise it changes nothing
pub record FindsAttributes (payload : Part) (fixed : ℕ) (old new : Part) (answer : ℕ) : Type 0 where
  pub answers : answer ≡ fixed_result payload fixed
  pub written : answer ≡ 0 → new ≡ after_fixed payload fixed
  pub unchanged : answer ≢ 0 → new ≡ old
