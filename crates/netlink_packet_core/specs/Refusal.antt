-- The error with which bytes are rejected, and when reading them does not allocate.
use Rattle.std.specs.Prelude.{◌≡◌, ◌<◌, ◌≤◌, ◌⊎◌, ℕ, Bool, true, List, [], ◌++◌, None, length, take, codes, decimal, string_bytes, IsTrue}
use Rattle.netlink_bytes.specs.declared.error.DecodeError.{DecodeError}
use Rattle.netlink_bytes.specs.declared.error.DecodeError.TheVariants.{FrameShort, FrameCut, FrameLength, DoneShort, ErrorShort, Message, OutOfMemory}
use Rattle.netlink_packet_core.specs.Header.{field, payload_of, HoldsFrame}
use Rattle.netlink_packet_core.specs.Protocol.{Decoding, IsOwnType}
use Rattle.netlink_packet_core.specs.Frame.{Begins}
use Rattle.netlink_packet_core.specs.declared.header.NetlinkHeader.{NetlinkHeader}

-- the errors of a frame, with their fields; no bytes satisfy two of these cases
abbrev pub IsFrameFault : Bool → List ℕ → DecodeError → Type 0
IsFrameFault within bytes (FrameShort size inside) =
    (length bytes < 16) × (size ≡ length bytes) × (inside ≡ within)
IsFrameFault within bytes (FrameCut said size inside) =
    (16 ≤ length bytes) × (length bytes < field 0 4 bytes) × (said ≡ field 0 4 bytes)
    × (size ≡ length bytes) × (inside ≡ within)
IsFrameFault within bytes (FrameLength said inside) =
    (16 ≤ length bytes) × (field 0 4 bytes < 16) × (said ≡ field 0 4 bytes) × (inside ≡ within)
IsFrameFault within bytes _ = ⊥

-- the first `cut` bytes of a frame are rejected: fewer than 16 as too short for a header, and 16 or
-- more as truncated, with both sizes
abbrev pub IsCutShort : List ℕ → ℕ → Type 0
IsCutShort bytes cut = IsFrameFault true (take cut bytes) (FrameShort cut true)

abbrev pub IsCutLater : List ℕ → ℕ → Type 0
IsCutLater bytes cut = IsFrameFault true (take cut bytes) (FrameCut (length bytes) cut true)

-- the text for a payload that a protocol rejected, which ends with the protocol's own words
abbrev pub refusal_text : ℕ → List ℕ → List ℕ
refusal_text message_type rest =
    codes "Failed to parse message with type " ++ (decimal message_type ++ (codes ": " ++ rest))

-- the error for a payload of type 3: `OutOfMemory` only if bytes follow the code
abbrev pub IsDoneFault : List ℕ → DecodeError → Type 0
IsDoneFault payload (DoneShort size inside) =
    (0 < length payload) × (length payload < 4) × (size ≡ length payload) × (inside ≡ true)
IsDoneFault payload OutOfMemory = 4 < length payload
IsDoneFault payload _ = ⊥

-- the error for a payload of type 2
abbrev pub IsErrorFault : List ℕ → DecodeError → Type 0
IsErrorFault payload (ErrorShort size inside) =
    (length payload < 4) × (size ≡ length payload) × (inside ≡ true)
IsErrorFault payload OutOfMemory = 4 < length payload
IsErrorFault payload _ = ⊥

-- the error for a payload of type 4
abbrev pub IsOverrunFault : List ℕ → DecodeError → Type 0
IsOverrunFault payload OutOfMemory = 0 < length payload
IsOverrunFault payload _ = ⊥

-- some error of the protocol means that an allocation failed
abbrev pub MayWantMemory : {E : Type 0} → (E → Bool) → Type 0
MayWantMemory {E} wants_memory = (e : E) × IsTrue (wants_memory e)

-- the error for a payload of one of the protocol's own types: `Message` if the protocol decodes
-- nothing, with the protocol's words after the fixed beginning; or `OutOfMemory` if an allocation
-- for that text, or in the protocol itself, failed
abbrev pub IsInnerFault : {I E : Type 0} → Decoding I → (E → Bool) → NetlinkHeader → List ℕ
    → DecodeError → Type 0
IsInnerFault decoding wants_memory h payload (Message text) =
    (decoding.reading h payload ≡ None)
    × ((rest : List ℕ) × (string_bytes text ≡ refusal_text h.message_type rest))
IsInnerFault decoding wants_memory h payload OutOfMemory =
    (decoding.reading h payload ≡ None) ⊎ MayWantMemory wants_memory
IsInnerFault decoding wants_memory h payload _ = ⊥

-- the error for a payload; one of type 1 has none
abbrev pub IsBodyFault : {I E : Type 0} → Decoding I → (E → Bool) → NetlinkHeader → List ℕ
    → DecodeError → Type 0
IsBodyFault decoding wants_memory h payload e =
    ((h.message_type ≡ 2) × IsErrorFault payload e)
    ⊎ (((h.message_type ≡ 3) × IsDoneFault payload e)
    ⊎ (((h.message_type ≡ 4) × IsOverrunFault payload e)
    ⊎ (IsOwnType h.message_type × IsInnerFault decoding wants_memory h payload e)))

-- the error for bytes that hold a complete frame, from its payload
abbrev pub IsPayloadFault : {I E : Type 0} → Decoding I → (E → Bool) → List ℕ → DecodeError → Type 0
IsPayloadFault decoding wants_memory bytes e =
    (h : NetlinkHeader) × (payload : List ℕ) × Begins bytes h payload
    × IsBodyFault decoding wants_memory h payload e

-- the error for bytes: from the frame, or from the payload of a complete frame
abbrev pub IsRefusal : {I E : Type 0} → Decoding I → (E → Bool) → List ℕ → DecodeError → Type 0
IsRefusal decoding wants_memory bytes e =
    IsFrameFault true bytes e ⊎ IsPayloadFault decoding wants_memory bytes e

-- a payload of this type has nothing to copy, and the protocol is not called
abbrev pub HasNothingToCopy : ℕ → List ℕ → Type 0
HasNothingToCopy message_type payload =
    (message_type ≡ 1)
    ⊎ (((message_type ≡ 2) × (length payload ≤ 4))
    ⊎ (((message_type ≡ 3) × (length payload ≤ 4))
    ⊎ ((message_type ≡ 4) × (payload ≡ []))))

-- reading these bytes does not allocate: they hold no frame, or one with nothing to copy
abbrev pub AsksNoMemory : List ℕ → Type 0
AsksNoMemory bytes = HoldsFrame bytes → HasNothingToCopy (field 4 2 bytes) (payload_of bytes)

-- two errors are a `Message` with one fixed beginning; the words after it may differ
abbrev pub SameBeginning : DecodeError → DecodeError → Type 0
SameBeginning (Message a) (Message b) =
    (message_type : ℕ) × (r : List ℕ) × (s : List ℕ)
    × (string_bytes a ≡ refusal_text message_type r)
    × (string_bytes b ≡ refusal_text message_type s)
SameBeginning e f = ⊥

-- two errors are the same, apart from the words that follow the fixed beginning of a `Message`
abbrev pub SameRefusal : DecodeError → DecodeError → Type 0
SameRefusal e f = (e ≡ f) ⊎ SameBeginning e f
