-- The errors: the number and the text of each.
use Rattle.std.specs.Prelude.{◌≡◌, ℕ, Bool, true, false, List, [], ◌∷◌, ◌++◌, codes, decimal, string_bytes}
use Rattle.netlink_bytes.specs.declared.error.DecodeError.{DecodeError}
use Rattle.netlink_bytes.specs.declared.error.DecodeError.TheVariants.{InvalidBuffer, InvalidMacAddress, InvalidIpAddress, InvalidNumber, NlaBufferTooSmall, NlaLengthMismatch, NlaInvalidLength, BufferTooSmall, FrameShort, FrameCut, FrameLength, DoneShort, ErrorShort, Message, TooLong, OutOfMemory}

-- the number of an error
abbrev pub cause_number : DecodeError → ℕ
cause_number (InvalidBuffer name received minimum_length) = 1
cause_number (InvalidMacAddress received) = 2
cause_number (InvalidIpAddress received) = 3
cause_number (InvalidNumber expected received) = 4
cause_number (NlaBufferTooSmall buffer_len nla_len) = 5
cause_number (NlaLengthMismatch buffer_len nla_len) = 6
cause_number (NlaInvalidLength buffer_len nla_len) = 7
cause_number (BufferTooSmall buffer_len value_len) = 8
cause_number (FrameShort size inside) = 9
cause_number (FrameCut length size inside) = 10
cause_number (FrameLength length inside) = 11
cause_number (DoneShort size inside) = 12
cause_number (ErrorShort size inside) = 13
cause_number (Message text) = 14
cause_number TooLong = 15
cause_number OutOfMemory = 16

-- the line before the text of an error: empty unless the error was detected inside a larger call
abbrev pub frame_line : Bool → List ℕ
frame_line true = codes "failed deserializing NetlinkMessage caused by "
frame_line false = []

abbrev pub done_line : Bool → List ℕ
done_line true = codes "failed to parse NLMSG_DONE caused by "
done_line false = []

abbrev pub error_line : Bool → List ℕ
error_line true = codes "failed parsing NLMSG_ERROR caused by "
error_line false = []

-- the text of an error
abbrev pub cause_text : DecodeError → List ℕ
cause_text (InvalidBuffer name received minimum_length) =
    codes "Invalid buffer "
    ++ (string_bytes name
    ++ (codes ". Expected at least "
    ++ (decimal minimum_length
    ++ (codes " bytes, received " ++ (decimal received ++ codes " bytes")))))
cause_text (InvalidMacAddress received) =
    codes "Invalid MAC address. Expected 6 bytes, received " ++ (decimal received ++ codes " bytes")
cause_text (InvalidIpAddress received) =
    codes "Invalid IP address. Expected 4 or 16 bytes, received "
    ++ (decimal received ++ codes " bytes")
cause_text (InvalidNumber expected received) =
    codes "Invalid number. Expected "
    ++ (decimal expected ++ (codes " bytes, received " ++ (decimal received ++ codes " bytes")))
cause_text (NlaBufferTooSmall buffer_len nla_len) =
    codes "buffer has length "
    ++ (decimal buffer_len
    ++ (codes ", but an NLA header is " ++ (decimal nla_len ++ codes " bytes")))
cause_text (NlaLengthMismatch buffer_len nla_len) =
    codes "buffer has length: "
    ++ (decimal buffer_len ++ (codes ", but the NLA is " ++ (decimal nla_len ++ codes " bytes")))
cause_text (NlaInvalidLength buffer_len nla_len) =
    codes "NLA has invalid length: "
    ++ (decimal nla_len ++ (codes " (should be at least "
    ++ (decimal buffer_len ++ codes " bytes)")))
cause_text (BufferTooSmall buffer_len value_len) =
    codes "Buffer too small: "
    ++ (decimal buffer_len
    ++ (codes " (should be at least " ++ (decimal value_len ++ codes " bytes")))
cause_text (FrameShort size inside) =
    frame_line inside ++ (codes
    "invalid netlink buffer length caused by invalid netlink buffer: length is "
    ++ (decimal size ++ codes " but netlink packets are at least 16 bytes"))
cause_text (FrameCut length size inside) =
    frame_line inside ++ (codes
    "invalid netlink buffer length caused by invalid netlink buffer: length field says "
    ++ (decimal length ++ (codes " the buffer is " ++ (decimal size ++ codes " bytes long"))))
cause_text (FrameLength length inside) =
    frame_line inside ++ (codes
    "invalid netlink buffer length caused by invalid netlink buffer: length field says "
    ++ (decimal length ++ codes " but netlink packets are at least 16 bytes"))
cause_text (DoneShort size inside) =
    done_line inside ++ (codes "invalid DoneBuffer length caused by invalid DoneBuffer: length is "
    ++ (decimal size ++ codes " but DoneBuffer are at least 4 bytes"))
cause_text (ErrorShort size inside) =
    error_line inside ++ (codes
    "invalid ErrorBuffer length caused by invalid ErrorBuffer: length is "
    ++ (decimal size ++ codes " but ErrorBuffer are at least 4 bytes"))
cause_text (Message text) = string_bytes text
cause_text TooLong = codes "message does not fit a 32-bit length"
cause_text OutOfMemory = codes "out of memory"

-- the error is `Message` with these bytes as its text, or `OutOfMemory`
abbrev pub HoldsText : List ℕ → DecodeError → Type 0
HoldsText text (Message held) = string_bytes held ≡ text
HoldsText text OutOfMemory = Unit {0}
HoldsText text _ = ⊥

-- the error is `Message` with a text that begins with these bytes, or `OutOfMemory`
abbrev pub TextBegins : List ℕ → DecodeError → Type 0
TextBegins front (Message held) = (rest : List ℕ) × (string_bytes held ≡ front ++ rest)
TextBegins front OutOfMemory = Unit {0}
TextBegins front _ = ⊥

-- the error is `InvalidBuffer` with this name, this size received and this minimum, or
-- `OutOfMemory`
abbrev pub IsInvalidBuffer : List ℕ → ℕ → ℕ → DecodeError → Type 0
IsInvalidBuffer name received minimum_length (InvalidBuffer held got least) =
    (string_bytes held ≡ name) × (got ≡ received) × (least ≡ minimum_length)
IsInvalidBuffer name received minimum_length OutOfMemory = Unit {0}
IsInvalidBuffer name received minimum_length _ = ⊥

-- the text that an error holds; variants without one hold the empty text
abbrev pub held_text : DecodeError → List ℕ
held_text (InvalidBuffer name received minimum_length) = string_bytes name
held_text (Message text) = string_bytes text
held_text _ = []

-- the sizes and lengths that an error holds, in the order of its fields
abbrev pub held_sizes : DecodeError → List ℕ
held_sizes (InvalidBuffer name received minimum_length) = received ∷ minimum_length ∷ []
held_sizes (InvalidMacAddress received) = received ∷ []
held_sizes (InvalidIpAddress received) = received ∷ []
held_sizes (InvalidNumber expected received) = expected ∷ received ∷ []
held_sizes (NlaBufferTooSmall buffer_len nla_len) = buffer_len ∷ nla_len ∷ []
held_sizes (NlaLengthMismatch buffer_len nla_len) = buffer_len ∷ nla_len ∷ []
held_sizes (NlaInvalidLength buffer_len nla_len) = buffer_len ∷ nla_len ∷ []
held_sizes (BufferTooSmall buffer_len value_len) = buffer_len ∷ value_len ∷ []
held_sizes (FrameShort size inside) = size ∷ []
held_sizes (FrameCut length size inside) = length ∷ size ∷ []
held_sizes (FrameLength length inside) = length ∷ []
held_sizes (DoneShort size inside) = size ∷ []
held_sizes (ErrorShort size inside) = size ∷ []
held_sizes _ = []

-- whether the error was detected inside a larger call
abbrev pub is_inside : DecodeError → Bool
is_inside (FrameShort size inside) = inside
is_inside (FrameCut length size inside) = inside
is_inside (FrameLength length inside) = inside
is_inside (DoneShort size inside) = inside
is_inside (ErrorShort size inside) = inside
is_inside _ = false

-- two errors that nothing distinguishes
pub record SameCause (a b : DecodeError) : Type 0 where
  pub number : cause_number a ≡ cause_number b
  pub text : held_text a ≡ held_text b
  pub sizes : held_sizes a ≡ held_sizes b
  pub inside : is_inside a ≡ is_inside b
