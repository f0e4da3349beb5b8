-- A header read back from its encoding, and the encoding of a header that was read.
use Rattle.std.proofs.Common.{◌≡◌, ℕ, ◌+◌, ◌-◌, ◌<◌, ◌≤◌, ◌^◌, List, ◌++◌, length, take, drop, refl, ap, sym, ◌∙◌, append_assoc, arith, length-append, length-drop, slice_range, subst}
use Rattle.std.proofs.lemmas.List.{take-append-drop, take-append-le, length-take, drop-drop, take_at}
use Rattle.netlink_bytes.specs.Numbers.{IsBytes, number_le, bytes_le}
use Rattle.netlink_bytes.specs.NumberLaws.{number_le-bytes_le, IsBytes-drop, split_number, front-fits}
use Rattle.netlink_packet_core.specs.Header.{header_bytes, header_of, payload_of, HeaderInRange, HoldsFrame, field}
use Rattle.netlink_packet_core.specs.Sizes.{length-header_bytes, length-header_and}
use Rattle.netlink_packet_core.specs.Frame.{Begins}
use Rattle.netlink_packet_core.specs.declared.header.NetlinkHeader.{NetlinkHeader}

-- headers with the same fields are the same
pub same_header : (a b : NetlinkHeader) → a.length ≡ b.length → a.message_type ≡ b.message_type → a.flags ≡ b.flags
    → a.sequence_number ≡ b.sequence_number → a.port_number ≡ b.port_number → a ≡ b
same_header a b p q r s t = λ i. record { length = p i; message_type = q i; flags = r i; sequence_number = s i; port_number = t i }

-- a header reads back from its encoding, whatever follows
pub header_of-header_bytes : (h : NetlinkHeader) (more : List ℕ) → HeaderInRange h → header_of (header_bytes h ++ more) ≡ h
unfolding bytes_le
header_of-header_bytes h more fits = same_header _ _
    (number_le-bytes_le h.length 4 fits.length)
    (number_le-bytes_le h.message_type 2 fits.message_type)
    (number_le-bytes_le h.flags 2 fits.flags)
    (number_le-bytes_le h.sequence_number 4 fits.sequence_number)
    (number_le-bytes_le h.port_number 4 fits.port_number)

-- what follows the encoding of a header
pub drop-header_bytes : (h : NetlinkHeader) (more : List ℕ) → drop 16 (header_bytes h ++ more) ≡ more
unfolding bytes_le
drop-header_bytes h more = refl

enough : (at w : ℕ) (bytes : List ℕ) → at + w ≤ length bytes → w ≤ length (drop at bytes)
enough at w bytes long = omega (arith, length-drop at bytes)

-- an integer at an offset, and what follows it
next_number : (at w : ℕ) (bytes : List ℕ) → IsBytes bytes → at + w ≤ length bytes
    → drop at bytes ≡ bytes_le (number_le (take w (drop at bytes))) w ++ drop (at + w) bytes
next_number at w bytes each long =
    split_number w (drop at bytes) (IsBytes-drop at bytes each) (enough at w bytes long)
    ∙ ap (λ (more : List ℕ). bytes_le (number_le (take w (drop at bytes))) w ++ more) (drop-drop w at bytes)

five : (a b c d e more : List ℕ) → (a ++ (b ++ (c ++ (d ++ e)))) ++ more ≡ a ++ (b ++ (c ++ (d ++ (e ++ more))))
five a b c d e more = simp append_assoc

joined : (a b c d e x0 x1 x2 x3 x4 x5 : List ℕ) → x0 ≡ a ++ x1 → x1 ≡ b ++ x2 → x2 ≡ c ++ x3 → x3 ≡ d ++ x4 → x4 ≡ e ++ x5
    → x0 ≡ (a ++ (b ++ (c ++ (d ++ e)))) ++ x5
joined a b c d e x0 x1 x2 x3 x4 x5 p q r s t =
    p ∙ ap (λ (m : List ℕ). a ++ m) (q ∙ ap (λ (m : List ℕ). b ++ m) (r ∙ ap (λ (m : List ℕ). c ++ m) (s ∙ ap (λ (m : List ℕ). d ++ m) t)))
    ∙ sym (five a b c d e x5)

-- bytes are the encoding of the header that they begin with, and the rest
pub header_bytes-header_of : (bytes : List ℕ) → IsBytes bytes → 16 ≤ length bytes → bytes ≡ header_bytes (header_of bytes) ++ drop 16 bytes
header_bytes-header_of bytes each long =
    joined (bytes_le (field 0 4 bytes) 4) (bytes_le (field 4 2 bytes) 2) (bytes_le (field 6 2 bytes) 2) (bytes_le (field 8 4 bytes) 4)
    (bytes_le (field 12 4 bytes) 4)
    bytes (drop 4 bytes) (drop 6 bytes) (drop 8 bytes) (drop 12 bytes) (drop 16 bytes)
    (split_number 4 bytes each (omega arith)) (next_number 4 2 bytes each (omega arith)) (next_number 6 2 bytes each (omega arith))
    (next_number 8 4 bytes each (omega arith)) (next_number 12 4 bytes each (omega arith))

next_fits : (at w : ℕ) (bytes : List ℕ) → IsBytes bytes → at + w ≤ length bytes → number_le (take w (drop at bytes)) < 256 ^ w
next_fits at w bytes each long = front-fits w (drop at bytes) (IsBytes-drop at bytes each) (enough at w bytes long)

pub header_in_range : (bytes : List ℕ) → IsBytes bytes → 16 ≤ length bytes → HeaderInRange (header_of bytes)
header_in_range bytes each long = record {
  length = front-fits 4 bytes each (omega arith);
  message_type = next_fits 4 2 bytes each (omega arith);
  flags = next_fits 6 2 bytes each (omega arith);
  sequence_number = next_fits 8 4 bytes each (omega arith);
  port_number = next_fits 12 4 bytes each (omega arith);
}

-- bytes that hold a complete frame begin with its header and its payload
pub begins-whole : (bytes : List ℕ) → IsBytes bytes → HoldsFrame bytes → Begins bytes (header_of bytes) (payload_of bytes)
begins-whole bytes each holds = record {
  rest = drop (field 0 4 bytes - 16) (drop 16 bytes);
  whole = header_bytes-header_of bytes each holds.header
      ∙ ap (λ (more : List ℕ). header_bytes (header_of bytes) ++ more) (sym (take-append-drop (field 0 4 bytes - 16) (drop 16 bytes)));
  size = omega (arith, holds.least, holds.most, length-drop 16 bytes, length-take (field 0 4 bytes - 16) (drop 16 bytes));
  in_range = header_in_range bytes each holds.header;
}

-- the same for the header that was read, and the part of the bytes up to its length
pub begins-part : (bytes : List ℕ) (h : NetlinkHeader) → IsBytes bytes → HoldsFrame bytes → h ≡ header_of bytes
    → Begins bytes h (slice_range bytes 16 h.length)
begins-part bytes h each holds is =
    subst (λ (k : NetlinkHeader). Begins bytes k (slice_range bytes 16 k.length)) (sym is) (begins-whole bytes each holds)

-- and with no others
pub header-begins : (bytes : List ℕ) (h : NetlinkHeader) (payload : List ℕ) → Begins bytes h payload → header_of bytes ≡ h
header-begins bytes h payload b = ap header_of b.whole ∙ header_of-header_bytes h (payload ++ b.rest) b.in_range

pub length-begins : (bytes : List ℕ) (h : NetlinkHeader) (payload : List ℕ) → Begins bytes h payload → field 0 4 bytes ≡ 16 + length payload
length-begins bytes h payload b = ap (λ (g : NetlinkHeader). g.length) (header-begins bytes h payload b) ∙ b.size

pub after-begins : (bytes : List ℕ) (h : NetlinkHeader) (payload : List ℕ) (b : Begins bytes h payload) → drop 16 bytes ≡ payload ++ b.rest
after-begins bytes h payload b = ap (drop 16) b.whole ∙ drop-header_bytes h (payload ++ b.rest)

pub payload-begins : (bytes : List ℕ) (h : NetlinkHeader) (payload : List ℕ) → Begins bytes h payload → payload_of bytes ≡ payload
payload-begins bytes h payload b =
    let size : field 0 4 bytes - 16 ≡ length payload = omega (arith, length-begins bytes h payload b) in
    ap (λ (n : ℕ). take n (drop 16 bytes)) size ∙ ap (take (length payload)) (after-begins bytes h payload b)
    ∙ take_at payload b.rest _ refl

pub size-begins : (bytes : List ℕ) (h : NetlinkHeader) (payload : List ℕ) (b : Begins bytes h payload)
    → length bytes ≡ 16 + (length payload + length b.rest)
size-begins bytes h payload b =
    ap length b.whole ∙ length-append (header_bytes h) (payload ++ b.rest)
    ∙ ap (λ (n : ℕ). n + length (payload ++ b.rest)) (length-header_bytes h) ∙ ap (λ (n : ℕ). 16 + n) (length-append payload b.rest)

pub begins-holds : (bytes : List ℕ) (h : NetlinkHeader) (payload : List ℕ) → Begins bytes h payload → HoldsFrame bytes
begins-holds bytes h payload b =
    let total = size-begins bytes h payload b in
    let field_is = length-begins bytes h payload b in
    record { header = omega arith; least = omega arith; most = omega arith }

pub same_start : (bytes : List ℕ) (h g : NetlinkHeader) (p q : List ℕ) → Begins bytes h p → Begins bytes g q → (h ≡ g) × (p ≡ q)
same_start bytes h g p q a b =
    (sym (header-begins bytes h p a) ∙ header-begins bytes g q b, sym (payload-begins bytes h p a) ∙ payload-begins bytes g q b)

-- what follows a complete frame is not part of what the bytes begin with
pub begins-before : (bytes more : List ℕ) (h : NetlinkHeader) (payload : List ℕ) → Begins bytes h payload → Begins (bytes ++ more) h payload
begins-before bytes more h payload b = record {
  rest = b.rest ++ more;
  whole = ap (λ (s : List ℕ). s ++ more) b.whole ∙ append_assoc (header_bytes h) (payload ++ b.rest) more
      ∙ ap (λ (s : List ℕ). header_bytes h ++ s) (append_assoc payload b.rest more);
  size = b.size;
  in_range = b.in_range;
}

pub begins-front : (bytes more : List ℕ) (h : NetlinkHeader) (payload : List ℕ) → HoldsFrame bytes → Begins (bytes ++ more) h payload
    → Begins bytes h payload
begins-front bytes more h payload holds b =
    let text : List ℕ = header_bytes h ++ payload in
    let size : length text ≡ 16 + length payload = length-header_and h payload in
    let said : field 0 4 bytes ≡ 16 + length payload =
    ap number_le (sym (take-append-le 4 bytes more (omega (arith, holds.header)))) ∙ length-begins (bytes ++ more) h payload b in
    let within : length text ≤ length bytes = omega (arith, holds.most) in
    let taken : take (length text) bytes ≡ text =
    sym (take-append-le (length text) bytes more within)
    ∙ ap (take (length text)) (b.whole ∙ sym (append_assoc (header_bytes h) payload b.rest)) ∙ take_at text b.rest _ refl in
    record {
      rest = drop (length text) bytes;
      whole = sym (take-append-drop (length text) bytes) ∙ ap (λ (s : List ℕ). s ++ drop (length text) bytes) taken
          ∙ append_assoc (header_bytes h) payload (drop (length text) bytes);
      size = b.size;
      in_range = b.in_range;
    }
