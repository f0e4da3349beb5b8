-- A frame that a protocol wrote without the message is the canonical frame of one.
use Rattle.std.proofs.Common.{◌≡◌, ℕ, ◌+◌, Bool, List, ◌++◌, drop, length, arith, sym, ap, refl, ◌∙◌, length-drop}
use Rattle.netlink_packet_core.specs.Header.{header_bytes}
use Rattle.netlink_packet_core.specs.Payload.{payload_bytes}
use Rattle.netlink_packet_core.specs.Protocol.{Encoding, Decoding, IsNormalFrame, IsOwnType}
use Rattle.netlink_packet_core.specs.Frame.{Begins, Frame}
use Rattle.netlink_packet_core.specs.Canonical.{canonical_frame, finalized}
use Rattle.netlink_packet_core.proofs.Headers.{same_header}
use Rattle.netlink_packet_core.proofs.Written.{Laws}
use Rattle.netlink_packet_core.specs.declared.header.NetlinkHeader.{NetlinkHeader}
use Rattle.netlink_packet_core.specs.declared.message.NetlinkMessage.{NetlinkMessage}
use Rattle.netlink_packet_core.specs.declared.payload.NetlinkPayload.TheVariants.{InnerMessage}

-- the message of such a frame, whose header has yet to be written
pub record IsDirect {I : Type 0} (encoding : Encoding I) (decoding : Decoding I) (bytes : List ℕ) (h : NetlinkHeader) (frame : List ℕ) : Type 0 where
  pub message : NetlinkMessage I
  pub read : Frame decoding bytes message
  pub size : length frame ≡ 16 + length (payload_bytes encoding message.payload)
  pub text : header_bytes (record h { length = length frame }) ++ drop 16 frame ≡ canonical_frame encoding message

pub directly_written : {I : Type 0} {eq : I → I → Bool} {encoding : Encoding I} {decoding : Decoding I} → Laws eq encoding decoding
    → (bytes : List ℕ) (h : NetlinkHeader) (payload frame : List ℕ) → Begins bytes h payload → IsOwnType h.message_type
    → IsNormalFrame decoding h payload frame → IsDirect encoding decoding bytes h frame
directly_written {encoding = encoding} {decoding = decoding} laws bytes h payload frame begins own is =
    let m : NetlinkMessage _ = record { header = h; payload = InnerMessage is.value } in
    let pair = laws.own_pair is.value in
    let rest : drop 16 frame ≡ encoding.bytes_of is.value = is.encoded ∙ ap (λ (p : ℕ × List ℕ). p.1) pair in
    let kind : h.message_type ≡ encoding.type_of is.value = sym is.message_type ∙ ap (λ (p : ℕ × List ℕ). p.0) pair in
    let size : length frame ≡ 16 + length (encoding.bytes_of is.value) =
    omega (arith, is.room, length-drop 16 frame, ap length rest) in
    let head : record h { length = length frame } ≡ (finalized encoding m).header = same_header _ _ size kind refl refl refl in
    record {
      message = m;
      read = (payload, begins, (own, is.in_range, is.reads));
      size = size;
      text = ap (λ (j : NetlinkHeader). header_bytes j ++ drop 16 frame) head
          ∙ ap (λ (q : List ℕ). header_bytes (finalized encoding m).header ++ q) rest;
    }
