-- What `laws::frame_unique` and `laws::refusal_unique` state for a protocol, as one record that the
-- lemmas of a caller take.
use Rattle.std.specs.Prelude.{◌≡◌, ◌≢◌, ℕ, Bool, List}
use Rattle.netlink_bytes.specs.declared.error.DecodeError.{DecodeError}
use Rattle.netlink_bytes.specs.declared.error.DecodeError.TheVariants.{OutOfMemory}
use Rattle.netlink_packet_core.specs.Canonical.{Fits, canonical_frame}
use Rattle.netlink_packet_core.specs.Frame.{Frame, SamePayload}
use Rattle.netlink_packet_core.specs.Protocol.{Encoding, Decoding}
use Rattle.netlink_packet_core.specs.Refusal.{IsRefusal, SameRefusal}
use Rattle.netlink_packet_core.specs.declared.message.NetlinkMessage.{NetlinkMessage}

pub record Uniqueness {I E : Type 0} (encoding : Encoding I) (decoding : Decoding I)
    (wants_memory : E → Bool) : Type 0 where
  pub same : (bytes : List ℕ) (m n : NetlinkMessage I) → Frame decoding bytes m
      → Frame decoding bytes n
      → (m.header ≡ n.header) × SamePayload decoding m.payload n.payload
  pub fits : (bytes : List ℕ) (m n : NetlinkMessage I) → Frame decoding bytes m
      → Frame decoding bytes n → Fits encoding m → Fits encoding n
  pub written : (bytes : List ℕ) (m n : NetlinkMessage I) → Frame decoding bytes m
      → Frame decoding bytes n → canonical_frame encoding m ≡ canonical_frame encoding n
  pub refusal : (bytes : List ℕ) (e f : DecodeError) → IsRefusal decoding wants_memory bytes e
      → IsRefusal decoding wants_memory bytes f → e ≢ OutOfMemory → f ≢ OutOfMemory
      → SameRefusal e f
  pub frame : (bytes : List ℕ) (m : NetlinkMessage I) (e : DecodeError) → Frame decoding bytes m
      → IsRefusal decoding wants_memory bytes e → e ≡ OutOfMemory
