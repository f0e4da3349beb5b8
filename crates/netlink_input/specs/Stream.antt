-- Why the messages of an input end before it does.
use Rattle.std.specs.Prelude.{◌≡◌, ◌<◌, ◌≤◌, ◌+◌, ℕ, true, List, ◌++◌, length, codes, decimal}
use Rattle.netlink_packet_core.specs.Causes.{cause_text}
use Rattle.netlink_packet_core.specs.Header.{field}
use Rattle.netlink_packet_core.specs.Refusal.{IsFrameFault}
use Rattle.netlink_input.specs.Pcap.{pcap_text}
use Rattle.netlink_input.specs.declared.stream.Cause.{Cause}
use Rattle.netlink_input.specs.declared.stream.Cause.TheVariants.{Damaged, TooLong, Pcap}
use Rattle.netlink_input.specs.declared.stream.Stop.{Stop}

-- the size in bytes of the longest message, and of the longest packet of a pcap file
abbrev pub longest : ℕ
longest = 1048576

-- the bytes start with no message that can be read
abbrev pub IsCause : List ℕ → Cause → Type 0
IsCause bytes (Damaged error) =
    IsFrameFault true bytes error × (16 ≤ length bytes → field 0 4 bytes ≤ longest)
IsCause bytes (TooLong said) = (16 ≤ length bytes) × (said ≡ field 0 4 bytes) × (longest < said)
IsCause bytes (Pcap why) = ⊥

-- the bytes start at this offset of the input and end at another, and the messages end there for this
-- cause
pub record IsStop (end : ℕ) (bytes : List ℕ) (stop : Stop) : Type 0 where
  pub place : stop.at + length bytes ≡ end
  pub cause : IsCause bytes stop.cause

abbrev pub why_text : Cause → List ℕ
why_text (Damaged error) = cause_text error
why_text (TooLong said) =
    codes "a message of " ++ (decimal said ++ codes " bytes is longer than 1048576")
why_text (Pcap why) = pcap_text why

abbrev pub stop_text : Stop → List ℕ
stop_text stop = codes "byte " ++ (decimal stop.at ++ (codes ": " ++ why_text stop.cause))
