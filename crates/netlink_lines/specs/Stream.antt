-- The messages of an input, and how it ends.
use Rattle.std.specs.Prelude.{◌≡◌, ◌≤◌, ◌-◌, ℕ, List, [], length, Option}
use Rattle.netlink_packet_core.specs.FrameWalk.{StartsFrame}
use Rattle.netlink_packet_core.specs.Header.{HoldsFrame}
use Rattle.netlink_packet_core.specs.Walks.{WalksAs}
use Rattle.netlink_replies.specs.Meaning.{meaning}
use Rattle.netlink_lines.specs.Ack.{IsWords}
use Rattle.netlink_lines.specs.Format.{Format}
use Rattle.netlink_lines.specs.Messages.{Check, Seen, memory_after, seen_lines}
use Rattle.netlink_input.specs.Stream.{IsStop, longest}
use Rattle.netlink_input.specs.declared.stream.Stop.{Stop}

-- the bytes, which end at this offset of the input, start with this message, and the rest follows its
-- padding
pub record StartsSeen (end : ℕ) (bytes : List ℕ) (seen : Seen) (rest : List ℕ) : Type 0 where
  pub starts : StartsFrame bytes seen.frame rest
  pub most : length seen.frame ≤ longest
  pub place : seen.at ≡ end - length bytes
  pub words : IsWords (meaning seen.frame) seen.words

-- messages, by the errors of payloads
abbrev pub messages_of : Check → Format Seen
messages_of check = record {
  starts = StartsSeen;
  stops = IsStop;
  parts = λ end bytes stop last. last ≡ [];
  holds = λ rest. HoldsFrame;
  lines = seen_lines check;
  leaves = memory_after check;
}

-- the bytes, which end at this offset of the input, are these messages, up to their end or a stop
abbrev pub ShowsMessages : ℕ → List ℕ → List Seen → Option Stop → Type 0
ShowsMessages end = WalksAs (StartsSeen end) (IsStop end)
