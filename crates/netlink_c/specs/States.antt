-- The state of an answer as integers.
use Rattle.std.specs.Prelude.{ℕ, Bool, nat_eq, not}
use Rattle.netlink_packet_core.specs.declared.constants.TheConstants.{NLM_F_ACK}
use Rattle.netlink_packet_core.specs.declared.header.NetlinkHeader.{NetlinkHeader}
use Rattle.netlink_replies.specs.Answers.{resumed}
use Rattle.netlink_replies.specs.Headers.{has_flag}
use Rattle.netlink_replies.specs.declared.replies.Replies.{Replies}
use Rattle.netlink_replies.specs.declared.request.Request.{Request}
use Rattle.netlink_c.specs.Fault.{flag}
use Rattle.netlink_c.specs.declared.replies.RepliesNumbers.{RepliesNumbers}
use Rattle.netlink_c.specs.declared.replies.RequestNumbers.{RequestNumbers}

-- an integer as a truth value: only 0 means false
abbrev pub is_set : ℕ → Bool
is_set n = not (nat_eq n 0)

-- the state that the numbers mean
abbrev pub request_from : RequestNumbers → Request
request_from r = record {
  sequence_number = r.sequence_number;
  port_number = r.port_number;
  is_dump = is_set r.is_dump;
  wants_ack = is_set r.wants_ack;
}

abbrev pub state_from : RepliesNumbers → Replies
state_from s = resumed (request_from s.request) (is_set s.ended) (is_set s.interrupted)

-- the numbers that mean a state, with 1 for true
abbrev pub request_numbers : Request → RequestNumbers
request_numbers r = record {
  sequence_number = r.sequence_number;
  port_number = r.port_number;
  is_dump = flag r.is_dump;
  wants_ack = flag r.wants_ack;
}

abbrev pub state_numbers : Replies → RepliesNumbers
state_numbers s = record {
  request = request_numbers s.request;
  ended = flag s.ended;
  interrupted = flag s.interrupted;
}

-- the request that is sent with this header, a dump or not
abbrev pub request_to : NetlinkHeader → Bool → Request
request_to h is_dump = record {
  sequence_number = h.sequence_number;
  port_number = h.port_number;
  is_dump = is_dump;
  wants_ack = has_flag h.flags NLM_F_ACK;
}
