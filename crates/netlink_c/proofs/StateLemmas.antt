-- Numbers and the state that they mean.
use Rattle.std.proofs.Common.{◌≡◌, Bool, true, false, refl}
use Rattle.netlink_replies.specs.declared.replies.Replies.{Replies}
use Rattle.netlink_c.specs.Fault.{flag}
use Rattle.netlink_c.specs.States.{is_set, state_from, state_numbers}

is_set-flag : (b : Bool) → is_set (flag b) ≡ b
is_set-flag true = refl
is_set-flag false = refl

-- the numbers of a state mean that state
pub state_back : (t : Replies) → state_from (state_numbers t) ≡ t
state_back t = λ i. record {
  request = record {
    sequence_number = t.request.sequence_number;
    port_number = t.request.port_number;
    is_dump = is_set-flag t.request.is_dump i;
    wants_ack = is_set-flag t.request.wants_ack i;
  };
  ended = is_set-flag t.ended i;
  interrupted = is_set-flag t.interrupted i;
}
