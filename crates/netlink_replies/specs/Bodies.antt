-- What follows the code of an error or done message (`struct nlmsgerr` of linux/netlink.h;
-- `netlink_ack` and `netlink_dump_done` of net/netlink/af_netlink.c).
use Rattle.std.specs.Prelude.{ℕ, ◌+◌, ◌||◌, max, nat_lt, if◌then◌else◌, List, [], length, take, drop}
use Rattle.netlink_packet_core.specs.Attribute.{padding}
use Rattle.netlink_packet_core.specs.Header.{field}
use Rattle.netlink_packet_core.specs.declared.constants.TheConstants.{NLM_F_ACK_TLVS, NLM_F_CAPPED}
use Rattle.netlink_replies.specs.Headers.{has_flag}

-- The size of the request after the code of an error message: its length field, but at least 16,
-- since the kernel copies a whole header first. It is 16 if the request was capped, or if there are
-- not even 16 bytes.
unfoldable pub request_size : ℕ → List ℕ → ℕ
request_size flags body =
    if has_flag flags NLM_F_CAPPED || nat_lt (length body) 16 then 16 else max 16 (field 0 4 body)

-- the request, as far as there are bytes
abbrev pub request_of : ℕ → List ℕ → List ℕ
request_of flags body = take (request_size flags body) body

-- the attributes after the first `size` bytes and their padding, if the flags say that there are
-- attributes
abbrev pub attributes_after : ℕ → ℕ → List ℕ → List ℕ
attributes_after flags size body =
    if has_flag flags NLM_F_ACK_TLVS then drop (size + padding size) body else []

-- the attributes of an error message, after the request
abbrev pub error_attributes : ℕ → List ℕ → List ℕ
error_attributes flags body = attributes_after flags (request_size flags body) body

-- the attributes of a done message, right after the code
abbrev pub done_attributes : ℕ → List ℕ → List ℕ
done_attributes flags body = attributes_after flags 0 body
