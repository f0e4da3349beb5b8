use Rattle.std.proofs.Common.{◌≡◌, false, string_bytes, take}
use Rattle.std.specs.List.{fold}
use Rattle.netlink_json.specs.Strings.{with_escaped}
use Rattle.netlink_json.proofs.string.push_bytes.Given as goal

-- the bytes so far are written
abbrev pub invariant-loop-byte : goal.invariant-loop-byte
invariant-loop-byte l =
    string_bytes l.text ≡ fold (with_escaped false) (string_bytes l.fn.text) (take l.byte-index l.bytes)
