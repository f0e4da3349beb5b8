use Rattle.std.proofs.Common.{◌≡◌, string_bytes, true}
use Rattle.std.specs.Str.{encode_utf8_all}
use Rattle.std.specs.List.{fold}
use Rattle.netlink_json.specs.Strings.{with_escaped}
use Rattle.netlink_json.proofs.string.push_chars.Given as goal

-- the characters so far are written
abbrev pub invariant-loop-c : goal.invariant-loop-c
invariant-loop-c l =
    string_bytes l.text ≡ fold (with_escaped true) (string_bytes l.fn.text) (encode_utf8_all l.yielded)
