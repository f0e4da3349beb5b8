use Rattle.std.proofs.Common.{◌≡◌, ◌++◌, [], take, string_bytes}
use Rattle.std.specs.List.{fold}
use Rattle.netlink_words.specs.Text.{with_printable}
use Rattle.netlink_words.proofs.text.push_bytes.Given as goal

-- the bytes so far are written
abbrev pub invariant-loop-byte : goal.invariant-loop-byte
invariant-loop-byte l =
    string_bytes l.text ≡ string_bytes l.fn.text ++ fold (with_printable l.least) [] (take l.byte-index l.bytes)
