use Rattle.std.proofs.Common.{ℕ, List, [], ◌∷◌, ◌++◌, arith, ap, ◌∙◌, string_bytes}
use Rattle.netlink_family.specs.ByteLines.{spaced}
use Rattle.netlink_family.proofs.Lines.{each_added, joins}
use Rattle.netlink_family.proofs.byte_lines.push_spaced.Goals as goal

pub loop-byte-preserved : goal.loop-byte-preserved
loop-byte-preserved c =
    each_added spaced (string_bytes c.args.text.now) c.args.bytes.now (string_bytes c.loop-byte.text)
    (string_bytes c.push_str-in-loop-byte.new.self) c.loop-byte.byte-index (omega arith) c.loop-byte.invariant
    (joins (string_bytes c.loop-byte.text) (string_bytes c.push_str.new.self) (string_bytes c.push_str-in-loop-byte.new.self)
    (32 ∷ []) _ c.in_ok-push_str.ensures.bytes
    (c.in_ok-push_str-2.ensures.bytes
    ∙ ap (λ (digits : List ℕ). string_bytes c.push_str.new.self ++ digits) c.hex_pair.ensures.digits))
