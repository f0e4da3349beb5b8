use Rattle.std.proofs.Common.{◌∙◌, ap, sym, List, ℕ, string_bytes, true}
use Rattle.std.specs.Char.{encode_utf8}
use Rattle.std.specs.List.{fold}
use Rattle.netlink_json.specs.Strings.{with_escaped}
use Rattle.netlink_json.proofs.Escaping.{char_more}
use Rattle.netlink_json.proofs.string.push_chars.Goals as goal

pub loop-c-preserved : goal.loop-c-preserved
loop-c-preserved c =
    c.in_ok-push_char.ensures
    ∙ ap (λ (t : List ℕ). fold (with_escaped true) t (encode_utf8 c.in-Some.c)) c.loop-c.invariant
    ∙ sym (char_more (string_bytes c.args.text.now) c.loop-c.yielded c.in-Some.c)
