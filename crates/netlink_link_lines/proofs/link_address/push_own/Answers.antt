use Rattle.std.proofs.Common.{◌≡◌, ◌∙◌, sym, length, string_bytes}
use Rattle.std.proofs.lemmas.Bool.{eqb-true}
use Rattle.netlink_link_lines.proofs.Pieces.{no_own}
use Rattle.netlink_link_lines.proofs.link_address.push_own.Goals as goal

pub returns-then-is_empty : goal.returns-then-is_empty
returns-then-is_empty c =
    let none : length c.args.bytes.now ≡ 0 = eqb-true (length c.args.bytes.now) 0 (sym c.is_empty.ensures ∙ c.if-is_empty.true) in
    sym (no_own (string_bytes c.args.text.now) c.args.layer c.args.bytes.now none)
