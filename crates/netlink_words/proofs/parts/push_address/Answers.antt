use Rattle.std.proofs.Common.{rules, ◌≡◌, ◌∙◌, sym, length, string_bytes}
use Rattle.std.proofs.lemmas.Bool.{eqb-true}
use Rattle.netlink_words.specs.Pieces.{four_more, no_address}
use Rattle.netlink_words.proofs.parts.push_address.Goals as goal

pub returns-then-is_empty : goal.returns-then-is_empty
returns-then-is_empty c =
    let none : length c.args.ip.now ≡ 0 = eqb-true (length c.args.ip.now) 0 (sym c.is_empty.ensures ∙ c.if-is_empty.true) in
    sym (no_address (string_bytes c.args.text.now) c.args.key.now c.args.ip.now none)

pub returns-then-ip-eq4 : goal.returns-then-ip-eq4
returns-then-ip-eq4 c = search (rules, four_more)
