use Rattle.std.proofs.Common.{ℕ, List, ap, rules, ◌≡◌, ◌∙◌, ◌++◌, drop, length, take}
use Rattle.std.proofs.lemmas.List.{drop_at, take_at}
use Rattle.netlink_family.specs.Values.{value_bytes}
use Rattle.netlink_route_lines.proofs.route_hops.push_hop.Goals as goal

pub returns : goal.returns
returns c =
    let header : List ℕ = c.in-HeaderNested.header.bytes.now in
    let block : List ℕ = c.in-HeaderNested.attributes.block.now in
    let size : length header ≡ 4 = search rules in
    let bytes : value_bytes c.args.value ≡ header ++ block = ap value_bytes c.in-HeaderNested.is in
    let front : take 4 (value_bytes c.args.value) ≡ header = ap (take 4) bytes ∙ take_at header block 4 size in
    let rest : drop 4 (value_bytes c.args.value) ≡ block = ap (drop 4) bytes ∙ drop_at header block 4 size in
    rw (front, rest) c.push_hop_parts.ensures
