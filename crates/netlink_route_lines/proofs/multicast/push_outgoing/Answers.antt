use Rattle.std.proofs.Common.{ℕ, List, ap, rules, subst, OnOk, string_bytes, ◌≡◌, ◌∙◌, ◌++◌, length, take}
use Rattle.std.proofs.lemmas.List.{take_at}
use Rattle.netlink_family.specs.Values.{value_bytes}
use Rattle.netlink_words.specs.Parts.{with_part}
use Rattle.netlink_route_lines.specs.Multicast.{outgoing_text}
use Rattle.netlink_route_lines.proofs.multicast.push_outgoing.Goals as goal

pub returns : goal.returns
returns c =
    let header : List ℕ = c.in-HeaderNested.header.bytes.now in
    let block : List ℕ = c.in-HeaderNested.field-1.block.now in
    let size : length header ≡ 4 = search rules in
    let bytes : value_bytes c.args.value ≡ header ++ block = ap value_bytes c.in-HeaderNested.is in
    let front : take 4 (value_bytes c.args.value) ≡ header = ap (take 4) bytes ∙ take_at header block 4 size in
    let is : c.as_str.result.now ≡ outgoing_text c.args.known.now c.args.word header =
    c.as_str.ensures.value ∙ c.in_ok-outgoing_text-in-HeaderNested.ensures in
    rw (front) (subst (λ (l : List ℕ). OnOk c.push_part.result (string_bytes c.push_part.new.text ≡ with_part (string_bytes c.args.text.now) l))
    is c.push_part.ensures)
