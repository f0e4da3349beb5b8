use Rattle.std.proofs.Common.{◌≡◌, ◌∙◌, ◌%◌, ◌-◌, ap, arith, sym, ℕ, List, drop, get_or, length, string_bytes, take}
use Rattle.netlink_route_lines.specs.Mpls.{labels_text, with_label, with_labels}
use Rattle.netlink_route_lines.proofs.Labels.{last_label, next_label, no_label}
use Rattle.netlink_route_lines.proofs.mpls.labels_text.Goals as goal

pub returns-then-low-eq1 : goal.returns-then-low-eq1
unfolding labels_text
returns-then-low-eq1 c =
    let text : List ℕ = string_bytes c.loop-rest.text in
    let label : string_bytes c.push_label.new.text ≡ with_label text c.label_of.result = c.in_ok-push_label.ensures in
    label ∙ ap (with_label text) c.label_of.ensures
    ∙ sym (last_label text c.loop-rest.rest.now c.in-len4-up.len_at_least c.if-low-eq1.true)
    ∙ c.loop-rest.invariant

pub loop-rest-preserved : goal.loop-rest-preserved
loop-rest-preserved c =
    let text : List ℕ = string_bytes c.loop-rest.text in
    let rest : List ℕ = c.loop-rest.rest.now in
    let label : string_bytes c.push_label.new.text ≡ with_label text c.label_of.result = c.in_ok-push_label.ensures in
    let more : List ℕ = take (length rest - 4) (drop 4 rest) in
    let even : get_or rest 2 0 % 2 ≡ 0 = omega (arith, c.if-low-eq1.false) in
    ap (λ (t : List ℕ). with_labels t more) (label ∙ ap (with_label text) c.label_of.ensures)
    ∙ sym (next_label text rest c.in-len4-up.len_at_least even)
    ∙ c.loop-rest.invariant

pub returns : goal.returns
unfolding labels_text
returns c =
    sym (no_label (string_bytes c.loop-rest.text) c.loop-rest.rest.now c.in_default.len_below) ∙ c.loop-rest.invariant
