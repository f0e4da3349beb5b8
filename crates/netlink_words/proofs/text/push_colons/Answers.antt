use Rattle.std.proofs.Common.{◌≡◌, ◌∙◌, ◌++◌, ◌-◌, ap, subst, sym, drop, length, take, ℕ, List, OnOk, string_bytes}
use Rattle.netlink_words.specs.Text.{pairs}
use Rattle.netlink_words.specs.Pieces.{colons_first}
use Rattle.netlink_words.proofs.text.push_colons.Goals as goal

pub returns-in_ok-push_str-in-len1-up : goal.returns-in_ok-push_str-in-len1-up
returns-in_ok-push_str-in-len1-up c =
    let old : List ℕ = string_bytes c.args.text.now in
    let bytes : List ℕ = c.args.bytes.now in
    let rest : List ℕ = pairs (take (length bytes - 1) (drop 1 bytes)) in
    subst (λ (l : List ℕ). OnOk c.push_pairs.result (string_bytes c.push_pairs.new.text ≡ l))
    (ap (λ (l : List ℕ). l ++ rest) (c.in_ok-push_str-in-len1-up.ensures.bytes ∙ ap (λ (d : List ℕ). old ++ d) c.hex_pair.ensures.digits)
    ∙ sym (colons_first old bytes c.in-len1-up.len_at_least))
    c.push_pairs.ensures
