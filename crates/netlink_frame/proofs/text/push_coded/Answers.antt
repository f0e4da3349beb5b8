use Rattle.std.proofs.Common.{List, ℕ, ◌∷◌, [], ◌++◌, ◌∙◌, ap, string_bytes, w32}
use Rattle.std.proofs.lemmas.Int.{to_z-of_z}
use Rattle.std.specs.Prelude.{ℤ}
use Rattle.std.specs.Fmt.{signed_decimal}
use Rattle.netlink_packet_core.specs.Text.{hex_text}
use Rattle.netlink_frame.proofs.Lines.{code_joins}
use Rattle.netlink_frame.proofs.text.push_coded.Goals as goal

pub returns : goal.returns
returns c =
    let front : List ℕ = string_bytes c.args.text.now in
    let code = ap (λ (z : ℤ). c.args.name.now ++ (signed_decimal z ++ (32 ∷ []))) (to_z-of_z w32 c.args.code c.ranges.code) in
    code_joins front _ _ c.args.name.now (signed_decimal c.args.code) (hex_text c.args.bytes.now)
    (c.in_ok-push_str.ensures.bytes ∙ ap (λ (t : List ℕ). front ++ t) (c.as_str.ensures.value ∙ c.in_ok-code_text.ensures ∙ code))
    c.in_ok-push_hex.ensures.appends
