use Rattle.std.proofs.Common.{◌≡◌, List, ℕ, [], ◌∷◌, ◌++◌, ap, ◌∙◌, append_assoc}
use Rattle.std.specs.Fmt.{decimal}
use Rattle.std.specs.Prelude.{codes}
use Rattle.netlink_packet_core.proofs.payload.refusal.Goals as goal

joined : (text front line number rest : List ℕ) → front ≡ line ++ (number ++ (58 ∷ 32 ∷ [])) → text ≡ front ++ rest
    → text ≡ line ++ (number ++ (58 ∷ 32 ∷ rest))
joined text front line number rest written pushed =
    pushed ∙ ap (λ (s : List ℕ). s ++ rest) written ∙ append_assoc line (number ++ (58 ∷ 32 ∷ [])) rest
    ∙ ap (λ (s : List ℕ). line ++ s) (append_assoc number (58 ∷ 32 ∷ []) rest)

pub returns : goal.returns
returns g c =
    let line : List ℕ = codes "Failed to parse message with type " in
    let number : List ℕ = decimal c.args.message_type in
    let empty = ap (λ (s : List ℕ). s ++ (line ++ (number ++ (58 ∷ 32 ∷ [])))) c.in_ok-text.ensures.bytes in
    (c.as_str.result.now, joined _ _ line number _ (c.in-Ok-write.ensures.bytes ∙ empty) c.in_ok-push_str.ensures.bytes)
