-- Where the request and the attributes are in the body of an error message.
use Rattle.std.proofs.Common.{◌≡◌, ℕ, ◌+◌, ◌-◌, ◌≤◌, Bool, List, [], length, take, drop, refl, ap, ◌∙◌, arith}
use Rattle.std.specs.Prelude.{if◌then◌else◌}
use Rattle.netlink_c.specs.Parts.{part_from}
use Rattle.netlink_c.proofs.ReplyLemmas.{attributes_at}

-- the attributes are not longer than the body
pub attributes_inside : (b : Bool) (n : ℕ) (payload : List ℕ) (size : ℕ)
    → size ≡ length (if b then drop n (drop 4 payload) else []) → size ≤ length payload
attributes_inside b n payload size is =
    let inside = (attributes_at payload b n 4 (drop 4 payload) refl).inside in
    omega arith

-- and end it
pub attributes_part : (b : Bool) (n : ℕ) (payload : List ℕ) (size : ℕ)
    → size ≡ length (if b then drop n (drop 4 payload) else [])
    → part_from (length payload - size) size payload ≡ (if b then drop n (drop 4 payload) else [])
attributes_part b n payload size is =
    let x : List ℕ = if b then drop n (drop 4 payload) else [] in
    let at = attributes_at payload b n 4 (drop 4 payload) refl in
    let inside = at.inside in
    let sizes : (length payload - size + size) - (length payload - size) ≡ length x = omega arith in
    ap (λ (k : ℕ). take k (drop (length payload - size) payload)) sizes
    ∙ ap (λ (k : ℕ). take (length x) (drop (length payload - k) payload)) is ∙ at.same
