-- The members of a group, one after another.
use Rattle.std.proofs.Common.{◌≡◌, ◌<◌, ◌≤◌, ◌+◌, ◌*◌, ◌-◌, ap, arith, refl, sym, ℕ, List, [], ◌∷◌, drop, get_or, length, take, take_all}
use Rattle.netlink_next_hop_lines.specs.Group.{id_of, with_member, with_members}

-- the id and the weight less 1 of the member at the start of bytes
abbrev pub first_id : List ℕ → ℕ
first_id bytes = id_of (get_or bytes 0 0) (get_or bytes 1 0) (get_or bytes 2 0) (get_or bytes 3 0)

abbrev pub first_weight : List ℕ → ℕ
first_weight bytes = get_or bytes 5 0 * 256 + get_or bytes 4 0

-- fewer than eight bytes have none
pub no_member : (text bytes : List ℕ) → length bytes < 8 → with_members text bytes ≡ text
unfolding with_members
no_member text [] short = refl
no_member text (a ∷ []) short = refl
no_member text (a ∷ b ∷ []) short = refl
no_member text (a ∷ b ∷ c ∷ []) short = refl
no_member text (a ∷ b ∷ c ∷ d ∷ []) short = refl
no_member text (a ∷ b ∷ c ∷ d ∷ low ∷ []) short = refl
no_member text (a ∷ b ∷ c ∷ d ∷ low ∷ high ∷ []) short = refl
no_member text (a ∷ b ∷ c ∷ d ∷ low ∷ high ∷ e ∷ []) short = refl
no_member text (a ∷ b ∷ c ∷ d ∷ low ∷ high ∷ e ∷ f ∷ rest) short = absurd (omega (arith, short))

-- a member, and what follows it
pub next_member : (text bytes : List ℕ) → 8 ≤ length bytes
    → with_members text bytes ≡ with_members (with_member text (first_id bytes) (first_weight bytes)) (take (length bytes - 8) (drop 8 bytes))
unfolding with_members
next_member text [] long = absurd (omega (arith, long))
next_member text (a ∷ []) long = absurd (omega (arith, long))
next_member text (a ∷ b ∷ []) long = absurd (omega (arith, long))
next_member text (a ∷ b ∷ c ∷ []) long = absurd (omega (arith, long))
next_member text (a ∷ b ∷ c ∷ d ∷ []) long = absurd (omega (arith, long))
next_member text (a ∷ b ∷ c ∷ d ∷ low ∷ []) long = absurd (omega (arith, long))
next_member text (a ∷ b ∷ c ∷ d ∷ low ∷ high ∷ []) long = absurd (omega (arith, long))
next_member text (a ∷ b ∷ c ∷ d ∷ low ∷ high ∷ e ∷ []) long = absurd (omega (arith, long))
next_member text (a ∷ b ∷ c ∷ d ∷ low ∷ high ∷ e ∷ f ∷ rest) long =
    let same : take (length (a ∷ b ∷ c ∷ d ∷ low ∷ high ∷ e ∷ f ∷ rest) - 8) rest ≡ rest =
    take_all (length (a ∷ b ∷ c ∷ d ∷ low ∷ high ∷ e ∷ f ∷ rest) - 8) rest (omega arith) in
    sym (ap (with_members (with_member text (id_of a b c d) (high * 256 + low))) same)
