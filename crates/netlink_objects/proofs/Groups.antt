-- The members of a group of next hops, one after another.
use Rattle.std.proofs.Common.{◌≡◌, ◌∙◌, ◌<◌, ◌≤◌, ◌-◌, ap, arith, refl, sym, ℕ, List, [], ◌∷◌, drop, length, take, take_all}
use Rattle.netlink_json.specs.Fields.{Written, with_item, with_items}
use Rattle.netlink_objects.specs.NextHopGroup.{group_items, member_json}

-- fewer than eight bytes have none
pub no_member : (so_far : Written) (group : List ℕ) → length group < 8 → with_items so_far (group_items group) ≡ so_far
unfolding group_items
no_member so_far [] short = refl
no_member so_far (a ∷ []) short = refl
no_member so_far (a ∷ b ∷ []) short = refl
no_member so_far (a ∷ b ∷ c ∷ []) short = refl
no_member so_far (a ∷ b ∷ c ∷ d ∷ []) short = refl
no_member so_far (a ∷ b ∷ c ∷ d ∷ e ∷ []) short = refl
no_member so_far (a ∷ b ∷ c ∷ d ∷ e ∷ f ∷ []) short = refl
no_member so_far (a ∷ b ∷ c ∷ d ∷ e ∷ f ∷ g ∷ []) short = refl
no_member so_far (a ∷ b ∷ c ∷ d ∷ e ∷ f ∷ g ∷ h ∷ rest) short = absurd (omega (arith, short))

-- a member before others
more_members : (group : List ℕ) → 8 ≤ length group
    → group_items group ≡ member_json group ∷ group_items (take (length group - 8) (drop 8 group))
unfolding group_items
more_members [] long = absurd (omega (arith, long))
more_members (a ∷ []) long = absurd (omega (arith, long))
more_members (a ∷ b ∷ []) long = absurd (omega (arith, long))
more_members (a ∷ b ∷ c ∷ []) long = absurd (omega (arith, long))
more_members (a ∷ b ∷ c ∷ d ∷ []) long = absurd (omega (arith, long))
more_members (a ∷ b ∷ c ∷ d ∷ e ∷ []) long = absurd (omega (arith, long))
more_members (a ∷ b ∷ c ∷ d ∷ e ∷ f ∷ []) long = absurd (omega (arith, long))
more_members (a ∷ b ∷ c ∷ d ∷ e ∷ f ∷ g ∷ []) long = absurd (omega (arith, long))
more_members (a ∷ b ∷ c ∷ d ∷ e ∷ f ∷ g ∷ h ∷ rest) long =
    let same : take (length (a ∷ b ∷ c ∷ d ∷ e ∷ f ∷ g ∷ h ∷ rest) - 8) rest ≡ rest =
    take_all (length (a ∷ b ∷ c ∷ d ∷ e ∷ f ∷ g ∷ h ∷ rest) - 8) rest (omega arith) in
    ap (λ (more : List ℕ). member_json (a ∷ b ∷ c ∷ d ∷ e ∷ f ∷ g ∷ h ∷ rest) ∷ group_items more) (sym same)

-- after a member, the rest leads to the same array
pub member_step : (old new whole : Written) (group : List ℕ) → 8 ≤ length group → new ≡ with_item old (member_json group)
    → with_items old (group_items group) ≡ whole
    → with_items new (group_items (take (length group - 8) (drop 8 group))) ≡ whole
member_step old new whole group long put before =
    ap (λ (w : Written). with_items w (group_items (take (length group - 8) (drop 8 group)))) put
    ∙ sym (ap (with_items old) (more_members group long))
    ∙ before
