-- Two protocols are equal by the derived `==` if and only if they are the same value.
use Rattle.std.proofs.Common.{◌≡◌, ◌↔◌, ℕ, zero, suc, Bool, true, false, nat_eq, List, [], ◌∷◌, IsTrue, inl, inr, ap, arith}
use Rattle.std.proofs.lemmas.Grind.{common_steps}
use denote.Enum.Compared.{Each, by}
use denote.Enum.Declared.{Choice, left_or, right_or, values_one}
use denote.Struct.Field.{Field, u16-field}
use Rattle.netlink_ethernet.specs.contracts.protocol.EthernetProtocol.{as_values, enum}
use Rattle.netlink_ethernet.specs.contracts.protocol.EthernetProtocolPartialEq.TheImpl
use Rattle.netlink_ethernet.specs.declared.protocol.EthernetProtocol.{EthernetProtocol}

-- n variants without fields, and then one with a number
abbrev parts_of : ℕ → List (List Field)
parts_of zero = (u16-field ∷ []) ∷ []
parts_of (suc n) = [] ∷ parts_of n

-- how the derived `==` compares two values of each variant
abbrev each_of : (n : ℕ) → Each Bool (parts_of n)
each_of zero = (λ x y. nat_eq x.0 y.0, tt)
each_of (suc n) = (λ x y. true, each_of n)

same_choice : (n : ℕ) (c d : Choice (parts_of n)) → IsTrue (by false false (parts_of n) (each_of n) c d) ↔ (c ≡ d)
same_choice zero (inl x) (inl y) =
    let same : x.0 ≡ y.0 → inl x ≡ inl y = ap (λ (k : ℕ). inl (k, tt)) in
    let same_number : inl x ≡ inl y → x.0 ≡ y.0 = ap (λ (c : Choice (parts_of zero)). (left_or x c).0) in
    (λ t. same (grind (arith, common_steps)), λ e. let number = same_number e in grind (arith, common_steps))
same_choice zero (inl x) (inr y) = absurd y
same_choice zero (inr x) d = absurd x
same_choice (suc n) (inl x) (inl y) = grind (arith, common_steps)
same_choice (suc n) (inl x) (inr y) = grind (arith, common_steps)
same_choice (suc n) (inr x) (inl y) = grind (arith, common_steps)
same_choice (suc n) (inr x) (inr y) =
    let rest = same_choice n x y in
    (λ t. ap inr (rest.0 t), λ e. rest.1 (ap (right_or x) e))

pub same_protocol : (a b : EthernetProtocol) → IsTrue (TheImpl.ghosts.eq a b) ↔ (a ≡ b)
same_protocol a b =
    let both = same_choice 102 (as_values a) (as_values b) in
    (λ t. values_one enum a b (both.0 t), λ e. both.1 (ap as_values e))
