use Rattle.std.proofs.Common.{◌≡◌, ℕ, zero, suc, List, [], ◌∷◌, length, ap, ◌∙◌, arith}
use Rattle.netlink_attributes.specs.Block.{canonical_block}
use Rattle.netlink_attributes.specs.Nla.{attribute_with, kept_attribute, AllFit}
use Rattle.netlink_attributes.specs.declared.default.DefaultNla.{DefaultNla}
use Rattle.netlink_attributes.specs.Sizes.{length-canonical_block}
use Rattle.netlink_attributes_tests.proofs.tests.written.a_list_leaves_the_rest.Goals as goal

two_fit : {T : Type 0} (value_of : T → List ℕ) (a b : T) → length (value_of a) ≡ 1 → length (value_of b) ≡ 0 → AllFit value_of (a ∷ b ∷ [])
two_fit value_of a b p q zero d inside = omega (arith, p)
two_fit value_of a b p q (suc zero) d inside = omega (arith, q)
two_fit value_of a b p q (suc (suc k)) d inside = absurd (omega arith)

two_sizes : (k m : ℕ) (v w : List ℕ) → length v ≡ 1 → length w ≡ 0
    → length (canonical_block (attribute_with k v ∷ attribute_with m w ∷ [])) ≡ 12
two_sizes k m v w p q =
    let whole = length-canonical_block (attribute_with k v) (attribute_with m w ∷ []) in
    let second = length-canonical_block (attribute_with m w) [] in
    omega (arith, whole, second, p, q)

pub buffer_len-requires : goal.buffer_len-requires
buffer_len-requires g c =
    let size =
    two_sizes c.new.result.kind c.new-3.result.kind c.new.result.value.items c.new-3.result.value.items
    (ap length (c.new.ensures.value ∙ c.in_ok-vec.ensures.items)) (ap length (c.new-3.ensures.value ∙ c.new-2.ensures.items)) in
    record { in_size = omega (arith, size) }

pub emit-requires : goal.emit-requires
emit-requires g c =
    let first = ap length (c.new.ensures.value ∙ c.in_ok-vec.ensures.items) in
    let second = ap length (c.new-3.ensures.value ∙ c.new-2.ensures.items) in
    let size = two_sizes c.new.result.kind c.new-3.result.kind c.new.result.value.items c.new-3.result.value.items first second in
    record {
      can = two_fit (λ (nla : DefaultNla). (kept_attribute nla).value) c.new.result c.new-3.result first second;
      room = omega
          (arith, size);
    }
