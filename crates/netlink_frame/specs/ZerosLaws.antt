-- The protocol of zeros is lawful.
use Rattle.std.specs.Prelude.{◌≡◌, ◌==◌, zero, suc, ◌↔◌, ℕ, Bool, true, false, List, [], ◌∷◌, Some, None, length, replicate, nat_eq, refl, if◌then◌else◌}
use Rattle.std.proofs.Common.{arith, ap, sym, ◌∙◌, subst}
use Rattle.std.proofs.lemmas.List.{length-replicate}
use Rattle.std.proofs.lemmas.Bool.{and_parts}
use Rattle.std.proofs.lemmas.Bool.Decides.{Decides-eqb}
use Rattle.netlink_packet_core.specs.Numbers.{number_le}
use Rattle.netlink_packet_core.specs.Protocol.{IsLawful}
use Rattle.netlink_packet_core.specs.declared.header.NetlinkHeader.{NetlinkHeader}
use Rattle.netlink_frame.specs.Zeros.{are_zeros, zeros_decoding, zeros_reading, zeros_bytes}
use Rattle.netlink_frame.specs.declared.samples.Zeros.{Zeros}

pub are_zeros-replicate : (n : ℕ) → are_zeros (replicate n 0) ≡ true
are_zeros-replicate zero = refl
are_zeros-replicate (suc n) = are_zeros-replicate n

-- bytes that are all zero are a list of that many zeros
pub all_zeros : (bytes : List ℕ) → are_zeros bytes ≡ true → bytes ≡ replicate (length bytes) 0
all_zeros [] e = refl
all_zeros (b ∷ bytes) e =
    let parts = and_parts (b == 0) (are_zeros bytes) e in
    let first : b ≡ 0 = (Decides-eqb b 0).0 parts.0 in
    let more : bytes ≡ replicate (length bytes) 0 = all_zeros bytes parts.1 in
    λ i. first i ∷ more i

zeros_are_lawful : (n : ℕ) → IsLawful zeros_decoding (18, replicate n 0)
zeros_are_lawful n = record {
  own_type =
      (λ e. omega (arith, e), λ e. omega (arith, e), λ e. omega (arith, e), λ e. omega (arith, e));
  width = omega arith;
  again = λ h kind size. rw (kind, are_zeros-replicate n) refl;
}

-- what a value represents is lawful
pub value_is_lawful : (v : Zeros) → IsLawful zeros_decoding (18, zeros_bytes v)
value_is_lawful v = zeros_are_lawful v.0

by_type : (is_zeros all_zero is_count has_width : Bool) (payload : List ℕ) (n : ℕ)
    (pair : ℕ × List ℕ) → (all_zero ≡ true → payload ≡ replicate (length payload) 0)
    → (if is_zeros then (if all_zero then Some (18, payload) else None) else if is_count
    then (if has_width then Some (18, replicate n 0) else None) else None) ≡ Some pair
    → IsLawful zeros_decoding pair
by_type true true is_count has_width payload n pair zeros gives =
    let all : payload ≡ replicate (length payload) 0 = zeros refl in
    let same : (18, replicate (length payload) 0) ≡ pair = cc in
    subst (IsLawful zeros_decoding) same (zeros_are_lawful (length payload))
by_type true false is_count has_width payload n pair zeros gives = cc
by_type false all_zero true true payload n pair zeros gives =
    let same : (18, replicate n 0) ≡ pair = cc in
    subst (IsLawful zeros_decoding) same (zeros_are_lawful n)
by_type false all_zero true false payload n pair zeros gives = cc
by_type false all_zero false has_width payload n pair zeros gives = cc

-- and so is what a payload decodes to
pub reading_is_lawful : (h : NetlinkHeader) (payload : List ℕ) (pair : ℕ × List ℕ)
    → zeros_reading h payload ≡ Some pair → IsLawful zeros_decoding pair
reading_is_lawful h payload pair gives =
    by_type (h.message_type == 18) (are_zeros payload) (h.message_type == 19) (length payload == 8)
    payload (number_le payload) pair (all_zeros payload) gives

-- two counts are equal if and only if they represent the same type and encoding
pub equal_pairs : (v w : Zeros)
    → (nat_eq v.0 w.0 ≡ true) ↔ (zeros_decoding.stands_for v ≡ zeros_decoding.stands_for w)
equal_pairs v w = (
  λ e. ap (λ (n : ℕ). (18, replicate n 0)) ((Decides-eqb v.0 w.0).0 e),
  λ e. (Decides-eqb v.0 w.0).1
      (sym (length-replicate v.0 0) ∙ ap (λ (p : ℕ × List ℕ). length p.1) e
      ∙ length-replicate w.0 0),
)
