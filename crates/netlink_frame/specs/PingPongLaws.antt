-- The ping-pong protocol is lawful.
use Rattle.std.specs.Prelude.{◌≡◌, ◌==◌, ◌↔◌, ℕ, Bool, true, false, List, Some, None, Vec, bytes_eq, refl, if◌then◌else◌}
use Rattle.std.specs.declared.alloc.Global.{Global}
use Rattle.std.specs.Cmp.Lexicographic.{bytes_decides}
use Rattle.std.proofs.Common.{arith, ap, sym, ◌∙◌, subst}
use Rattle.netlink_packet_core.specs.Protocol.{IsLawful}
use Rattle.netlink_packet_core.specs.declared.header.NetlinkHeader.{NetlinkHeader}
use Rattle.netlink_frame.specs.PingPong.{ping_pong_decoding, ping_pong_reading, ping_pong_bytes, ping_pong_type}
use Rattle.netlink_frame.specs.declared.ping_pong.PingPongMessage.{PingPongMessage}
use Rattle.netlink_frame.specs.declared.ping_pong.PingPongMessage.TheVariants.{Ping, Pong}

ping_is_lawful : (bytes : List ℕ) → IsLawful ping_pong_decoding (18, bytes)
ping_is_lawful bytes = record {
  own_type =
      (λ e. omega (arith, e), λ e. omega (arith, e), λ e. omega (arith, e), λ e. omega (arith, e));
  width = omega arith;
  again = λ h kind size. rw kind refl;
}

pong_is_lawful : (bytes : List ℕ) → IsLawful ping_pong_decoding (20, bytes)
pong_is_lawful bytes = record {
  own_type =
      (λ e. omega (arith, e), λ e. omega (arith, e), λ e. omega (arith, e), λ e. omega (arith, e));
  width = omega arith;
  again = λ h kind size. rw kind refl;
}

-- what a value represents is lawful
pub value_is_lawful : (v : PingPongMessage)
    → IsLawful ping_pong_decoding (ping_pong_type v, ping_pong_bytes v)
value_is_lawful (Ping bytes) = ping_is_lawful bytes.items
value_is_lawful (Pong bytes) = pong_is_lawful bytes.items

by_type : (is_ping is_pong : Bool) (payload : List ℕ) (pair : ℕ × List ℕ)
    → (if is_ping then Some (18, payload) else if is_pong then Some (20, payload) else None)
    ≡ Some pair → IsLawful ping_pong_decoding pair
by_type true is_pong payload pair gives = let same : (18, payload) ≡ pair = cc in
    subst (IsLawful ping_pong_decoding) same (ping_is_lawful payload)
by_type false true payload pair gives = let same : (20, payload) ≡ pair = cc in
    subst (IsLawful ping_pong_decoding) same (pong_is_lawful payload)
by_type false false payload pair gives = cc

-- and so is what a payload decodes to
pub reading_is_lawful : (h : NetlinkHeader) (payload : List ℕ) (pair : ℕ × List ℕ)
    → ping_pong_reading h payload ≡ Some pair → IsLawful ping_pong_decoding pair
reading_is_lawful h payload pair gives =
    by_type (h.message_type == 18) (h.message_type == 20) payload pair gives

-- if `eq` compares the variants and then their bytes, two values are equal if and only if they
-- represent the same type and encoding
pub equal_pairs : (eq : PingPongMessage → PingPongMessage → Bool)
    → ((a b : Vec ℕ Global) → eq (Ping a) (Ping b) ≡ bytes_eq a.items b.items)
    → ((a b : Vec ℕ Global) → eq (Pong a) (Pong b) ≡ bytes_eq a.items b.items)
    → ((a b : Vec ℕ Global) → eq (Ping a) (Pong b) ≡ false)
    → ((a b : Vec ℕ Global) → eq (Pong a) (Ping b) ≡ false)
    → (v w : PingPongMessage)
    → (eq v w ≡ true) ↔ (ping_pong_decoding.stands_for v ≡ ping_pong_decoding.stands_for w)
equal_pairs eq pings pongs apart apart' (Ping a) (Ping b) = (
  λ e. ap (λ (t : List ℕ). (18, t)) ((bytes_decides a.items b.items).0 (sym (pings a b) ∙ e)),
  λ e. pings a b ∙ (bytes_decides a.items b.items).1 (ap (λ (p : ℕ × List ℕ). p.1) e),
)
equal_pairs eq pings pongs apart apart' (Pong a) (Pong b) = (
  λ e. ap (λ (t : List ℕ). (20, t)) ((bytes_decides a.items b.items).0 (sym (pongs a b) ∙ e)),
  λ e. pongs a b ∙ (bytes_decides a.items b.items).1 (ap (λ (p : ℕ × List ℕ). p.1) e),
)
equal_pairs eq pings pongs apart apart' (Ping a) (Pong b) = (
  λ e. let no = apart a b in cc,
  λ e. let f : 18 ≡ 20 = ap (λ (p : ℕ × List ℕ). p.0) e in
      absurd (omega arith),
)
equal_pairs eq pings pongs apart apart' (Pong a) (Ping b) = (
  λ e. let no = apart' a b in cc,
  λ e. let f : 20 ≡ 18 = ap (λ (p : ℕ × List ℕ). p.0) e in
      absurd (omega arith),
)
