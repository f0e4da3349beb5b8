-- The messages of every family are lawful.
use Rattle.std.specs.Prelude.{ℕ, ◌≡◌, ◌==◌, nat_le, nat_lt, ◌≤◌, ◌<◌, ◌^◌, Bool, true, false, not, ◌||◌, List, [], ◌∷◌, ◌++◌, Option, Some, None, refl, if◌then◌else◌}
use Rattle.std.proofs.Common.{arith, ap, sym, ◌∙◌, inl, inr}
use Rattle.std.proofs.lemmas.Bool.{and_parts, eqb-true, leb-true, ltb-true, or_cases}
use Rattle.netlink_packet_core.specs.Protocol.{IsLawful, IsOwnType}
use Rattle.netlink_packet_core.specs.declared.header.NetlinkHeader.{NetlinkHeader}
use Rattle.netlink_family.specs.PayloadReading.{short_reading}
use Rattle.netlink_family.specs.ShortLaws.{short_again}
use Rattle.netlink_family.specs.Message.{message_decoding, message_reading}
use Rattle.netlink_shapes.specs.Shapes.{are_own, has_type}
use Rattle.netlink_shapes.specs.Blocks.{KeepsValues, ValueReading}

-- ---- a canonical payload is read as itself

abbrev by_family : (ℕ → Bool) → (ℕ → ℕ) → (ℕ → ValueReading) → Bool → ℕ → List ℕ → Option (ℕ × List ℕ)
by_family short size values is t payload =
    if is then short_reading (short t) (size t) (values t) t payload else None

pub message_reads : (is_type short : ℕ → Bool) (size : ℕ → ℕ) (values : ℕ → ValueReading) (t : ℕ) → is_type t ≡ true
    → (h : NetlinkHeader) (payload : List ℕ) → h.message_type ≡ t
    → message_reading is_type short size values h payload ≡ short_reading (short t) (size t) (values t) t payload
message_reads is_type short size values t is h payload here =
    ap (λ (n : ℕ). by_family short size values (is_type n) n payload) here
    ∙ ap (λ (b : Bool). by_family short size values b t payload) is

-- every type is at least 5 and has 16 bits
abbrev pub HasOwnTypes : (ℕ → Bool) → Type 0
HasOwnTypes is_type = (t : ℕ) → is_type t ≡ true → (5 ≤ t) × (t < 2 ^ 16)

pub own_type : (t own : ℕ) → t ≡ own → 5 ≤ own → IsOwnType t
own_type t own same five = (
  λ e. omega (arith, e, same, five),
  λ e. omega (arith, e, same, five),
  λ e. omega (arith, e, same, five),
  λ e. omega (arith, e, same, five),
)

message_lawful : {I : Type 0} (stands_for : I → ℕ × List ℕ) (is_type short : ℕ → Bool) (size : ℕ → ℕ)
    (values : ℕ → ValueReading) (t : ℕ) (pair : ℕ × List ℕ) → HasOwnTypes is_type → is_type t ≡ true
    → pair.0 ≡ t → short_reading (short t) (size t) (values t) t pair.1 ≡ Some pair
    → IsLawful (message_decoding stands_for is_type short size values) pair
message_lawful stands_for is_type short size values t pair own is kind again =
    let range = own t is in
    record {
      own_type = own_type pair.0 t kind range.0;
      width = omega (arith, kind, range);
      again = λ h same sized.
          message_reads is_type short size values t is h pair.1 (same ∙ kind) ∙ again;
    }

by_type : {I : Type 0} (stands_for : I → ℕ × List ℕ) (is_type short : ℕ → Bool) (size : ℕ → ℕ)
    (values : ℕ → ValueReading) → HasOwnTypes is_type → ((t : ℕ) → KeepsValues (values t))
    → (is : Bool) (t : ℕ) (payload : List ℕ) (pair : ℕ × List ℕ) → is_type t ≡ is
    → by_family short size values is t payload ≡ Some pair
    → IsLawful (message_decoding stands_for is_type short size values) pair
by_type stands_for is_type short size values own keeps true t payload pair is gives =
    let again = short_again (short t) (size t) (values t) t payload pair (keeps t) gives in
    message_lawful stands_for is_type short size values t pair own is again.0 again.1
by_type stands_for is_type short size values own keeps false t payload pair not gives = absurd (cc)

-- what is read is lawful
pub reading_lawful : {I : Type 0} (stands_for : I → ℕ × List ℕ) (is_type short : ℕ → Bool) (size : ℕ → ℕ)
    (values : ℕ → ValueReading) → HasOwnTypes is_type → ((t : ℕ) → KeepsValues (values t))
    → (h : NetlinkHeader) (payload : List ℕ) (pair : ℕ × List ℕ)
    → message_reading is_type short size values h payload ≡ Some pair
    → IsLawful (message_decoding stands_for is_type short size values) pair
reading_lawful stands_for is_type short size values own keeps h payload pair gives =
    by_type stands_for is_type short size values own keeps (is_type h.message_type) h.message_type
    payload pair refl gives

own_in : (types : List ℕ) (t : ℕ) → are_own types ≡ true → has_type types t ≡ true → (5 ≤ t) × (t < 2 ^ 16)
own_in [] t own is = absurd (cc)
own_in (one ∷ more) t own is =
    let p = and_parts (nat_le 5 one) _ own in
    let q = and_parts (nat_lt one (2 ^ 16)) _ p.1 in
    let r = and_parts (not (has_type more one)) (are_own more) q.1 in
    elim (or_cases (one == t) (has_type more t) is) [
      | inl here ↦ (let same = eqb-true one t here in let low = leb-true 5 one p.0 in
          let high = ltb-true one (2 ^ 16) q.0 in (omega arith, omega arith))
      | inr later ↦ own_in more t r.1 later
    ]

-- the message types of a family are its own
pub own_types : (types : List ℕ) → are_own types ≡ true → HasOwnTypes (has_type types)
own_types types good t is = own_in types t good is

or_assoc : (a b c : Bool) → (a || b) || c ≡ a || (b || c)
or_assoc true b c = refl
or_assoc false b c = refl

-- the message types of two tables
pub has_append : (types more : List ℕ) (t : ℕ) → has_type (types ++ more) t ≡ has_type types t || has_type more t
has_append [] more t = refl
has_append (one ∷ types) more t =
    ap (λ (b : Bool). one == t || b) (has_append types more t)
    ∙ sym (or_assoc (one == t) (has_type types t) (has_type more t))
