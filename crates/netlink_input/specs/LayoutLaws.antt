-- What the first bytes of an input tell of it.
use Rattle.std.proofs.Common.{◌≡◌, ◌≤◌, ◌+◌, ◌-◌, ◌++◌, ◌∙◌, refl, ap, arith, sym, ℕ, List, Option, Some, None, drop, take, length, length-append, length-drop, inl, inr}
use Rattle.std.proofs.lemmas.Bool.Decides.{eqb_tells}
use Rattle.std.proofs.lemmas.Bool.{le-leb, le-ltb, leb-true, ltb-false}
use Rattle.std.proofs.lemmas.List.{drop-append-le, take-append-le}
use Rattle.std.specs.Prelude.{Bool, true, false, ◌&&◌, ◌==◌, is_some, if◌then◌else◌, nat_lt, slice_range}
use Rattle.netlink_packet_core.specs.Header.{field}
use Rattle.netlink_packet_core.specs.Numbers.{number_be, number_le}
use Rattle.netlink_input.specs.Pcap.{is_pcap, layout_of, number_in, order_of, ordered_layout, pcap_layout, unread}
use Rattle.netlink_input.specs.declared.pcap.Layout.{Layout}
use Rattle.netlink_input.specs.declared.pcap.Layout.TheVariants.{Blocks, Messages, Packets}
use Rattle.netlink_input.specs.declared.pcap.Order.{Order}
use Rattle.netlink_input.specs.declared.pcap.Order.TheVariants.{Little, Big}
use Rattle.netlink_input.specs.declared.pcap.PcapFault.{PcapFault}
use Rattle.netlink_input.specs.ReadingLaws.{field_in}

-- ---- numbers at the start of more bytes

range_in : (at w : ℕ) (first more : List ℕ) → at + w ≤ length first
    → slice_range (first ++ more) at (at + w) ≡ slice_range first at (at + w)
range_in at w first more inside =
    let left : length (drop at first) ≡ length first - at = length-drop at first in
    ap (take (at + w - at)) (drop-append-le at first more (omega (arith, inside)))
    ∙ take-append-le (at + w - at) (drop at first) more (omega (arith, inside, left))

pub number_in_first : (order : Order) (at w : ℕ) (first more : List ℕ) → at + w ≤ length first
    → number_in order at w (first ++ more) ≡ number_in order at w first
number_in_first Little at w first more inside = ap number_le (range_in at w first more inside)
number_in_first Big at w first more inside = ap number_be (range_in at w first more inside)

-- ---- the magic number

and_left : (a b : Bool) → (a && b) ≡ true → a ≡ true
and_left true b is = refl
and_left false b is = is

pub pcap_long : (bytes : List ℕ) → is_pcap bytes ≡ true → 4 ≤ length bytes
pcap_long bytes is = leb-true 4 (length bytes) (and_left _ _ is)

pub pcap_by_order : (bytes : List ℕ) → 4 ≤ length bytes → is_pcap bytes ≡ is_some (order_of (field 0 4 bytes))
pcap_by_order bytes long =
    ap (λ (b : Bool). b && is_some (order_of (field 0 4 bytes))) (le-leb 4 (length bytes) long)

pub pcap_in : (first more : List ℕ) → 4 ≤ length first → is_pcap (first ++ more) ≡ is_pcap first
pcap_in first more long =
    pcap_by_order (first ++ more) (omega (arith, long, length-append first more))
    ∙ ap (λ (n : ℕ). is_some (order_of n)) (field_in first more long) ∙ sym (pcap_by_order first long)

-- ---- the layout

abbrev magic_layout : ℕ → List ℕ → Layout
magic_layout magic bytes = if magic == 168627466 then Blocks else ordered_layout (order_of magic) bytes

layout_by_magic : (bytes : List ℕ) → 4 ≤ length bytes → layout_of bytes ≡ magic_layout (field 0 4 bytes) bytes
layout_by_magic bytes long =
    ap (λ (b : Bool). if b then Messages else magic_layout (field 0 4 bytes) bytes) (le-ltb (length bytes) 4 long)

header_in : (order : Order) (first more : List ℕ) → 24 ≤ length first
    → pcap_layout order (first ++ more) ≡ pcap_layout order first
header_in order first more long =
    let one : nat_lt (length (first ++ more)) 24 ≡ false = le-ltb (length (first ++ more)) 24 (omega (arith, long, length-append first more)) in
    let two : nat_lt (length first) 24 ≡ false = le-ltb (length first) 24 long in
    let major = number_in_first order 4 2 first more (omega (arith, long)) in
    let minor = number_in_first order 6 2 first more (omega (arith, long)) in
    let link_type = number_in_first order 20 4 first more (omega (arith, long)) in
    rw (one, two, major, minor, link_type) refl

ordered_in : (order : Option Order) (first more : List ℕ) → (is_some order ≡ true → 24 ≤ length first)
    → ordered_layout order (first ++ more) ≡ ordered_layout order first
ordered_in None first more long = refl
ordered_in (Some order) first more long = header_in order first more (long refl)

magic_in : (magic : ℕ) (first more : List ℕ) → (is_some (order_of magic) ≡ true → 24 ≤ length first)
    → magic_layout magic (first ++ more) ≡ magic_layout magic first
magic_in magic first more long =
    ap (λ (l : Layout). if magic == 168627466 then Blocks else l) (ordered_in (order_of magic) first more long)

-- no byte after these is looked at
pub layout_in : (first more : List ℕ) → 4 ≤ length first → (is_pcap first ≡ true → 24 ≤ length first)
    → layout_of (first ++ more) ≡ layout_of first
layout_in first more long all =
    layout_by_magic (first ++ more) (omega (arith, long, length-append first more))
    ∙ ap (λ (n : ℕ). magic_layout n (first ++ more)) (field_in first more long)
    ∙ magic_in (field 0 4 first) first more (λ some. all (pcap_by_order first long ∙ some))
    ∙ sym (layout_by_magic first long)

-- ---- what the layout tells of the first bytes

short_header : (a b c : Bool) (order other : Order) (x y z : PcapFault)
    → (if a then unread 0 x else if b then (if c then Packets order else unread 20 y) else unread 4 z) ≡ Packets other
    → a ≡ false
short_header true b c order other x y z is = absurd cc
short_header false b c order other x y z is = refl

header_size : (order other : Order) (bytes : List ℕ) → pcap_layout order bytes ≡ Packets other → 24 ≤ length bytes
header_size order other bytes is =
    ltb-false (length bytes) 24 (short_header (nat_lt (length bytes) 24)
    (number_in order 4 2 bytes == 2 && number_in order 6 2 bytes == 4) (number_in order 20 4 bytes == 253) order other
    _ _ _ is)

no_messages : (a b c : Bool) (order : Order) (x y z : PcapFault)
    → (if a then unread 0 x else if b then (if c then Packets order else unread 20 y) else unread 4 z) ≡ Messages → ⊥
no_messages true b c order x y z is = absurd cc
no_messages false true true order x y z is = absurd cc
no_messages false true false order x y z is = absurd cc
no_messages false false c order x y z is = absurd cc

file_size : (order : Option Order) (other : Order) (bytes : List ℕ) → ordered_layout order bytes ≡ Packets other → 24 ≤ length bytes
file_size None other bytes is = absurd cc
file_size (Some order) other bytes is = header_size order other bytes is

no_order : (order : Option Order) (bytes : List ℕ) → ordered_layout order bytes ≡ Messages → is_some order ≡ false
no_order None bytes is = refl
no_order (Some order) bytes is =
    absurd (no_messages (nat_lt (length bytes) 24) (number_in order 4 2 bytes == 2 && number_in order 6 2 bytes == 4)
    (number_in order 20 4 bytes == 253) order _ _ _ is)

no_blocks : (a b c : Bool) (order : Order) (x y z : PcapFault)
    → (if a then unread 0 x else if b then (if c then Packets order else unread 20 y) else unread 4 z) ≡ Blocks → ⊥
no_blocks true b c order x y z is = absurd cc
no_blocks false true true order x y z is = absurd cc
no_blocks false true false order x y z is = absurd cc
no_blocks false false c order x y z is = absurd cc

no_order_of : (order : Option Order) (bytes : List ℕ) → ordered_layout order bytes ≡ Blocks → is_some order ≡ false
no_order_of None bytes is = refl
no_order_of (Some order) bytes is =
    absurd (no_blocks (nat_lt (length bytes) 24) (number_in order 4 2 bytes == 2 && number_in order 6 2 bytes == 4)
    (number_in order 20 4 bytes == 253) order _ _ _ is)

-- neither has the magic number of pcapng
other_magic : (b : Bool) (found wanted : Layout) → (if b then Blocks else found) ≡ wanted
    → (wanted ≡ Blocks → ⊥) → found ≡ wanted
other_magic true found wanted is not = absurd (not (sym is))
other_magic false found wanted is not = is

not_short : (b : Bool) (found : Layout) (order : Order) → (if b then Messages else found) ≡ Packets order
    → found ≡ Packets order
not_short true found order is = absurd cc
not_short false found order is = is

-- only a whole header is that of packets
pub packets_size : (bytes : List ℕ) (order : Order) → layout_of bytes ≡ Packets order → 24 ≤ length bytes
packets_size bytes order is =
    let magic : ℕ = field 0 4 bytes in
    let long : magic_layout magic bytes ≡ Packets order = not_short (nat_lt (length bytes) 4) (magic_layout magic bytes) order is in
    file_size (order_of magic) order bytes
    (other_magic (magic == 168627466) (ordered_layout (order_of magic) bytes) (Packets order) long (λ e. absurd cc))

-- messages have no magic number
pub messages_magic : (bytes : List ℕ) → layout_of bytes ≡ Messages → 4 ≤ length bytes → is_pcap bytes ≡ false
messages_magic bytes is long =
    let magic : ℕ = field 0 4 bytes in
    let whole : magic_layout magic bytes ≡ Messages = sym (layout_by_magic bytes long) ∙ is in
    pcap_by_order bytes long ∙ no_order (order_of magic) bytes
    (other_magic (magic == 168627466) (ordered_layout (order_of magic) bytes) Messages whole (λ e. absurd cc))

-- the magic number of pcapng is not that of pcap
blocks_number : (magic : ℕ) (bytes : List ℕ) → magic_layout magic bytes ≡ Blocks → is_some (order_of magic) ≡ false
blocks_number magic bytes is =
    elim (eqb_tells magic 168627466) [
      | inl (same, number) ↦ ap (λ (n : ℕ). is_some (order_of n)) number
      | inr (other, not) ↦ no_order_of (order_of magic) bytes
          (sym (ap (λ (b : Bool). if b then Blocks else ordered_layout (order_of magic) bytes) other) ∙ is)
    ]

pub blocks_magic : (bytes : List ℕ) → layout_of bytes ≡ Blocks → 4 ≤ length bytes → is_pcap bytes ≡ false
blocks_magic bytes is long =
    pcap_by_order bytes long ∙ blocks_number (field 0 4 bytes) bytes (sym (layout_by_magic bytes long) ∙ is)
