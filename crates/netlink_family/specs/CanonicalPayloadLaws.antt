-- Messages that own their canonical payload are lawful.
use Rattle.std.specs.Prelude.{ℕ, ◌≡◌, ◌↔◌, ◌≤◌, ◌-◌, ◌<◌, Bool, true, false, ◌&&◌, List, [], ◌∷◌, ◌++◌, length, take, drop, nat_le, nat_eq, bytes_eq, Option, Some, None, All, refl, if◌then◌else◌}
use Rattle.std.specs.Cmp.Lexicographic.{bytes_decides}
use Rattle.std.specs.List.{list_all}
use Rattle.std.specs.Option.{option_map}
use Rattle.std.proofs.Common.{ap, arith, subst, sym, ◌∙◌, length-append}
use Rattle.std.proofs.lemmas.Bool.{and_from, and_parts, eqb-true, eq-eqb, le-leb, lt-leb}
use Rattle.std.proofs.lemmas.List.{length-take-le}
use Rattle.std.proofs.lemmas.List.Elements.{All-head, All-tail}
use Rattle.netlink_packet_core.specs.Attribute.{Attribute, FitsAttribute}
use Rattle.netlink_packet_core.specs.Block.{canonical_block}
use Rattle.netlink_packet_core.specs.Nla.{block_max}
use Rattle.netlink_packet_core.specs.Protocol.{IsLawful}
use Rattle.netlink_packet_core.specs.Reading.{attributes_in}
use Rattle.netlink_packet_core.specs.ReadingLaws.{attributes_in-fit, attributes_in-walk}
use Rattle.netlink_packet_core.specs.Walk.{Walk}
use Rattle.netlink_packet_core.specs.declared.header.NetlinkHeader.{NetlinkHeader}
use Rattle.netlink_shapes.specs.Blocks.{ValueReading, all_normalized, block_fits, block_reading, keep_fit, normalize, value_fits}
use Rattle.netlink_family.specs.PayloadReading.{after_header, payload_again, payload_reading, payload_written, short_reading}
use Rattle.netlink_shapes.specs.Errors.{block_error, payload_error, too_long_error}
use Rattle.netlink_shapes.specs.declared.error.FamilyError.TheVariants.{InvalidAttribute, HeaderShort, TooLong}
use Rattle.netlink_shapes.specs.declared.attribute_error.AttributeError.{AttributeError}
use Rattle.netlink_family.specs.Message.{message_decoding, is_canonical_payload, is_encoding}
use Rattle.netlink_family.specs.MessageLaws.{HasOwnTypes, reading_lawful}
use Rattle.netlink_shapes.specs.Shapes.{Row, Scope, fits_kind, keep, keeps_by, or_first, reading_by, reading_in}
use Rattle.netlink_shapes.specs.Short.{is_cut, sent}
use Rattle.netlink_family.specs.ShortLaws.{read_long, same_sent, sent_reads}

by_found : (long : Bool) (head : List ℕ) (found : Option (List Attribute)) (bytes : List ℕ)
    → is_encoding bytes (if long then after_header 0 head found else None) ≡ true
    → (t : ℕ) → (if long then after_header t head found else None) ≡ Some (t, bytes)
by_found true head (Some all) bytes is t =
    ap (λ (x : List ℕ). Some (t, x)) ((bytes_decides (head ++ canonical_block all) bytes).0 is)
by_found true head None bytes is t = absurd (cc)
by_found false head found bytes is t = absurd (cc)

-- a canonical payload is read as itself, whatever the message type
pub canonical_reads : (size : ℕ) (rows : List Row) (bytes : List ℕ) → is_canonical_payload size rows bytes ≡ true
    → (t : ℕ) → payload_reading size (reading_by rows) t bytes ≡ Some (t, bytes)
canonical_reads size rows bytes is t =
    by_found (nat_le size (length bytes)) (take size bytes)
    (block_reading (reading_by rows) (drop size bytes)) bytes is t

-- what a payload is read as is canonical
pub reading_canonical : (size : ℕ) (rows : List Row) (payload bytes : List ℕ)
    → payload_reading size (reading_by rows) 0 payload ≡ Some (0, bytes) → is_canonical_payload size rows bytes ≡ true
reading_canonical size rows payload bytes gives =
    let by = payload_written size (reading_by rows) 0 payload (0, bytes) (keeps_by rows) gives in
    ap (is_encoding bytes) (payload_again size (reading_by rows) 0 (0, bytes) by) ∙ (bytes_decides bytes bytes).1 refl

abbrev header_of : ℕ → NetlinkHeader
header_of t = record { length = 0; message_type = t; flags = 0; sequence_number = 0; port_number = 0 }

-- the payload of a message is read as itself
pub canonical_sent : (allows : Bool) (size : ℕ) (rows : List Row) (n : ℕ) (bytes : List ℕ)
    → is_canonical_payload size rows bytes ≡ true → is_cut allows size n bytes ≡ true
    → (t : ℕ) → short_reading allows size (reading_by rows) t (sent n bytes) ≡ Some (t, sent n bytes)
canonical_sent allows size rows n bytes canonical cut t =
    sent_reads allows size (reading_by rows) n bytes (canonical_reads size rows bytes canonical) cut t

-- the type and the payload of a message are lawful
pub canonical_lawful : {I : Type 0} (stands_for : I → ℕ × List ℕ) (has short : ℕ → Bool) (size : ℕ → ℕ)
    (rows : ℕ → List Row) → HasOwnTypes has → (t n : ℕ) (bytes : List ℕ)
    → has t ≡ true → is_canonical_payload (size t) (rows t) bytes ≡ true → is_cut (short t) (size t) n bytes ≡ true
    → IsLawful (message_decoding stands_for has short size (λ t. reading_by (rows t))) (t, sent n bytes)
canonical_lawful stands_for has short size rows own t n bytes is canonical cut =
    reading_lawful stands_for has short size (λ t. reading_by (rows t)) own
    (λ t. keeps_by (rows t)) (header_of t) (sent n bytes) (t, sent n bytes)
    (ap (λ (b : Bool). if b then short_reading (short t) (size t) (reading_by (rows t)) t (sent n bytes) else None) is
    ∙ canonical_sent (short t) (size t) (rows t) n bytes canonical cut t)

-- a canonical payload contains its header
pub canonical_long : (size : ℕ) (rows : List Row) (bytes : List ℕ) → is_canonical_payload size rows bytes ≡ true
    → size ≤ length bytes
canonical_long size rows bytes canonical =
    read_long size (reading_by rows) 0 bytes (0, bytes) (canonical_reads size rows bytes canonical 0)

-- what the type invariant states about the payload of a message
pub record IsMessage (allows : Bool) (size : ℕ) (rows : List Row) (n : ℕ) (bytes : List ℕ) : Type 0 where
  pub canonical : is_canonical_payload size rows bytes ≡ true
  pub cut : is_cut allows size n bytes ≡ true

-- two messages are equal if and only if their types and payloads are
pub equal_messages : (short : ℕ → Bool) (size : ℕ → ℕ) (rows : ℕ → List Row) (a b n m : ℕ) (x y : List ℕ)
    → IsMessage (short a) (size a) (rows a) n x → IsMessage (short b) (size b) (rows b) m y
    → ((nat_eq a b && (bytes_eq x y && (nat_eq n m && true))) ≡ true)
    ↔ (◌≡◌ {A = ℕ × List ℕ} (a, sent n x) (b, sent m y))
equal_messages short size rows a b n m x y first second = (
  λ e. (let p = and_parts (nat_eq a b) (bytes_eq x y && (nat_eq n m && true)) e in
      let q = and_parts (bytes_eq x y) (nat_eq n m && true) p.1 in
      let r = and_parts (nat_eq n m) true q.1 in
      ap (λ (t : ℕ). (t, sent n x)) (eqb-true a b p.0)
      ∙ ap (λ (z : List ℕ). (b, sent n z)) ((bytes_decides x y).0 q.0)
      ∙ ap (λ (k : ℕ). (b, sent k y)) (eqb-true n m r.0)),
  λ same. (let types : a ≡ b = ap (λ (p : ℕ × List ℕ). p.0) same in
      let other : IsMessage (short a) (size a) (rows a) m y =
      subst (λ (t : ℕ). IsMessage (short t) (size t) (rows t) m y) (sym types) second in
      let parts = same_sent (short a) (size a) n m x y (canonical_long (size a) (rows a) x first.canonical) first.cut
      (canonical_long (size a) (rows a) y other.canonical) other.cut (ap (λ (p : ℕ × List ℕ). p.1) same) in
      and_from (nat_eq a b) (bytes_eq x y && (nat_eq n m && true)) (eq-eqb a b types)
      (and_from (bytes_eq x y) (nat_eq n m && true) ((bytes_decides x y).1 parts.0)
      (and_from (nat_eq n m) true (eq-eqb n m parts.1) refl))),
)

values_fit : (all : List Attribute) → All FitsAttribute all → list_all value_fits all ≡ true
values_fit [] each = refl
values_fit (a ∷ all) each =
    and_from _ _ (le-leb _ _ (All-head FitsAttribute a all each).value)
    (values_fit all (All-tail FitsAttribute a all each))

-- whether the attributes of a block fit in a message
pub fits_by_size : (block : List ℕ) (all : List Attribute) → Walk block all None
    → block_fits all ≡ nat_le (length (canonical_block all)) block_max
fits_by_size block all walk =
    let values = values_fit all (attributes_in-fit block all (attributes_in-walk block all walk)) in
    ap (λ (b : Bool). b && nat_le (length (canonical_block all)) block_max) values

pub normalized_block : (values : ValueReading) (block : List ℕ) (all : List Attribute)
    → Walk block all None → all_normalized (values all) all ≡ Some all → normalize values (attributes_in block) ≡ Some all
normalized_block values block all walk normalized =
    ap (normalize values) (attributes_in-walk block all walk) ∙ normalized

pub block_read : (values : ValueReading) (block : List ℕ) (all : List Attribute)
    → Walk block all None → all_normalized (values all) all ≡ Some all
    → length (canonical_block all) ≤ block_max → block_reading values block ≡ Some all
block_read values block all walk normalized small =
    ap keep_fit (normalized_block values block all walk normalized) ∙ ap (λ (b : Bool). if b then Some all else None)
    (fits_by_size block all walk ∙ le-leb _ _ small)

-- a header and attributes in canonical form are what the payload is read as
pub payload_read : (size : ℕ) (values : ValueReading) (payload out : List ℕ)
    (all : List Attribute) → size ≤ length payload → Walk (drop size payload) all None
    → all_normalized (values all) all ≡ Some all → out ≡ take size payload ++ canonical_block all
    → length out - size ≤ block_max → (t : ℕ) → payload_reading size values t payload ≡ Some (t, out)
payload_read size values payload out all long walk normalized is small t =
    let front = length-take-le size payload long in
    let whole = ap length is ∙ length-append (take size payload) (canonical_block all) in
    ap (λ (b : Bool). if b then after_header t (take size payload)
    (block_reading values (drop size payload)) else None) (le-leb _ _ long) ∙ ap (after_header t (take size payload))
    (block_read values (drop size payload) all walk normalized (omega (arith, front, whole, small)))
    ∙ ap (λ (x : List ℕ). Some (t, x)) (sym is)

-- or they do not fit
pub too_long : (size : ℕ) (payload out : List ℕ) (all : List Attribute) → size ≤ length payload
    → Walk (drop size payload) all None → out ≡ take size payload ++ canonical_block all
    → block_max < length out - size → block_fits all ≡ false
too_long size payload out all long walk is big =
    let front = length-take-le size payload long in
    let whole = ap length is ∙ length-append (take size payload) (canonical_block all) in
    fits_by_size (drop size payload) all walk ∙ lt-leb _ _ (omega (arith, front, whole, big))

-- the same in the terms of the code
pub payload_read_at : (size sz : ℕ) (values : ValueReading) (payload front block start out : List ℕ)
    (all : List Attribute) → sz ≡ size → sz ≤ length payload → front ≡ take sz payload
    → block ≡ drop sz payload → start ≡ front → Walk block all None → all_normalized (values all) all ≡ Some all
    → out ≡ start ++ canonical_block all → length out - sz ≤ block_max
    → (t : ℕ) → payload_reading size values t payload ≡ Some (t, out)
payload_read_at size sz values payload front block start out all same long head rest begun walk normalized is
    small t =
    let text : start ≡ take size payload = begun ∙ head ∙ ap (λ (n : ℕ). take n payload) same in
    let after : block ≡ drop size payload = rest ∙ ap (λ (n : ℕ). drop n payload) same in
    payload_read size values payload out all (omega (arith, same, long))
    (subst (λ (b : List ℕ). Walk b all None) after walk) normalized
    (is ∙ ap (λ (x : List ℕ). x ++ canonical_block all) text) (omega (arith, same, small)) t

-- the same if they do not fit
pub too_long_at : (size sz : ℕ) (rows : List Row) (payload front block start out : List ℕ)
    (all : List Attribute) → sz ≡ size → sz ≤ length payload → front ≡ take sz payload
    → block ≡ drop sz payload → start ≡ front → Walk block all None → block_error rows (length payload) block ≡ None
    → out ≡ start ++ canonical_block all → block_max < length out - sz
    → payload_error size rows payload ≡ Some TooLong
too_long_at size sz rows payload front block start out all same reaches head rest begun walk good is
    big =
    let text : start ≡ take size payload = begun ∙ head ∙ ap (λ (n : ℕ). take n payload) same in
    let after : block ≡ drop size payload = rest ∙ ap (λ (n : ℕ). drop n payload) same in
    let walked : Walk (drop size payload) all None =
    subst (λ (b : List ℕ). Walk b all None) after walk in
    let none : block_error rows (length payload) (drop size payload) ≡ None =
    ap (block_error rows (length payload)) (sym after) ∙ good in
    let long : nat_le size (length payload) ≡ true = le-leb _ _ (omega (arith, same, reaches)) in
    let over : block_fits all ≡ false =
    too_long size payload out all (omega (arith, same, reaches)) walked
    (is ∙ ap (λ (x : List ℕ). x ++ canonical_block all) text) (omega (arith, same, big)) in
    ap (λ (b : Bool). if b
    then or_first (option_map InvalidAttribute (block_error rows (length payload) (drop size payload)))
    (too_long_error (attributes_in (drop size payload))) else Some (HeaderShort size (length payload))) long
    ∙ ap (λ (f : Option AttributeError). or_first (option_map InvalidAttribute f)
    (too_long_error (attributes_in (drop size payload)))) none
    ∙ ap too_long_error (attributes_in-walk (drop size payload) all walked)
    ∙ ap (λ (b : Bool). if b then None else Some TooLong) over

-- values that have their shapes are read as themselves
pub shaped_itself : (scope : Scope) (kind : ℕ) (value : List ℕ)
    → fits_kind scope kind value ≡ true → reading_in scope kind value ≡ Some value
shaped_itself scope kind value is = ap (λ (b : Bool). keep b value) is
