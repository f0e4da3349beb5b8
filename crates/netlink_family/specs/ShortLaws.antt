-- A short payload is read as itself, and a payload that contains the header is not short.
use Rattle.std.specs.Prelude.{ℕ, zero, suc, ◌≡◌, ◌+◌, ◌-◌, ◌<◌, ◌≤◌, ◌==◌, nat_le, nat_lt, Bool, true, false, not, List, [], ◌∷◌, ◌++◌, length, take, drop, replicate, Option, Some, None, refl, if◌then◌else◌}
use Rattle.std.specs.Cmp.Lexicographic.{bytes_decides}
use Rattle.std.proofs.Common.{ap, arith, sym, ◌∙◌, length-append, ne_eqb}
use Rattle.std.proofs.lemmas.Bool.{and_from, and_left, and_parts, and_right, le-leb, le-ltb, leb-true, lt-ltb, ltb-true}
use Rattle.std.proofs.lemmas.List.{drop_all, length-replicate, length-take-le, take_all, take_at}
use Rattle.netlink_packet_core.specs.Block.{canonical_block}
use Rattle.netlink_shapes.specs.Blocks.{KeepsValues, ValueReading}
use Rattle.netlink_shapes.specs.Errors.{payload_error, short_error}
use Rattle.netlink_family.specs.PayloadReading.{payload_again, payload_reading, payload_written, short_reading}
use Rattle.netlink_shapes.specs.Shapes.{Row}
use Rattle.netlink_shapes.specs.Short.{filled, is_cut, is_short, sent}

-- ---- short payloads

pub record IsShort (allows : Bool) (size : ℕ) (payload : List ℕ) : Type 0 where
  pub allowed : allows ≡ true
  pub less : length payload < size
  pub few : length payload ≤ 4
  pub some : 0 < length payload

pub short_parts : (allows : Bool) (size : ℕ) (payload : List ℕ) → is_short allows size payload ≡ true
    → IsShort allows size payload
short_parts allows size payload is =
    let p = and_parts allows _ is in
    let q = and_parts (nat_lt (length payload) size) _ p.1 in
    let r = and_parts (nat_le (length payload) 4) _ q.1 in
    record {
      allowed = p.0;
      less = ltb-true (length payload) size q.0;
      few = leb-true (length payload) 4 r.0;
      some = ltb-true 0 (length payload) r.1;
    }

pub short_from : (allows : Bool) (size : ℕ) (payload : List ℕ) → allows ≡ true → length payload < size
    → length payload ≤ 4 → 0 < length payload → is_short allows size payload ≡ true
short_from allows size payload allowed less few some =
    and_from allows _ allowed (and_from (nat_lt (length payload) size) _ (lt-ltb _ _ less)
    (and_from (nat_le (length payload) 4) _ (le-leb _ _ few) (lt-ltb _ _ some)))

-- a payload that contains the header is not short
pub whole_not : (allows : Bool) (size : ℕ) (payload : List ℕ) → size ≤ length payload
    → is_short allows size payload ≡ false
whole_not allows size payload long = and_right allows _ (and_left _ _ (le-ltb _ _ long))

-- ---- how a payload is read

pub short_read : (allows : Bool) (size : ℕ) (values : ValueReading) (t : ℕ) (payload : List ℕ)
    → is_short allows size payload ≡ true → short_reading allows size values t payload ≡ Some (t, payload)
short_read allows size values t payload is =
    ap (λ (b : Bool). if b then Some (t, payload) else payload_reading size values t payload) is

pub other_read : (allows : Bool) (size : ℕ) (values : ValueReading) (t : ℕ) (payload : List ℕ)
    → is_short allows size payload ≡ false
    → short_reading allows size values t payload ≡ payload_reading size values t payload
other_read allows size values t payload is =
    ap (λ (b : Bool). if b then Some (t, payload) else payload_reading size values t payload) is

pub other_error : (allows : Bool) (size : ℕ) (rows : List Row) (payload : List ℕ)
    → is_short allows size payload ≡ false → short_error allows size rows payload ≡ payload_error size rows payload
other_error allows size rows payload is =
    ap (λ (b : Bool). if b then None else payload_error size rows payload) is

again_by : (short allows : Bool) (size : ℕ) (values : ValueReading) (t : ℕ) (payload : List ℕ) (pair : ℕ × List ℕ)
    → KeepsValues values → is_short allows size payload ≡ short
    → (if short then Some (t, payload) else payload_reading size values t payload) ≡ Some pair
    → (pair.0 ≡ t) × (short_reading allows size values t pair.1 ≡ Some pair)
again_by true allows size values t payload pair keeps is gives =
    let same : (t, payload) ≡ pair = cc in (
      ap (λ (p : ℕ × List ℕ). p.0) (sym same),
      ap (λ (p : ℕ × List ℕ). short_reading allows size values t p.1) (sym same)
          ∙ short_read allows size values t payload is ∙ ap Some same,
    )
again_by false allows size values t payload pair keeps is gives =
    let by = payload_written size values t payload pair keeps gives in
    let text = ap (λ (p : ℕ × List ℕ). length p.1) by.whole ∙ length-append by.head (canonical_block by.all) in
    let long : size ≤ length pair.1 = omega (arith, by.sized, text) in (
      ap (λ (p : ℕ × List ℕ). p.0) by.whole,
      other_read allows size values t pair.1 (whole_not allows size pair.1 long) ∙ payload_again size values t pair by,
    )

-- what is read is read as itself
pub short_again : (allows : Bool) (size : ℕ) (values : ValueReading) (t : ℕ) (payload : List ℕ) (pair : ℕ × List ℕ)
    → KeepsValues values → short_reading allows size values t payload ≡ Some pair
    → (pair.0 ≡ t) × (short_reading allows size values t pair.1 ≡ Some pair)
short_again allows size values t payload pair keeps gives =
    again_by (is_short allows size payload) allows size values t payload pair keeps refl gives

by_long : (long : Bool) (size : ℕ) (payload : List ℕ) (found : Option (ℕ × List ℕ)) (pair : ℕ × List ℕ)
    → nat_le size (length payload) ≡ long → (if long then found else None) ≡ Some pair → size ≤ length payload
by_long true size payload found pair is gives = leb-true _ _ is
by_long false size payload found pair is gives = absurd (cc)

-- a payload that is read as header and attributes contains the header
pub read_long : (size : ℕ) (values : ValueReading) (t : ℕ) (payload : List ℕ) (pair : ℕ × List ℕ)
    → payload_reading size values t payload ≡ Some pair → size ≤ length payload
read_long size values t payload pair gives = by_long (nat_le size (length payload)) size payload _ pair refl gives

-- ---- the payload of a message

-- what is sent of a short message
record IsCut (allows : Bool) (size n : ℕ) (bytes : List ℕ) : Type 0 where
  sized : length (take n bytes) ≡ n
  short : is_short allows size (take n bytes) ≡ true
  rest : bytes ≡ filled size (take n bytes)

cut_parts : (allows : Bool) (size n : ℕ) (bytes : List ℕ) → is_cut allows size (suc n) bytes ≡ true
    → IsCut allows size (suc n) bytes
cut_parts allows size n bytes is =
    let p = and_parts (nat_le (suc n) (length bytes)) _ is in
    let q = and_parts (is_short allows size (take (suc n) bytes)) _ p.1 in
    record {
      sized = length-take-le (suc n) bytes (leb-true (suc n) (length bytes) p.0);
      short = q.0;
      rest = (bytes_decides bytes (filled size (take (suc n) bytes))).0 q.1;
    }

pub cut_fits : (allows : Bool) (size n : ℕ) (bytes : List ℕ) → is_cut allows size n bytes ≡ true → n ≤ length bytes
cut_fits allows size zero bytes cut = omega arith
cut_fits allows size (suc n) bytes cut = leb-true (suc n) (length bytes) (and_parts (nat_le (suc n) (length bytes)) _ cut).0

-- the payload of a message is short if and only if the message has its size
pub sent_short : (allows : Bool) (size n : ℕ) (bytes : List ℕ) → size ≤ length bytes → is_cut allows size n bytes ≡ true
    → is_short allows size (sent n bytes) ≡ not (n == 0)
sent_short allows size zero bytes long cut = whole_not allows size bytes long
sent_short allows size (suc n) bytes long cut =
    (cut_parts allows size n bytes cut).short ∙ sym (ap not (ne_eqb (suc n) 0 (λ e. omega (arith, e))))

-- a short payload and zeros are a short message
pub filled_cut : (allows : Bool) (size : ℕ) (payload bytes : List ℕ) → is_short allows size payload ≡ true
    → bytes ≡ filled size payload → is_cut allows size (length payload) bytes ≡ true
filled_cut allows size [] bytes short is = refl
filled_cut allows size (b ∷ payload) bytes short is =
    let front : take (length (b ∷ payload)) bytes ≡ b ∷ payload =
    ap (take (length (b ∷ payload))) is ∙ take_at (b ∷ payload) _ (length (b ∷ payload)) refl in
    let sizes = ap length is ∙ length-append (b ∷ payload) _ in
    and_from _ _ (le-leb _ _ (omega (arith, sizes)))
    (and_from _ _ (ap (is_short allows size) front ∙ short)
    ((bytes_decides bytes _).1 (is ∙ ap (filled size) (sym front))))

-- a vector that holds a payload is filled up
pub filled_from : (size len : ℕ) (payload old new : List ℕ) → len ≡ 0 + length payload → length payload ≤ size
    → old ≡ payload → new ≡ take size old ++ replicate (size - len) 0 → new ≡ filled size payload
filled_from size len payload old new sized less begun is =
    let held : len ≡ length payload = omega (arith, sized) in
    is ∙ ap (λ (k : ℕ). take size old ++ replicate (size - k) 0) held
    ∙ ap (λ (x : List ℕ). take size x ++ replicate (size - length payload) 0) begun
    ∙ ap (λ (x : List ℕ). x ++ replicate (size - length payload) 0) (take_all size payload less)

pub filled_sent : (size : ℕ) (payload bytes : List ℕ) → 0 < length payload → bytes ≡ filled size payload
    → sent (length payload) bytes ≡ payload
filled_sent size [] bytes some is = absurd (omega (arith, some))
filled_sent size (b ∷ payload) bytes some is =
    ap (take (length (b ∷ payload))) is ∙ take_at (b ∷ payload) _ (length (b ∷ payload)) refl

pub filled_size : (size : ℕ) (payload bytes : List ℕ) → length payload ≤ size → bytes ≡ filled size payload
    → length bytes ≡ size
filled_size size payload bytes less is =
    let sizes = ap length is ∙ length-append payload (replicate (size - length payload) 0) in
    let zeros = length-replicate {A = ℕ} (size - length payload) 0 in
    omega (arith, sizes, zeros, less)

-- a short message has no attributes
pub sent_block : (allows : Bool) (size n : ℕ) (bytes : List ℕ) → is_cut allows size n bytes ≡ true
    → drop size (sent n bytes) ≡ drop size bytes
sent_block allows size zero bytes cut = refl
sent_block allows size (suc n) bytes cut =
    let p = cut_parts allows size n bytes cut in
    let less = (short_parts allows size (take (suc n) bytes) p.short).less in
    let whole = filled_size size (take (suc n) bytes) bytes (omega (arith, less)) p.rest in
    drop_all size (take (suc n) bytes) (omega (arith, less)) ∙ sym (drop_all size bytes (omega (arith, whole)))

-- it is read as itself
pub sent_reads : (allows : Bool) (size : ℕ) (values : ValueReading) (n : ℕ) (bytes : List ℕ)
    → ((t : ℕ) → payload_reading size values t bytes ≡ Some (t, bytes)) → is_cut allows size n bytes ≡ true
    → (t : ℕ) → short_reading allows size values t (sent n bytes) ≡ Some (t, sent n bytes)
sent_reads allows size values zero bytes reads cut t =
    other_read allows size values t bytes
    (whole_not allows size bytes (read_long size values t bytes (t, bytes) (reads t))) ∙ reads t
sent_reads allows size values (suc n) bytes reads cut t =
    short_read allows size values t (take (suc n) bytes) (cut_parts allows size n bytes cut).short

-- and it determines the message
pub same_sent : (allows : Bool) (size n m : ℕ) (x y : List ℕ) → size ≤ length x → is_cut allows size n x ≡ true
    → size ≤ length y → is_cut allows size m y ≡ true → sent n x ≡ sent m y → (x ≡ y) × (n ≡ m)
same_sent allows size zero zero x y long first longer second same = (same, refl)
same_sent allows size zero (suc m) x y long first longer second same =
    let less = (short_parts allows size _ (cut_parts allows size m y second).short).less in
    let sizes = ap length same in
    absurd (omega (arith, long, less, sizes))
same_sent allows size (suc n) zero x y long first longer second same =
    let less = (short_parts allows size _ (cut_parts allows size n x first).short).less in
    let sizes = ap length same in
    absurd (omega (arith, longer, less, sizes))
same_sent allows size (suc n) (suc m) x y long first longer second same =
    let p = cut_parts allows size n x first in
    let q = cut_parts allows size m y second in (
      p.rest ∙ ap (filled size) same ∙ sym q.rest,
      sym p.sized ∙ ap length same ∙ q.sized,
    )
