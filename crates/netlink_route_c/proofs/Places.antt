-- Where the attributes of a view are.
use Rattle.std.proofs.Common.{◌≡◌, ℕ, ◌+◌, ◌-◌, ◌≤◌, Bool, true, false, List, length, take, drop, refl, ap, sym, ◌∙◌, arith, length-drop, Option, Some, None}
use Rattle.std.proofs.Math.Nat.{min-le_right}
use Rattle.std.proofs.lemmas.List.{drop-drop, drop-take, length-take, length-take-le, take-take, take_min}
use Rattle.std.proofs.lemmas.Bool.{leb-true}
use Rattle.std.specs.Prelude.{if◌then◌else◌, min, slice_range}
use Rattle.netlink_family.specs.Listing.{first_of, listed}
use Rattle.netlink_family.specs.Strings.{nul_offset, until_nul}
use Rattle.netlink_packet_core.specs.Views.{HoldsAttribute, attribute_of, length_field}
use Rattle.netlink_route_c.specs.Views.{block_of, found_of, is_inside, part_of}
use Rattle.netlink_route_c.specs.declared.view.Part.{Part}
use Rattle.netlink_route_c.specs.declared.view.View.{View}

-- the end of a part that is inside
pub inside_end : (part : Part) (size : ℕ) → is_inside part size ≡ true → part.offset + part.size ≤ size
inside_end part size is = leb-true (part.offset + part.size) size is

-- the size of a part that is inside
pub part_size : (part : Part) (bytes : List ℕ) → part.offset + part.size ≤ length bytes → length (part_of part bytes) ≡ part.size
part_size part bytes inside =
    let left = length-drop part.offset bytes in
    length-take-le (part.offset + part.size - part.offset) (drop part.offset bytes) (omega arith) ∙ omega arith

-- a part of a part is a part of the whole
pub part_again : (bytes : List ℕ) (o s from size : ℕ) → from + size ≤ s
    → slice_range (slice_range bytes o (o + s)) from (from + size) ≡ slice_range bytes (o + from) (o + from + size)
part_again bytes o s from size fits =
    let m : ℕ = s - from in
    let whole : o + s - o ≡ from + m = omega arith in
    ap (λ (n : ℕ). take (from + size - from) (drop from (take n (drop o bytes)))) whole
    ∙ ap (take (from + size - from)) (drop-take from m (drop o bytes))
    ∙ take-take (from + size - from) m (drop from (drop o bytes)) (omega arith)
    ∙ ap (take (from + size - from)) (drop-drop from o bytes)
    ∙ ap (λ (n : ℕ). take n (drop (o + from) bytes)) (let n : from + size - from ≡ o + from + size - (o + from) = omega arith in n)

-- an attribute of the block of a view is inside it
attribute_ends : (block : List ℕ) (at size : ℕ) → HoldsAttribute (drop at block) → size + 4 ≡ length_field (drop at block)
    → at + 4 + size ≤ length block
attribute_ends block at size holds sizes =
    let left = length-drop at block in
    let header = holds.header in
    let most = holds.most in
    omega arith

value_at : (payload block : List ℕ) (o s at size : ℕ) → o + s ≤ length payload → block ≡ slice_range payload o (o + s)
    → HoldsAttribute (drop at block) → size + 4 ≡ length_field (drop at block)
    → (attribute_of (drop at block)).value ≡ slice_range payload (o + at + 4) (o + at + 4 + size)
value_at payload block o s at size inside is holds sizes =
    let ends = attribute_ends block at size holds sizes in
    let long = ap length is ∙ part_size (record { offset = o; size = s }) payload inside in
    let count : length_field (drop at block) - 4 ≡ at + 4 + size - (at + 4) = omega arith in
    ap (λ (n : ℕ). take n (drop 4 (drop at block))) count
    ∙ ap (take (at + 4 + size - (at + 4))) (drop-drop 4 at block)
    ∙ ap (λ (b : List ℕ). slice_range b (at + 4) (at + 4 + size)) is
    ∙ part_again payload o s (at + 4) size (omega arith)
    ∙ ap (λ (n : ℕ). slice_range payload n (n + size)) (let n : o + (at + 4) ≡ o + at + 4 = omega arith in n)

-- the first attribute of a kind in a view, from the block and its offset there
pub place_found : (payload block : List ℕ) (view : View) (kind at size : ℕ)
    → is_inside view.attributes (length payload) ≡ true → block ≡ block_of payload view
    → first_of kind (listed block) ≡ Some (attribute_of (drop at block)).value → HoldsAttribute (drop at block)
    → size + 4 ≡ length_field (drop at block)
    → found_of payload view kind ≡ Some (part_of (record { offset = view.attributes.offset + at + 4; size = size }) payload)
place_found payload block view kind at size inside is found holds sizes =
    ap (λ (b : Bool). if b then first_of kind (listed (block_of payload view)) else None) inside
    ∙ ap (λ (b : List ℕ). first_of kind (listed b)) (sym is) ∙ found
    ∙ ap Some (value_at payload block view.attributes.offset view.attributes.size at size
    (inside_end view.attributes (length payload) inside) is holds sizes)

pub place_inside : (payload block : List ℕ) (view : View) (at size : ℕ)
    → is_inside view.attributes (length payload) ≡ true → block ≡ block_of payload view → HoldsAttribute (drop at block)
    → size + 4 ≡ length_field (drop at block) → view.attributes.offset + at + 4 + size ≤ length payload
place_inside payload block view at size inside is holds sizes =
    let end = inside_end view.attributes (length payload) inside in
    let ends = attribute_ends block at size holds sizes in
    let long = ap length is ∙ part_size view.attributes payload end in
    omega arith

by_inside : (b : Bool) (o : Option (List ℕ)) → o ≡ None → (if b then o else None) ≡ None
by_inside true o is = is
by_inside false o is = refl

-- there is none
pub none_found : (payload block : List ℕ) (view : View) (kind : ℕ) → block ≡ block_of payload view
    → first_of kind (listed block) ≡ None → found_of payload view kind ≡ None
none_found payload block view kind is none =
    by_inside (is_inside view.attributes (length payload)) (first_of kind (listed (block_of payload view)))
    (ap (λ (b : List ℕ). first_of kind (listed b)) (sym is) ∙ none)

-- the attributes of a nest, in its value
pub nest_part : (payload : List ℕ) (o size start : ℕ) → start ≤ size
    → drop start (slice_range payload o (o + size)) ≡ slice_range payload (o + start) (o + start + (size - start))
nest_part payload o size start fits =
    let whole : o + size - o ≡ start + (size - start) = omega arith in
    ap (λ (n : ℕ). drop start (take n (drop o payload))) whole
    ∙ drop-take start (size - start) (drop o payload)
    ∙ ap (take (size - start)) (drop-drop start o payload)
    ∙ ap (λ (n : ℕ). take n (drop (o + start) payload)) (let n : size - start ≡ o + start + (size - start) - (o + start) = omega arith in n)

-- the string in a value is a part of the payload too
pub text_size : (value : List ℕ) (n : ℕ) → n ≡ length (until_nul value) → n ≤ length value
text_size value n is =
    let size = length-take (nul_offset value) value in
    let least = min-le_right (nul_offset value) (length value) in
    omega arith

pub text_taken : (value : List ℕ) (n : ℕ) → n ≡ length (until_nul value) → until_nul value ≡ take n value
text_taken value n count =
    let short : n ≡ min (nul_offset value) (length value) = count ∙ length-take (nul_offset value) value in
    sym (take_min (nul_offset value) value) ∙ ap (λ (k : ℕ). take k value) (sym short)

-- the first bytes of a part are a part
pub part_taken : (bytes : List ℕ) (part : Part) (n : ℕ) → n ≤ part.size
    → take n (part_of part bytes) ≡ part_of (record { offset = part.offset; size = n }) bytes
part_taken bytes part n fits =
    let again : n ≡ part.offset + n - part.offset = omega arith in
    take-take n (part.offset + part.size - part.offset) (drop part.offset bytes) (omega arith)
    ∙ ap (λ (k : ℕ). take k (drop part.offset bytes)) again
