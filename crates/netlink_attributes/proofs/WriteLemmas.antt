-- The sizes and the parts of what is written.
use Rattle.std.proofs.Common.{◌≡◌, ℕ, ◌+◌, ◌-◌, ◌<◌, ◌^◌, List, [], ◌++◌, length, get_or, take, drop, ap, sym, ◌∙◌, arith, All, None, append_assoc, append-nil, length-append, length-drop}
use Rattle.std.proofs.lemmas.List.{drop-drop, drop_more, drop_all, take_all, take_rest, take_at, drop_at, length-replicate}
use borrow.Rule.Slice.PartMut.{put_mid}
use Rattle.std.specs.Prelude.{replicate}
use Rattle.netlink_bytes.specs.Numbers.{bytes_le}
use Rattle.std.proofs.lemmas.List.Elements.{All-map}
use Rattle.netlink_attributes.specs.Attribute.{FitsAttribute, padded, padding}
use Rattle.netlink_attributes.specs.Block.{canonical_block}
use Rattle.netlink_attributes.specs.Nla.{attribute_with, attributes_of, AllFit}
use Rattle.netlink_attributes.specs.Walk.{Walk}
use Rattle.netlink_attributes.specs.BlockLaws.{written_walks}
use Rattle.netlink_attributes.specs.Sizes.{length-written}

-- the parts of an attribute, and the rest of the buffer
pub pieces : (kind size missing : ℕ) (value buffer header written zeros behind more rest : List ℕ)
    → size ≡ length value + 4 → missing ≡ padding (length value)
    → header ≡ bytes_le size 2 ++ bytes_le kind 2 → written ≡ value → zeros ≡ replicate missing 0
    → behind ≡ drop 4 buffer → more ≡ drop (length value) behind → rest ≡ drop missing more
    → header ++ (written ++ (zeros ++ rest))
    ≡ padded (attribute_with kind value) ++ drop (length (padded (attribute_with kind value))) buffer
pieces kind size missing value buffer header written zeros behind more rest sizes lacks headed valued zeroed e₁ e₂ e₃ =
    let swapped : size ≡ 4 + length value = omega arith in
    let long : 4 + (length value + missing) ≡ length (padded (attribute_with kind value)) = omega (arith, length-written kind value) in
    let last : rest ≡ drop (length (padded (attribute_with kind value))) buffer =
    e₃ ∙ ap (drop missing) (e₂ ∙ ap (drop (length value)) e₁) ∙ drop-drop missing (length value) (drop 4 buffer)
    ∙ drop-drop (length value + missing) 4 buffer ∙ ap (λ (k : ℕ). drop k buffer) long in
    let text : header ≡ bytes_le (4 + length value) 2 ++ bytes_le kind 2 =
    headed ∙ ap (λ (n : ℕ). bytes_le n 2 ++ bytes_le kind 2) swapped in
    let zero : zeros ≡ replicate (padding (length value)) 0 = zeroed ∙ ap (λ (n : ℕ). replicate n 0) lacks in
    let grouped : (a b v z r : List ℕ) → (a ++ b) ++ (v ++ (z ++ r)) ≡ ((a ++ (b ++ v)) ++ z) ++ r = λ a b v z r. simp append_assoc in
    rw (text, valued, zero, last)
    (grouped (bytes_le (4 + length value) 2) (bytes_le kind 2) value (replicate (padding (length value)) 0)
    (drop (length (padded (attribute_with kind value))) buffer))

-- ---- lists of attributes

pub block-cons : {T : Type 0} (kind_of : T → ℕ) (value_of : T → List ℕ) (nlas : List T) (i : ℕ) (nla : T) → i < length nlas
    → nla ≡ get_or nlas i nla
    → canonical_block (attributes_of kind_of value_of (drop i nlas))
    ≡ padded (attribute_with (kind_of nla) (value_of nla)) ++ canonical_block (attributes_of kind_of value_of (drop (i + 1) nlas))
block-cons {T} kind_of value_of nlas i nla inside is =
    ap (λ (xs : List T). canonical_block (attributes_of kind_of value_of xs)) (drop_more nlas i nla inside)
    ∙ ap (λ (x : T). padded (attribute_with (kind_of x) (value_of x))
    ++ canonical_block (attributes_of kind_of value_of (drop (i + 1) nlas))) (sym is)

-- the size of what is left of a list is that of its first attribute plus that of the others
pub length-cons : {T : Type 0} (kind_of : T → ℕ) (value_of : T → List ℕ) (nlas : List T) (i : ℕ) (nla : T) → i < length nlas
    → nla ≡ get_or nlas i nla
    → length (canonical_block (attributes_of kind_of value_of (drop i nlas)))
    ≡ length (padded (attribute_with (kind_of nla) (value_of nla))) + length
    (canonical_block (attributes_of kind_of value_of (drop (i + 1) nlas)))
length-cons kind_of value_of nlas i nla inside is =
    ap length (block-cons kind_of value_of nlas i nla inside is)
    ∙ length-append (padded (attribute_with (kind_of nla) (value_of nla)))
    (canonical_block (attributes_of kind_of value_of (drop (i + 1) nlas)))

-- an encoding is written after the front of a buffer, and the rest is unchanged
pub put_after : (at n : ℕ) (front first buffer text new : List ℕ) → at ≡ length front → buffer ≡ front ++ drop at first → n ≡ length text
    → new ≡ text ++ drop (length text) (take (length buffer - at) (drop at buffer))
    → put_mid at (length buffer - at) buffer new ≡ (front ++ text) ++ drop (at + n) first
put_after at n front first buffer text new start is size written =
    let before : take at buffer ≡ front = ap (take at) is ∙ take_at front (drop at first) at (sym start) in
    let behind : drop at buffer ≡ drop at first = ap (drop at) is ∙ drop_at front (drop at first) at (sym start) in
    let part : new ≡ text ++ drop (at + n) first =
    written ∙ ap (λ (k : ℕ). text ++ drop k (take (length buffer - at) (drop at buffer))) (sym size)
    ∙ ap (λ (x : List ℕ). text ++ drop n x) (take_rest buffer at ∙ behind) ∙ ap (λ (x : List ℕ). text ++ x) (drop-drop n at first) in
    let none : drop (length buffer - at) (drop at buffer) ≡ [] =
    drop_all (length buffer - at) (drop at buffer) (omega (arith, length-drop at buffer)) in
    let grouped : (a b c : List ℕ) → a ++ ((b ++ c) ++ []) ≡ (a ++ b) ++ c =
    λ a b c. ap (λ (x : List ℕ). a ++ x) (append-nil (b ++ c)) ∙ sym (append_assoc a b c) in
    ap (λ (x : List ℕ). x ++ (new ++ drop (length buffer - at) (drop at buffer))) before
    ∙ ap (λ (x : List ℕ). front ++ (new ++ x)) none
    ∙ ap (λ (x : List ℕ). front ++ (x ++ [])) part
    ∙ grouped front text (drop (at + n) first)

-- an encoding is written in the room that was made for it after the items of a vector
pub put_last : (old whole text new : List ℕ) (at n size : ℕ) → at ≡ size → size ≡ length old → n ≡ length text
    → whole ≡ take (at + n) old ++ replicate (at + n - size) 0
    → new ≡ text ++ drop (length text) (take (length whole - at) (drop at whole)) → put_mid at (length whole - at) whole new ≡ old ++ text
put_last old whole text new at n size start counted long grown written =
    let zeros : List ℕ = replicate (at + n - size) 0 in
    let front : at ≡ length old = start ∙ counted in
    let parts : whole ≡ old ++ zeros = grown ∙ ap (λ (x : List ℕ). x ++ zeros) (take_all (at + n) old (omega (arith, front))) in
    let room : length zeros ≡ at + n - size = length-replicate (at + n - size) 0 in
    let total : length whole ≡ length old + length zeros = ap length parts ∙ length-append old zeros in
    let behind : drop at whole ≡ zeros = ap (drop at) parts ∙ drop_at old zeros at (sym front) in
    let is : whole ≡ old ++ drop at whole = parts ∙ ap (λ (x : List ℕ). old ++ x) (sym behind) in
    put_after at n old whole whole text new front is long written
    ∙ ap (λ (x : List ℕ). (old ++ text) ++ x) (drop_all (at + n) whole (omega (arith, total, room, start, counted)))
    ∙ append-nil (old ++ text)

-- a list is written up to one more attribute
pub moved_on : (front text whole block rest : List ℕ) → front ++ block ≡ whole → block ≡ text ++ rest → (front ++ text) ++ rest ≡ whole
moved_on front text whole block rest before next = append_assoc front text rest ∙ ap (λ (x : List ℕ). front ++ x) (sym next) ∙ before

-- walking the encoding of values yields their attributes
pub list_walks : {T : Type 0} (kind_of : T → ℕ) (value_of : T → List ℕ) (nlas : List T) → All (λ nla. kind_of nla < 2 ^ 16) nlas
    → AllFit value_of nlas
    → Walk (canonical_block (attributes_of kind_of value_of nlas)) (attributes_of kind_of value_of nlas) None
list_walks {T} kind_of value_of nlas kinds fit =
    written_walks (attributes_of kind_of value_of nlas)
    (All-map FitsAttribute (λ nla. attribute_with (kind_of nla) (value_of nla)) nlas
    (λ k d inside. record { kind = kinds k d inside; value = fit k d inside }))
