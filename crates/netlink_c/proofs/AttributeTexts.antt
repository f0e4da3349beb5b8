-- The lines of the attributes of a block, one after another.
use Rattle.std.proofs.Common.{◌≡◌, ℕ, ◌+◌, ◌*◌, ◌-◌, ◌<◌, ◌≤◌, List, [], ◌∷◌, ◌++◌, length, take, drop, slice_index, refl, sym, ap, subst, ◌∙◌, arith, append_assoc, append-nil, length-append, length-drop, Option, Some, None}
use Rattle.std.proofs.lemmas.List.{drop_all, length-take, take-append-drop}
use Rattle.std.specs.Prelude.{codes, decimal, slice_range}
use Rattle.netlink_packet_core.specs.Attribute.{Attribute, padded_size, padding}
use Rattle.netlink_packet_core.specs.DecodeError.{DecodeError}
use Rattle.netlink_packet_core.specs.Header.{payload_of}
use Rattle.netlink_packet_core.specs.NumberLaws.{IsBytes-drop}
use Rattle.netlink_packet_core.specs.StartLaws.{nothing_starts, starts-attribute_of, starts-fault, starts-length, starts-length_field, starts-rest, starts_held}
use Rattle.netlink_packet_core.specs.Storage.{put_at}
use Rattle.netlink_packet_core.specs.Text.{hex_text}
use Rattle.netlink_packet_core.specs.TextLaws.{length-hex_digits}
use Rattle.netlink_packet_core.specs.Views.{HoldsAttribute, attribute_of, length_field, masked, raw_kind}
use Rattle.netlink_packet_core.specs.Walk.{Starts, Walk}
use Rattle.netlink_c.specs.Describe.{attribute_line, attributes_after, bytes_line, flags_text, message_text, text_before, walk_lines}
use Rattle.netlink_c.specs.Messages.{fixed_part}
use Rattle.netlink_c.specs.Out.{AddsAt, CopiesOut}
use Rattle.netlink_c.proofs.DescribeLemmas.{copied_out, put_more}

-- no text
pub adds_none : (buffer : List ℕ) (at : ℕ) → AddsAt [] at buffer buffer at
adds_none buffer at =
    let here : at + 0 ≡ at = omega arith in
    record {
      ends = sym here;
      written = λ _. sym (take-append-drop at buffer) ∙ ap (λ (k : ℕ). take at buffer ++ drop k buffer) (sym here);
      size = refl;
    }

-- two texts, one after another
pub adds_both : (x y buffer mid new : List ℕ) (at end last : ℕ) → AddsAt x at buffer mid end → AddsAt y end mid new last
    → AddsAt (x ++ y) at buffer new last
adds_both x y buffer mid new at end last first second =
    let both = length-append x y in
    let front = first.ends in
    let back = second.ends in
    let sizes = first.size in
    record {
      ends = omega (arith, both, front, back);
      written = λ room.
          second.written (omega (arith, sizes, room)) ∙ ap (λ (k : ℕ). put_at mid k y) front
          ∙ ap (λ (t : List ℕ). put_at t (at + length x) y) (first.written (omega (arith, front, back, room)))
          ∙ put_more buffer x y at (omega (arith, front, back, room));
      size = second.size ∙ sizes;
    }

-- a text that is the same
pub adds_same : (x y buffer new : List ℕ) (at end : ℕ) → x ≡ y → AddsAt x at buffer new end → AddsAt y at buffer new end
adds_same x y buffer new at end same adds = subst (λ (t : List ℕ). AddsAt t at buffer new end) same adds

-- bytes in hexadecimal have at most two digits each, or a hyphen
pub length-hex_most : (bytes : List ℕ) → length (hex_text bytes) ≤ 2 * length bytes + 1
length-hex_most [] = omega arith
length-hex_most (b ∷ bytes) = let size = length-hex_digits (b ∷ bytes) in omega (arith, size)

-- the parts of the line of an attribute
pub attribute_adds : (value flags b0 b1 b2 b3 b4 b5 b6 : List ℕ) (kind type size at e1 e2 e3 e4 e5 e6 : ℕ)
    → AddsAt (codes "attribute ") at b0 b1 e1 → AddsAt (decimal type) e1 b1 b2 e2 → AddsAt flags e2 b2 b3 e3
    → AddsAt (decimal size) e3 b3 b4 e4 → AddsAt (codes " ") e4 b4 b5 e5 → AddsAt (bytes_line value) e5 b5 b6 e6
    → type ≡ masked kind → flags ≡ flags_text kind → size ≡ 4 + length value
    → AddsAt (attribute_line (record { kind = kind; value = value })) at b0 b6 e6
attribute_adds value flags b0 b1 b2 b3 b4 b5 b6 kind type size at e1 e2 e3 e4 e5 e6 p1 p2 p3 p4 p5 p6 types flags_are sizes =
    let last : List ℕ = codes " " ++ bytes_line value in
    let lengths : List ℕ = decimal (4 + length value) ++ last in
    let marks : List ℕ = flags_text kind ++ lengths in
    adds_both (codes "attribute ") (decimal (masked kind) ++ marks) b0 b1 b6 at e1 e6 p1
    (adds_both (decimal (masked kind)) marks b1 b2 b6 e1 e2 e6 (adds_same _ _ b1 b2 e1 e2 (ap decimal types) p2)
    (adds_both (flags_text kind) lengths b2 b3 b6 e2 e3 e6 (adds_same flags (flags_text kind) b2 b3 e2 e3 flags_are p3)
    (adds_both (decimal (4 + length value)) last b3 b4 b6 e3 e4 e6 (adds_same _ _ b3 b4 e3 e4 (ap decimal sizes) p4)
    (adds_both (codes " ") (bytes_line value) b4 b5 b6 e4 e5 e6 p5 p6))))

-- bytes that start with an attribute hold it
starts_holds : (bytes : List ℕ) (a : Attribute) (rest : List ℕ) → Starts bytes a rest → HoldsAttribute bytes
starts_holds bytes a rest starts =
    let size = starts-length bytes a rest starts in
    let field = starts-length_field bytes a rest starts in
    record { header = omega (arith, size); least = omega (arith, field); most = omega (arith, size, field) }

-- one attribute further on
lines_next : (rest next : List ℕ) (a : Attribute) (more : List Attribute) (end : Option DecodeError) → Starts rest a next
    → Walk rest more end
    → (later : List Attribute) × Walk next later end × (walk_lines rest more end ≡ attribute_line a ++ walk_lines next later end)
lines_next rest next a [] None starts walk = absurd (nothing_starts rest a next walk starts)
lines_next rest next a [] (Some fault) starts walk = absurd (starts-fault rest a next fault starts walk.1)
lines_next rest next a (b ∷ later) end starts (after, begin, walk) =
    let same : b ≡ a = sym (starts-attribute_of rest b after begin) ∙ starts-attribute_of rest a next starts in
    let behind : drop (padded_size b) rest ≡ next = ap (λ (c : Attribute). drop (padded_size c) rest) same ∙ sym (starts-rest rest a next starts)
    in (
      later,
      subst (λ (r : List ℕ). Walk r later end) (starts-rest rest b after begin ∙ behind) walk,
      ap (λ (r : List ℕ). attribute_line b ++ walk_lines r later end) behind
          ∙ ap (λ (c : Attribute). attribute_line c ++ walk_lines next later end) same,
    )

-- the lines of the attributes up to an offset are written, from an offset of the buffer on
pub record Along (block buffer new : List ℕ) (at to from : ℕ) : Type 0 where
  pub done : List ℕ
  pub adds : AddsAt done at buffer new to
  pub left : (all : List Attribute) (end : Option DecodeError) → Walk block all end
      → (more : List Attribute) × Walk (drop from block) more end
      × (done ++ walk_lines (drop from block) more end ≡ walk_lines block all end)
  pub inside : from ≤ length block
  pub bound : to ≤ at + 8 * from

pub along_start : (block buffer : List ℕ) (at : ℕ) → Along block buffer buffer at at 0
along_start block buffer at = record {
  done = [];
  adds = adds_none buffer at;
  left = λ all end walk. (all, walk, refl);
  inside = omega arith;
  bound = omega arith;
}

-- one attribute further on
pub along_next : (block buffer old new value : List ℕ) (at to from kind size next last : ℕ) → ((i : ℕ) → slice_index block i < 256)
    → from < length block → HoldsAttribute (drop from block) → size ≡ length_field (drop from block) → kind ≡ raw_kind (drop from block)
    → value ≡ slice_range (drop from block) 4 size → drop next block ≡ drop (size + padding size) (drop from block)
    → (from < next) × (next ≤ length block) → AddsAt (attribute_line (record { kind = kind; value = value })) to old new last
    → last ≤ to + 8 * size → Along block buffer old at to from → Along block buffer new at last next
along_next block buffer old new value at to from kind size next last each some holds field kinds values behind forward adds bound along =
    let here : List ℕ = drop from block in
    let starts : Starts here (attribute_of here) (drop (size + padding size) here) =
    starts_held here (size + padding size) (IsBytes-drop from block each) holds (omega (arith, field)) (omega (arith, field)) (omega arith) in
    let now : Starts here (attribute_of here) (drop next block) = subst (λ (r : List ℕ). Starts here (attribute_of here) r) (sym behind) starts in
    let value_is : value ≡ slice_range here 4 (length_field here) = values ∙ ap (slice_range here 4) field in
    let same : ◌≡◌ {A = Attribute} (record { kind = kind; value = value }) (attribute_of here) =
    (λ i. record { kind = kinds i; value = value_is i }) in
    let line : AddsAt (attribute_line (attribute_of here)) to old new last = subst (λ (a : Attribute). AddsAt (attribute_line a) to old new last) same adds in
    let so_far = along.bound in
    let most = holds.most in
    let left = length-drop from block in
    let left_next = ap length behind in
    let left_there = length-drop next block in
    let left_here = length-drop (size + padding size) here in
    record {
      done = along.done ++ attribute_line (attribute_of here);
      adds = adds_both along.done (attribute_line (attribute_of here)) buffer old new at to last along.adds line;
      left = λ all end walk.
          (let known = along.left all end walk in
          let one = lines_next here (drop next block) (attribute_of here) known.0 end now known.1 in (
            one.0,
            one.1,
            append_assoc along.done (attribute_line (attribute_of here)) (walk_lines (drop next block) one.0 end)
                ∙ ap (λ (t : List ℕ). along.done ++ t) (sym one.2) ∙ known.2,
          ));
      inside = forward.1;
      bound = omega (arith, so_far, bound, most, field, left, left_next, left_there, left_here, forward.0, forward.1);
    }

-- the same, of the bytes that are left
pub along_read : (block buffer old new rest value : List ℕ) (at to from kind size next last : ℕ) → ((i : ℕ) → slice_index block i < 256)
    → from < length block → rest ≡ drop from block → HoldsAttribute rest → size ≡ length_field rest → kind ≡ raw_kind rest
    → value ≡ slice_range rest 4 size → drop next block ≡ drop (size + padding size) (drop from block)
    → (from < next) × (next ≤ length block) → AddsAt (attribute_line (record { kind = kind; value = value })) to old new last
    → last ≤ to + 8 * (4 + length value) → Along block buffer old at to from → Along block buffer new at last next
along_read block buffer old new rest value at to from kind size next last each some same holds field kinds values behind forward adds bound along =
    let least = holds.least in
    let taken = ap length values ∙ length-take (size - 4) (drop 4 rest) in
    along_next block buffer old new value at to from kind size next last each some (subst HoldsAttribute same holds) (field ∙ ap length_field same)
    (kinds ∙ ap raw_kind same) (values ∙ ap (λ (r : List ℕ). slice_range r 4 size) same) behind forward adds
    (omega (arith, least, field, taken, bound)) along

-- nothing is left
lines_end : (rest : List ℕ) (more : List Attribute) (end : Option DecodeError) → Walk rest more end → rest ≡ [] → walk_lines rest more end ≡ []
lines_end rest [] None walk none = refl
lines_end rest [] (Some e) walk none = absurd (walk.0 none)
lines_end rest (a ∷ more) end walk none = absurd (nothing_starts rest a walk.0 none walk.1)

pub along_end : (block buffer new : List ℕ) (at to from : ℕ) → length block ≤ from → Along block buffer new at to from
    → (all : List Attribute) (end : Option DecodeError) → Walk block all end → AddsAt (walk_lines block all end) at buffer new to
along_end block buffer new at to from over along all end walk =
    let known = along.left all end walk in
    let none = lines_end (drop from block) known.0 end known.1 (drop_all from block over) in
    adds_same _ _ buffer new at to
    (sym (append-nil along.done) ∙ ap (λ (t : List ℕ). along.done ++ t) (sym none) ∙ known.2) along.adds

-- what is left holds no attribute
lines_fault : (rest : List ℕ) (more : List Attribute) (end : Option DecodeError) → Walk rest more end → 0 < length rest
    → (HoldsAttribute rest → ⊥) → walk_lines rest more end ≡ codes "rest " ++ bytes_line rest
lines_fault rest [] None walk some none = absurd (let size = ap length walk in omega (arith, size, some))
lines_fault rest [] (Some e) walk some none = refl
lines_fault rest (a ∷ more) end walk some none = absurd (none (starts_holds rest a walk.0 walk.1))

pub along_fault : (block buffer old mid new rest : List ℕ) (at to from after last : ℕ) → from < length block
    → rest ≡ drop from block → (HoldsAttribute rest → ⊥) → AddsAt (codes "rest ") to old mid after → AddsAt (bytes_line rest) after mid new last
    → Along block buffer old at to from → (all : List Attribute) (end : Option DecodeError) → Walk block all end
    → AddsAt (walk_lines block all end) at buffer new last
along_fault block buffer old mid new rest at to from after last some same none name bytes along all end walk =
    let known = along.left all end walk in
    let left = length-drop from block in
    let lines = lines_fault (drop from block) known.0 end known.1 (omega (arith, left, some)) (λ holds. none (subst HoldsAttribute (sym same) holds)) in
    adds_same _ _ buffer new at last (ap (λ (t : List ℕ). along.done ++ t) (sym lines) ∙ known.2)
    (adds_both along.done (codes "rest " ++ bytes_line (drop from block)) buffer old new at to last along.adds
    (adds_both (codes "rest ") (bytes_line (drop from block)) old mid new to after last name
    (adds_same _ _ mid new after last (ap bytes_line same) bytes)))

-- the first pass counts, and the second one writes
pub both_passes : (text buffer none counted new : List ℕ) (size end : ℕ) → AddsAt text 0 none counted size → size ≤ length buffer
    → AddsAt text 0 buffer new end → CopiesOut text buffer new size 0
both_passes text buffer none counted new size end first room second =
    let counts = first.ends in
    let ends = second.ends in
    copied_out text buffer new size (omega (arith, counts)) (omega (arith, counts, room))
    (second.written (omega (arith, counts, ends, room)))

pub no_room_for : (text buffer none counted : List ℕ) (size : ℕ) → AddsAt text 0 none counted size → length buffer < size
    → CopiesOut text buffer buffer size 8
no_room_for text buffer none counted size first full =
    let counts = first.ends in
    record {
      counted = omega (arith, counts);
      written = λ fits. absurd (omega (arith, counts, fits, full));
      no_room = λ _. (refl, refl);
    }

-- the text of a message, from its parts
pub message_out : (frame before payload buffer new : List ℕ) (fixed size answer : ℕ) (all : List Attribute) (end : Option DecodeError)
    → before ≡ text_before (codes "header ") frame → payload ≡ payload_of frame
    → CopiesOut (before ++ (bytes_line (take (fixed_part fixed (length payload)) payload) ++ walk_lines (attributes_after fixed payload) all end)) buffer
    new size answer
    → CopiesOut (message_text fixed frame all end) buffer new size answer
message_out frame before payload buffer new fixed size answer all end front same out =
    let text : List ℕ → List ℕ → List ℕ =
    λ b p. b ++ (bytes_line (take (fixed_part fixed (length p)) p) ++ walk_lines (attributes_after fixed p) all end) in
    subst (λ (t : List ℕ). CopiesOut t buffer new size answer)
    (ap (λ (b : List ℕ). text b payload) front ∙ ap (text (text_before (codes "header ") frame)) same) out
