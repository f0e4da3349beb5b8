-- Items of an array and members of an object, one after another.
use Rattle.std.proofs.Common.{◌≡◌, ◌∙◌, ◌<◌, ◌+◌, ◌++◌, ◌==◌, add-one, ap, append-nil, refl, sym, ℕ, List, [], ◌∷◌, drop, drop-cons, get_or, length, map, not}
use Rattle.std.proofs.lemmas.List.Sums.{fold-append}
use Rattle.std.specs.Int.Bits.{bit_and}
use Rattle.netlink_json.specs.Fields.{Field, Written, joined, object_of, with_fields, with_item, with_items, with_parts}
use Rattle.netlink_json.specs.Json.{Json}
use Rattle.netlink_objects.specs.RouteValues.{named_item, set_items}

pub items_append : (so_far : Written) (values more : List Json)
    → with_items so_far (values ++ more) ≡ with_items (with_items so_far values) more
items_append so_far values more = fold-append with_item so_far values more

drop_step : (list : List ℕ) (i : ℕ) → i < length list → drop i list ≡ get_or list i 0 ∷ drop (i + 1) list
drop_step list i inside = rw (add-one, drop-cons list i 0) refl

-- after the name of a bit, the rest of the bits leads to the same array
pub bit_step : (name : ℕ → List ℕ) (flags : ℕ) (order : List ℕ) (i : ℕ) (old new whole : Written) → i < length order
    → new ≡ with_items old (named_item (not (bit_and flags (get_or order i 0) == 0)) (name (get_or order i 0)))
    → with_items old (set_items name flags (drop i order)) ≡ whole
    → with_items new (set_items name flags (drop (i + 1) order)) ≡ whole
bit_step name flags order i old new whole inside is before =
    let bit : ℕ = get_or order i 0 in
    let rest : List Json = set_items name flags (drop (i + 1) order) in
    ap (λ (w : Written). with_items w rest) is
    ∙ sym (items_append old (named_item (not (bit_and flags bit == 0)) (name bit)) rest)
    ∙ sym (ap (λ (bits : List ℕ). with_items old (set_items name flags bits)) (drop_step order i inside))
    ∙ before

-- and after the members of a kind, the rest of the kinds leads to the same object
pub kind_step : (fields : ℕ → List Field) (kinds : List ℕ) (i : ℕ) (old new whole : Written) → i < length kinds
    → new ≡ with_fields old (fields (get_or kinds i 0))
    → with_parts old (map fields (drop i kinds)) ≡ whole → with_parts new (map fields (drop (i + 1) kinds)) ≡ whole
kind_step fields kinds i old new whole inside is before =
    ap (λ (w : Written). with_parts w (map fields (drop (i + 1) kinds))) is
    ∙ sym (ap (λ (ks : List ℕ). with_parts old (map fields ks)) (drop_step kinds i inside))
    ∙ before

-- an object of one part
pub one_part : (fields : List Field) → object_of (joined (fields ∷ [])) ≡ object_of fields
one_part fields = ap object_of (append-nil fields)

-- three parts of an array
pub three_parts : (so_far : Written) (one two three : List Json)
    → with_items so_far (one ++ (two ++ three)) ≡ with_items (with_items (with_items so_far one) two) three
three_parts so_far one two three =
    items_append so_far one (two ++ three) ∙ items_append (with_items so_far one) two three
