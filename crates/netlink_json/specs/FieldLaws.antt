-- Members and items, as they are written one after another.
use Rattle.std.proofs.Common.{◌≡◌, ◌∙◌, ◌++◌, ap, refl, sym, subst, ℕ, List, [], ◌∷◌, append_assoc, append-nil, codes, map}
use Rattle.std.proofs.lemmas.List.Sums.{fold-append}
use Rattle.netlink_json.specs.Fields.{Field, Written, absent, braced, bracketed, field_text, followed, items_of, joined, members_of, no_field, object_of, object_text, present, raw_array, raw_end, raw_field, raw_items, raw_member, raw_text, values_text, with_field, with_fields, with_item, with_items, with_parts, with_raw_array, with_raw_items}
use Rattle.netlink_json.specs.Grammar.{AreLines, IsValue}
use Rattle.netlink_json.specs.JsonLaws.{value_valid}
use Rattle.netlink_json.specs.Json.{Json, Members, array, json_text, member, members_text, no_members, object}
use Rattle.netlink_json.specs.Strings.{string_text}

pair : {a b c d : List ℕ} → a ≡ b → c ≡ d → (λ (w : Written). w) (a, c) ≡ (b, d)
pair {a} {b} {c} {d} one two = ap (λ (l : List ℕ). (λ (w : Written). w) (l, c)) one ∙ ap (λ (l : List ℕ). (λ (w : Written). w) (b, l)) two

-- ---- items

values-append : (values more : List Json) → values_text (values ++ more) ≡ values_text values ++ values_text more
values-append [] more = refl
values-append (v ∷ values) more =
    ap (λ (l : List ℕ). codes "," ++ (json_text v ++ l)) (values-append values more)
    ∙ ap (λ (l : List ℕ). codes "," ++ l) (sym (append_assoc (json_text v) (values_text values) (values_text more)))

raw_more : (raw : List ℕ) (values : List Json) → with_raw_items raw values ≡ raw ++ values_text values
raw_more raw [] = sym (append-nil raw)
raw_more raw (v ∷ values) = refl

items_from : (text raw : List ℕ) (values : List Json)
    → with_items (text, raw) values ≡ (text ++ values_text values, raw ++ values_text (raw_items (items_of values)))
unfolding with_item
items_from text raw [] = pair (sym (append-nil text)) (sym (append-nil raw))
items_from text raw (v ∷ values) =
    items_from (text ++ (codes "," ++ json_text v)) (with_raw_items raw (raw_text v)) values
    ∙ pair (append_assoc text (codes "," ++ json_text v) (values_text values))
    (ap (λ (l : List ℕ). l ++ values_text (raw_items (items_of values))) (raw_more raw (raw_text v))
    ∙ append_assoc raw (values_text (raw_text v)) (values_text (raw_items (items_of values)))
    ∙ ap (λ (l : List ℕ). raw ++ l) (sym (values-append (raw_text v) (raw_items (items_of values)))))

-- the items of an array, and what is not UTF-8 in them
pub items_all : (values : List Json)
    → with_items no_field values ≡ (values_text values, values_text (raw_items (items_of values)))
items_all values = items_from [] [] values

-- what the items of an array add to `raw`
pub raw_array_more : (raw key : List ℕ) (values : List Json)
    → with_raw_array raw key (values_text values) ≡ followed raw (raw_array key values)
raw_array_more raw key [] = refl
raw_array_more raw key (v ∷ values) = refl

-- ---- members

fields_text : List Field → List ℕ
fields_text fields = members_text (members_of fields)

-- a member, and what follows it
member_more : (key value rest : List ℕ)
    → (codes "," ++ (key ++ (codes ":" ++ value))) ++ rest ≡ codes "," ++ (key ++ (codes ":" ++ (value ++ rest)))
member_more key value rest = ap (λ (l : List ℕ). codes "," ++ l) (append_assoc key (codes ":" ++ value) rest)

field_more : (text : List ℕ) (field : Field) (fields : List Field)
    → followed text field ++ fields_text fields ≡ text ++ fields_text (field ∷ fields)
unfolding fields_text
field_more text absent fields = refl
field_more text (present key value) fields =
    append_assoc text (field_text key value) (fields_text fields)
    ∙ ap (λ (l : List ℕ). text ++ l) (member_more (string_text key) (json_text value) (fields_text fields))

fields-append : (fields more : List Field) → fields_text (fields ++ more) ≡ fields_text fields ++ fields_text more
unfolding fields_text
fields-append [] more = refl
fields-append (absent ∷ fields) more = fields-append fields more
fields-append (present key value ∷ fields) more =
    ap (λ (l : List ℕ). codes "," ++ (string_text key ++ (codes ":" ++ (json_text value ++ l)))) (fields-append fields more)
    ∙ sym (member_more (string_text key) (json_text value) (fields_text fields ++ fields_text more))
    ∙ sym (append_assoc (field_text key value) (fields_text fields) (fields_text more))
    ∙ ap (λ (l : List ℕ). l ++ fields_text more) (member_more (string_text key) (json_text value) (fields_text fields))

fields_from : (text raw : List ℕ) (fields : List Field)
    → with_fields (text, raw) fields ≡ (text ++ fields_text fields, raw ++ fields_text (map raw_field fields))
unfolding with_field fields_text
fields_from text raw [] = pair (sym (append-nil text)) (sym (append-nil raw))
fields_from text raw (field ∷ fields) =
    fields_from (followed text field) (followed raw (raw_field field)) fields
    ∙ pair (field_more text field fields) (field_more raw (raw_field field) (map raw_field fields))

parts_joined : (so_far : Written) (parts : List (List Field)) → with_parts so_far parts ≡ with_fields so_far (joined parts)
parts_joined so_far [] = refl
parts_joined so_far (part ∷ parts) =
    parts_joined (with_fields so_far part) parts ∙ sym (fold-append with_field so_far part (joined parts))

-- the member `raw`
raw_last : (members : Members) → raw_end (members_text members) ≡ members_text (members_of (raw_member members))
raw_last no_members = refl
raw_last (member key value more) =
    ap (λ (l : List ℕ). codes "," ++ (string_text (codes "raw") ++ (codes ":" ++ l))) (sym (append-nil (json_text (object (member key value more)))))

-- an object with these members, as it is written
pub object_all : (fields : List Field) → object_text (with_fields no_field fields) ≡ json_text (object_of fields)
unfolding object_text fields_text
object_all fields =
    ap object_text (fields_from [] [] fields)
    ∙ ap (λ (l : List ℕ). braced (fields_text fields ++ l)) (raw_last (members_of (map raw_field fields)))
    ∙ ap braced (sym (fields-append fields (raw_member (members_of (map raw_field fields)))))

pub object_parts : (so_far : Written) (parts : List (List Field)) → so_far ≡ with_parts no_field parts
    → object_text so_far ≡ json_text (object_of (joined parts))
object_parts so_far parts is = ap object_text (is ∙ parts_joined no_field parts) ∙ object_all (joined parts)

-- ---- what a call adds

key_more : (before key value : List ℕ)
    → (before ++ (codes "," ++ (key ++ codes ":"))) ++ value ≡ before ++ (codes "," ++ (key ++ (codes ":" ++ value)))
key_more before key value =
    append_assoc before (codes "," ++ (key ++ codes ":")) value
    ∙ ap (λ (l : List ℕ). before ++ (codes "," ++ l)) (append_assoc key (codes ":") value)

-- an object as an item and as a member
pub item_object : (before raw after : List ℕ) (inner : Written) (parts : List (List Field))
    → inner ≡ with_parts no_field parts → after ≡ (before ++ codes ",") ++ object_text inner
    → (λ (w : Written). w) (after, raw) ≡ with_item (before, raw) (object_of (joined parts))
unfolding with_item
item_object before raw after inner parts is text =
    pair
    (text ∙ append_assoc before (codes ",") (object_text inner)
    ∙ ap (λ (l : List ℕ). before ++ (codes "," ++ l)) (object_parts inner parts is))
    refl

pub member_object : (before raw after key : List ℕ) (inner : Written) (parts : List (List Field))
    → inner ≡ with_parts no_field parts
    → after ≡ (before ++ (codes "," ++ (string_text key ++ codes ":"))) ++ object_text inner
    → (λ (w : Written). w) (after, raw) ≡ with_field (before, raw) (present key (object_of (joined parts)))
unfolding with_field
member_object before raw after key inner parts is text =
    pair
    (text ∙ key_more before (string_text key) (object_text inner)
    ∙ ap (λ (l : List ℕ). before ++ (codes "," ++ (string_text key ++ (codes ":" ++ l)))) (object_parts inner parts is))
    refl

-- an array as a member
pub member_array : (before raw after new_raw key : List ℕ) (items : Written) (values : List Json)
    → items ≡ with_items no_field values
    → after ≡ (before ++ (codes "," ++ (string_text key ++ codes ":"))) ++ bracketed items.0
    → new_raw ≡ with_raw_array raw key items.1
    → (λ (w : Written). w) (after, new_raw) ≡ with_field (before, raw) (present key (array (items_of values)))
unfolding with_field
member_array before raw after new_raw key items values is text raw_is =
    let all : items ≡ (values_text values, values_text (raw_items (items_of values))) = is ∙ items_all values in
    pair
    (text ∙ key_more before (string_text key) (bracketed items.0)
    ∙ ap (λ (w : Written). before ++ (codes "," ++ (string_text key ++ (codes ":" ++ bracketed w.0)))) all)
    (raw_is ∙ ap (λ (w : Written). with_raw_array raw key w.1) all ∙ raw_array_more raw key (raw_items (items_of values)))

-- ---- objects are values of the grammar

pub object_valid : (parts : List (List Field)) → IsValue (object_text (with_parts no_field parts))
object_valid parts =
    subst IsValue (sym (object_parts (with_parts no_field parts) parts refl)) (value_valid (object_of (joined parts)))

-- after parts that come first too
pub object_after : (front parts : List (List Field))
    → IsValue (object_text (with_parts (with_parts no_field front) parts))
object_after front parts =
    subst (λ (w : Written). IsValue (object_text w)) (fold-append with_fields no_field front parts) (object_valid (front ++ parts))

-- lines after others
pub lines_after : (text more : List ℕ) → AreLines text → AreLines more → AreLines (text ++ more)
lines_after text more AreLines.no_lines rest = rest
lines_after text more (AreLines.one_line {value} {rest = after} one lines) rest =
    subst AreLines
    (sym (append_assoc value (codes "\n" ++ after) more))
    (AreLines.one_line one (lines_after after more lines rest))

pub object_line : (front parts : List (List Field))
    → AreLines (object_text (with_parts (with_parts no_field front) parts) ++ codes "\n")
object_line front parts = AreLines.one_line (object_after front parts) AreLines.no_lines
