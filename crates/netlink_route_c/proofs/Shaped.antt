-- Views of a payload: their attributes have their shapes.
use Rattle.std.proofs.Common.{◌≡◌, ℕ, ◌+◌, ◌-◌, ◌≤◌, Bool, true, false, List, length, take, drop, refl, ap, sym, subst, ◌∙◌, arith, Option, Some, None}
use Rattle.std.proofs.lemmas.Bool.{le-leb}
use Rattle.std.proofs.Math.Seq.{drop-append_seam}
use Rattle.std.proofs.lemmas.List.{length-append, take-append-drop, take_all}
use Rattle.std.specs.Prelude.{if◌then◌else◌}
use Rattle.netlink_family.specs.FindingLaws.{first_fits}
use Rattle.netlink_family.specs.Listing.{first_of, listed, listed_all}
use Rattle.netlink_family.specs.NestLaws.{kind_has, nest_shaped}
use Rattle.netlink_family.specs.Shapes.{Scope, all_shaped, fits_in, has_shape, is_block_shaped, nest_levels, nest_of, Row, has_type, nest_start, within}
use Rattle.netlink_family.specs.Tables.{table_error}
use Rattle.netlink_family.specs.declared.error.FamilyError.{FamilyError}
use Rattle.netlink_family.specs.declared.family.Table.{Ghosts}
use Rattle.netlink_family.specs.declared.shape.Shape.{Shape}
use Rattle.netlink_packet_core.specs.Attribute.{Attribute}
use Rattle.netlink_packet_core.specs.Reading.{attributes_in}
use Rattle.netlink_shapes.specs.Fitting.{fits_at}
use Rattle.netlink_route_c.proofs.Places.{nest_part}
use Rattle.netlink_route_c.specs.Gets.{nest_view}
use Rattle.netlink_route_c.specs.Views.{IsViewOf, block_of, found_of, is_inside, part_of, shape_of, whole_view}
use Rattle.netlink_route_c.specs.declared.view.Part.{Part}
use Rattle.netlink_route_c.specs.declared.view.View.{View}

by_attributes : (scope : Scope) (policy kind : ℕ) (block v : List ℕ) (found : Option (List Attribute)) → attributes_in block ≡ found
    → all_shaped (fits_at scope policy) found ≡ true → first_of kind (listed block) ≡ Some v → fits_in scope policy kind v ≡ true
by_attributes scope policy kind block v None reads shaped gives = absurd (cc)
by_attributes scope policy kind block v (Some all) reads shaped gives =
    first_fits scope policy kind all v shaped (ap (first_of kind) (sym (listed_all block all reads)) ∙ gives)

by_inside : (b : Bool) (o : Option (List ℕ)) (v : List ℕ) → b ≡ true → (if b then o else None) ≡ Some v → o ≡ Some v
by_inside true o v is gives = gives
by_inside false o v is gives = absurd (cc)

-- the first attribute of a kind in a view of the payload fits its kind
pub view_fits : {F : Type 0} (table : Ghosts F) (payload : List ℕ) (view : View) (kind : ℕ) (v : List ℕ) → IsViewOf table payload view
    → found_of payload view kind ≡ Some v
    → fits_in (within (table.rows view.message_type) (block_of payload view)) view.policy kind v ≡ true
view_fits table payload view kind v is gives =
    by_attributes (within (table.rows view.message_type) (block_of payload view)) view.policy kind (block_of payload view) v
    (attributes_in (block_of payload view)) refl is.shaped
    (by_inside (is_inside view.attributes (length payload)) (first_of kind (listed (block_of payload view))) v is.inside gives)

-- so it has the shape of its kind
pub view_has_shape : {F : Type 0} (table : Ghosts F) (payload : List ℕ) (view : View) (kind : ℕ) (v : List ℕ) → IsViewOf table payload view
    → found_of payload view kind ≡ Some v → has_shape (shape_of table payload view kind) v ≡ true
view_has_shape table payload view kind v is gives =
    kind_has (within (table.rows view.message_type) (block_of payload view)) view.policy kind v (view_fits table payload view kind v is gives)

pub view_not_misfit : {F : Type 0} (table : Ghosts F) (payload : List ℕ) (view : View) (kind : ℕ) (v : List ℕ) (shape : Shape)
    → shape ≡ shape_of table payload view kind → found_of payload view kind ≡ Some v → has_shape shape v ≡ false
    → IsViewOf table payload view → ⊥
view_not_misfit table payload view kind v shape same gives misfit is =
    let has = ap (λ (s : Shape). has_shape s v) same ∙ view_has_shape table payload view kind v is gives in
    absurd (cc)

-- the nest in it is a view of the payload too
pub nest_is_view : {F : Type 0} (table : Ghosts F) (payload : List ℕ) (view : View) (kind inner : ℕ) (shape : Shape) (part : Part)
    → shape ≡ shape_of table payload view kind → found_of payload view kind ≡ Some (part_of part payload)
    → part.offset + part.size ≤ length payload → nest_start shape ≤ part.size → nest_of shape ≡ Some inner
    → IsViewOf table payload view → IsViewOf table payload (nest_view view.message_type inner shape part)
nest_is_view table payload view kind inner shape part same gives inside starts nests is = record {
  inside = le-leb _ _ (let start : part.offset + nest_start shape + (part.size - nest_start shape) ≤ length payload = omega arith in start);
  shaped =
      ap (is_block_shaped nest_levels (table.rows view.message_type) inner) (sym (nest_part payload part.offset part.size (nest_start shape) starts))
      ∙ nest_shaped (within (table.rows view.message_type) (block_of payload view)) view.policy kind (part_of part payload) shape inner
      same nests (view_fits table payload view kind (part_of part payload) is gives);
}

-- ---- the view of a message

known_by : (is : Bool) (o : Option FamilyError) (e : FamilyError) → (if is then o else Some e) ≡ None → is ≡ true
known_by true o e none = refl
known_by false o e none = absurd (cc)

-- a message without an error has a table
pub has_table : {F : Type 0} (table : Ghosts F) (t : ℕ) (payload : List ℕ) → table_error table t payload ≡ None
    → has_type table.types t ≡ true
has_table table t payload none = known_by (has_type table.types t) _ _ none

whole_block : (size t : ℕ) (payload : List ℕ) → block_of payload (whole_view size t payload) ≡ drop size payload
whole_block size t payload =
    let a : ℕ = length (take size payload) in
    let rest : List ℕ = drop size payload in
    let count : a + length rest - a ≡ length rest = omega arith in
    ap (λ (n : ℕ). take n (drop a payload)) count
    ∙ ap (λ (l : List ℕ). take (length rest) (drop a l)) (sym (take-append-drop size payload))
    ∙ ap (take (length rest)) (drop-append_seam (take size payload) rest)
    ∙ take_all (length rest) rest (let same : length rest ≤ length rest = omega arith in same)

whole_ends : (size : ℕ) (payload : List ℕ) → length (take size payload) + length (drop size payload) ≡ length payload
whole_ends size payload = sym (length-append (take size payload) (drop size payload)) ∙ ap length (take-append-drop size payload)

-- its attributes have the shapes of the rows of its type
pub whole_is_view : {F : Type 0} (table : Ghosts F) (rows : List Row) (size t : ℕ) (payload : List ℕ) (view : View) → table.rows t ≡ rows
    → view ≡ whole_view size t payload → is_block_shaped nest_levels rows 0 (drop size payload) ≡ true → IsViewOf table payload view
whole_is_view table rows size t payload view same is shaped =
    subst (λ (v : View). IsViewOf table payload v) (sym is) (record {
      inside = le-leb _ _ (let ends = whole_ends size payload in let n : length (take size payload) + length (drop size payload) ≤ length payload = omega arith in n);
      shaped =
          ap (λ (r : List Row). is_block_shaped nest_levels r 0 (block_of payload (whole_view size t payload))) same
          ∙ ap (is_block_shaped nest_levels rows 0) (whole_block size t payload) ∙ shaped;
    })
