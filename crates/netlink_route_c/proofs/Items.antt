-- A walk over the attributes of a view: what it reads, and that it goes on.
use Rattle.std.proofs.Common.{◌≡◌, ℕ, ◌+◌, ◌-◌, ◌%◌, ◌<◌, ◌≤◌, true, false, List, [], ◌∷◌, length, drop, take, refl, ap, sym, subst, ◌∙◌, arith, length-drop, Option, Some, None, inr}
use Rattle.std.proofs.lemmas.Bool.{and_parts, le-leb}
use Rattle.std.proofs.lemmas.List.{drop-drop}
use Rattle.std.specs.List.{list_all}
use Rattle.std.specs.Prelude.{slice_range}
use Rattle.netlink_family.specs.IterationLaws.{shaped_good}
use Rattle.netlink_family.specs.NestLaws.{kind_has, nest_shaped}
use Rattle.netlink_family.specs.Shapes.{Row, Scope, all_shaped, by_nest, fits_in, has_shape, is_block_shaped, nest_levels, nest_of, nest_start, resolved, shape_among, within}
use Rattle.netlink_family.specs.declared.family.Table.{Ghosts}
use Rattle.netlink_family.specs.declared.shape.Shape.{Shape}
use Rattle.netlink_packet_core.specs.Attribute.{Attribute}
use Rattle.netlink_packet_core.specs.DecodeError.{DecodeError}
use Rattle.netlink_packet_core.specs.Nla.{attribute_with}
use Rattle.netlink_packet_core.specs.NumberLaws.{IsBytes-drop, IsBytes-take}
use Rattle.netlink_packet_core.specs.Numbers.{IsBytes}
use Rattle.netlink_packet_core.specs.Reading.{attributes_in, attributes_within}
use Rattle.netlink_packet_core.specs.ReadingLaws.{walk-attributes_in}
use Rattle.netlink_packet_core.specs.StartLaws.{nothing_starts, starts_held}
use Rattle.netlink_packet_core.specs.Views.{HoldsAttribute, attribute_of, length_field, raw_kind}
use Rattle.netlink_packet_core.specs.Walk.{IsFault, Starts, Walk}
use Rattle.netlink_packet_core.specs.WalkLaws.{starts_once}
use Rattle.netlink_shapes.specs.Fitting.{AreShaped, fits_at}
use Rattle.netlink_route_c.proofs.Getting.{start_fits}
use Rattle.netlink_route_c.proofs.Places.{inside_end, nest_part, part_again, part_size}
use Rattle.netlink_route_c.specs.Gets.{nest_view}
use Rattle.netlink_route_c.specs.Items.{AreKept, IsItemAt, IsKept, IsMisfit, IsTyped, IsWalkOf, empty_view, item_nest, no_walk, row_of, scope_of}
use Rattle.netlink_route_c.specs.ShapeNumbers.{shape_again, shape_from, shape_numbers}
use Rattle.netlink_route_c.specs.Views.{IsViewOf, block_of, is_inside, part_of, shape_of}
use Rattle.netlink_route_c.specs.declared.item.Item.{Item}
use Rattle.netlink_route_c.specs.declared.item.KeptShape.{KeptShape}
use Rattle.netlink_route_c.specs.declared.item.ViewWalk.{ViewWalk}
use Rattle.netlink_route_c.specs.declared.view.Part.{Part}
use Rattle.netlink_route_c.specs.declared.view.View.{View}

-- ---- what is kept

-- the shape that is kept of what a kind chose is what it chooses
pub kept_is : (scope : Scope) (policy : ℕ) (kept : KeptShape) (row shape : Shape) → IsKept scope policy kept
    → row_of kept ≡ Some row → shape_from kept.shape ≡ Some shape → shape ≡ resolved scope policy row
kept_is scope policy kept row shape is of gives =
    let both : Some shape ≡ Some (resolved scope policy row) =
    sym gives ∙ ap shape_from (is row of) ∙ shape_again (resolved scope policy row) in
    cc

-- what is kept for a row is what attributes choose for it
pub kept_new : (scope : Scope) (policy : ℕ) (kept : KeptShape) (row shape : Shape) → ((other : Shape) → row_of kept ≡ Some other → other ≡ row)
    → kept.shape ≡ shape_numbers shape → shape ≡ resolved scope policy row → IsKept scope policy kept
kept_new scope policy kept row shape same numbers is = λ other of.
    numbers ∙ ap shape_numbers is ∙ ap (λ (r : Shape). shape_numbers (resolved scope policy r)) (sym (same other of))

-- what is kept of a view is kept of its block
pub kept_here : {F : Type 0} (table : Ghosts F) (rows : List Row) (payload block : List ℕ) (view : View) (walk : ViewWalk)
    → rows ≡ table.rows view.message_type → block ≡ block_of payload view
    → AreKept (scope_of table payload view) view.policy walk → AreKept (within rows block) view.policy walk
kept_here table rows payload block view walk by is kept =
    subst (λ (b : List ℕ). AreKept (within rows b) view.policy walk) (sym is)
    (subst (λ (r : List Row). AreKept (within r (block_of payload view)) view.policy walk) (sym by) kept)

pub kept_there : {F : Type 0} (table : Ghosts F) (rows : List Row) (payload block : List ℕ) (view : View) (walk : ViewWalk)
    → rows ≡ table.rows view.message_type → block ≡ block_of payload view
    → AreKept (within rows block) view.policy walk → AreKept (scope_of table payload view) view.policy walk
kept_there table rows payload block view walk by is kept =
    subst (λ (r : List Row). AreKept (within r (block_of payload view)) view.policy walk) by
    (subst (λ (b : List ℕ). AreKept (within rows b) view.policy walk) is kept)

-- ---- the beginning

by_found : (scope : Scope) (policy : ℕ) (block : List ℕ) (found : Option (List Attribute)) → IsBytes block
    → attributes_in block ≡ found → all_shaped (fits_at scope policy) found ≡ true → AreShaped scope policy block
by_found scope policy block None each reads shaped = absurd (cc)
by_found scope policy block (Some all) each reads shaped =
    record { all = all; walk = walk-attributes_in block all each reads; shaped = shaped }

-- all zeros begin a walk over a view of the payload
pub begins : {F : Type 0} (table : Ghosts F) (payload : List ℕ) (view : View) → IsBytes payload → IsViewOf table payload view
    → IsWalkOf table payload view no_walk
begins table payload view each is = record {
  of = is;
  kept = (λ row n. absurd (cc), λ row n. absurd (cc));
  rest = by_found (scope_of table payload view) view.policy (block_of payload view) (attributes_in (block_of payload view))
      (IsBytes-take _ _ (IsBytes-drop view.attributes.offset payload each)) refl is.shaped;
}

-- the table of which that is said
abbrev pub table_of : {F : Type 0} {table : Ghosts F} {payload : List ℕ} {view : View}
    → (IsViewOf table payload view → IsWalkOf table payload view no_walk) → Ghosts F
table_of {table} begins = table

-- ---- an item

-- what a view of an attribute shows
pub step_starts : (block seen : List ℕ) (at kind size field end next : ℕ) → IsBytes block → HoldsAttribute (drop at block) → seen ≡ drop at block
    → kind ≡ raw_kind seen → size + 4 ≡ length_field seen → field ≡ length_field seen → (field ≤ end) × (end < field + 4) → end % 4 ≡ 0
    → drop next block ≡ drop end (drop at block)
    → Starts (drop at block) (attribute_with kind (slice_range block (at + 4) (at + 4 + size))) (drop next block)
step_starts block seen at kind size field end next each whole view kinds sizes fields least multiple rest =
    let bytes : List ℕ = drop at block in
    let number : size + 4 ≡ length_field bytes = sizes ∙ ap length_field view in
    let again : field ≡ length_field bytes = fields ∙ ap length_field view in
    let starts : Starts bytes (attribute_of bytes) (drop end bytes) =
    starts_held bytes end (IsBytes-drop at block each) whole
    (omega (arith, again, least.0)) (omega (arith, again, least.1)) multiple in
    let count : length_field bytes - 4 ≡ at + 4 + size - (at + 4) = omega arith in
    let value : (attribute_of bytes).value ≡ slice_range block (at + 4) (at + 4 + size) =
    ap (λ (n : ℕ). take n (drop 4 bytes)) count ∙ ap (take (at + 4 + size - (at + 4))) (drop-drop 4 at block) in
    subst (λ (r : List ℕ). Starts bytes (attribute_with kind (slice_range block (at + 4) (at + 4 + size))) r) (sym rest)
    (subst (λ (v : List ℕ). Starts bytes (attribute_with kind v) (drop end bytes)) value
    (subst (λ (k : ℕ). Starts bytes (attribute_with k (attribute_of bytes).value) (drop end bytes))
    (ap raw_kind (sym view) ∙ sym kinds) starts))

pub step_inside : (block seen : List ℕ) (at size : ℕ) → HoldsAttribute (drop at block) → seen ≡ drop at block → size + 4 ≡ length_field seen
    → at < length block → at + 4 + size ≤ length block
step_inside block seen at size whole view sizes inside =
    let left = length-drop at block in
    let number : size + 4 ≡ length_field (drop at block) = sizes ∙ ap length_field view in
    omega (arith, left, number, whole.most, inside)

-- a value of the block is a part of the payload
value_part : (payload block : List ℕ) (view : View) (start size : ℕ)
    → is_inside view.attributes (length payload) ≡ true → block ≡ block_of payload view → start + size ≤ length block
    → slice_range block start (start + size) ≡ part_of (record { offset = view.attributes.offset + start; size = size }) payload
value_part payload block view start size inside is ends =
    let end = inside_end view.attributes (length payload) inside in
    let long = ap length is ∙ part_size view.attributes payload end in
    ap (λ (b : List ℕ). slice_range b start (start + size)) is
    ∙ part_again payload view.attributes.offset view.attributes.size start size (omega (arith, ends, long))

-- what is read is an item of the view
pub item_at : (payload block : List ℕ) (view : View) (at kind size next : ℕ) (item : Item)
    → is_inside view.attributes (length payload) ≡ true → block ≡ block_of payload view
    → Starts (drop at block) (attribute_with kind (slice_range block (at + 4) (at + 4 + size))) (drop next block)
    → at + 4 + size ≤ length block → (at < next) × (next ≤ length block) → item.kind ≡ kind
    → item.value ≡ record { offset = view.attributes.offset + (at + 4); size = size }
    → IsItemAt payload view at item next
item_at payload block view at kind size next item inside is starts ends forward same part =
    let end = inside_end view.attributes (length payload) inside in
    let long = ap length is ∙ part_size view.attributes payload end in
    let there = value_part payload block view (at + 4) size inside is ends in
    record {
      starts = subst (λ (b : List ℕ). Starts (drop at b) (attribute_with item.kind (part_of item.value payload)) (drop next b)) is
          (subst (λ (k : ℕ). Starts (drop at block) (attribute_with k (part_of item.value payload)) (drop next block)) (sym same)
          (subst (λ (v : List ℕ). Starts (drop at block) (attribute_with kind v) (drop next block))
          (there ∙ ap (λ (p : Part). part_of p payload) (sym part)) starts));
      inside = subst (λ (p : Part). p.offset + p.size ≤ length payload) (sym part)
          (let n : view.attributes.offset + (at + 4) + size ≤ length payload = omega (arith, end, ends, long) in n);
      forward = (forward.0, omega (arith, forward.1, long));
    }

-- it has the shape of its kind
pub item_typed : {F : Type 0} (table : Ghosts F) (rows : List Row) (payload block : List ℕ) (view : View) (at kind size : ℕ) (shape : Shape)
    (item : Item) → rows ≡ table.rows view.message_type
    → is_inside view.attributes (length payload) ≡ true → block ≡ block_of payload view
    → at + 4 + size ≤ length block
    → shape ≡ shape_among (within rows block) view.policy kind → has_shape shape (slice_range block (at + 4) (at + 4 + size)) ≡ true
    → item ≡ record {
      kind = kind;
      shape = shape_numbers shape;
      value = record { offset = view.attributes.offset + (at + 4); size = size };
      nest = item_nest view.message_type shape (record { offset = view.attributes.offset + (at + 4); size = size });
    } → IsTyped table payload view item
item_typed table rows payload block view at kind size shape item by inside is ends chosen fits made =
    let part : Part = record { offset = view.attributes.offset + (at + 4); size = size } in
    let here : shape ≡ shape_of table payload view kind =
    chosen
    ∙ ap (λ (r : List Row). shape_among (within r block) view.policy kind) by
    ∙ ap (λ (b : List ℕ). shape_among (within (table.rows view.message_type) b) view.policy kind) is in
    let there = value_part payload block view (at + 4) size inside is ends in
    subst (λ (i : Item). IsTyped table payload view i) (sym made) (record {
      shape = ap shape_numbers here;
      fits = ap (λ (s : Shape). has_shape s (part_of part payload)) (sym here) ∙ ap (has_shape shape) (sym there) ∙ fits;
      nest = ap (λ (s : Shape). item_nest view.message_type s part) here;
    })

-- ---- the walk goes on

by_walk : (scope : Scope) (policy : ℕ) (bytes : List ℕ) (a : Attribute) (rest : List ℕ) (all : List Attribute)
    → Starts bytes a rest → Walk bytes all None → list_all (fits_at scope policy) all ≡ true
    → (fits_at scope policy a ≡ true) × AreShaped scope policy rest
by_walk scope policy bytes a rest [] starts walk shaped = absurd (nothing_starts bytes a rest walk starts)
by_walk scope policy bytes a rest (b ∷ more) starts walk shaped =
    let parts = and_parts (fits_at scope policy b) (list_all (fits_at scope policy) more) shaped in
    let same = starts_once bytes b a walk.0 rest walk.1 starts in (
      sym (ap (fits_at scope policy) same.0) ∙ parts.0,
      record { all = more; walk = subst (λ (x : List ℕ). Walk x more None) same.1 walk.2; shaped = parts.1 },
    )

-- if attributes have their shapes, so has the first, and so have the rest
shaped_next : (scope : Scope) (policy : ℕ) (bytes : List ℕ) (a : Attribute) (rest : List ℕ) → Starts bytes a rest
    → AreShaped scope policy bytes → (fits_at scope policy a ≡ true) × AreShaped scope policy rest
shaped_next scope policy bytes a rest starts are = by_walk scope policy bytes a rest are.all starts are.walk are.shaped

pub walk_again : {F : Type 0} (table : Ghosts F) (payload : List ℕ) (view : View) (old new : ViewWalk) (item : Item) (next : ℕ)
    → IsItemAt payload view old.at item next → new.at ≡ next → AreKept (scope_of table payload view) view.policy new
    → IsWalkOf table payload view old → IsWalkOf table payload view new
walk_again table payload view old new item next here same kept walk = record {
  of = walk.of;
  kept = kept;
  rest = subst (λ (n : ℕ). AreShaped (scope_of table payload view) view.policy (drop n (block_of payload view))) (sym same)
      (shaped_next (scope_of table payload view) view.policy (drop old.at (block_of payload view)) _ _ here.starts walk.rest).1;
}

item_fits : {F : Type 0} (table : Ghosts F) (payload : List ℕ) (view : View) (walk : ViewWalk) (item : Item) (next : ℕ)
    → IsItemAt payload view walk.at item next → IsWalkOf table payload view walk
    → fits_in (scope_of table payload view) view.policy item.kind (part_of item.value payload) ≡ true
item_fits table payload view walk item next here is =
    (shaped_next (scope_of table payload view) view.policy (drop walk.at (block_of payload view)) _ _ here.starts is.rest).0

empty_is_view : {F : Type 0} (table : Ghosts F) (payload : List ℕ) (t offset : ℕ) → offset ≤ length payload
    → IsViewOf table payload (empty_view t offset)
unfolding attributes_within
empty_is_view table payload t offset inside =
    let none : offset + 0 - offset ≡ 0 = omega arith in
    record {
      inside = le-leb _ _ (let n : offset + 0 ≤ length payload = omega arith in n);
      shaped = ap (λ (n : ℕ). is_block_shaped nest_levels (table.rows t) 0 (take n (drop offset payload))) none;
    }

nest_by_view : {F : Type 0} (table : Ghosts F) (payload : List ℕ) (view : View) (kind : ℕ) (shape : Shape) (part : Part) (inner : Option ℕ)
    → nest_of shape ≡ inner → shape ≡ shape_of table payload view kind → part.offset + part.size ≤ length payload
    → nest_start shape ≤ part.size
    → fits_in (scope_of table payload view) view.policy kind (part_of part payload) ≡ true
    → IsViewOf table payload (by_nest inner (λ policy. nest_view view.message_type policy shape part) (empty_view view.message_type part.offset))
nest_by_view table payload view kind shape part None nests same inside starts fits =
    empty_is_view table payload view.message_type part.offset (omega arith)
nest_by_view table payload view kind shape part (Some inner) nests same inside starts fits = record {
  inside = le-leb _ _ (let n : part.offset + nest_start shape + (part.size - nest_start shape) ≤ length payload = omega arith in n);
  shaped =
      ap (is_block_shaped nest_levels (table.rows view.message_type) inner) (sym (nest_part payload part.offset part.size (nest_start shape) starts))
      ∙ nest_shaped (scope_of table payload view) view.policy kind (part_of part payload) shape inner same nests fits;
}

-- the nest of an item of such a walk is a view of the payload
pub item_is_view : {F : Type 0} (table : Ghosts F) (payload : List ℕ) (view : View) (walk : ViewWalk) (item : Item) (next : ℕ)
    → IsItemAt payload view walk.at item next → IsTyped table payload view item → IsWalkOf table payload view walk
    → IsViewOf table payload item.nest
item_is_view table payload view walk item next here typed walks =
    let shape : Shape = shape_of table payload view item.kind in
    let least = start_fits shape (part_of item.value payload) typed.fits in
    let long = part_size item.value payload here.inside in
    subst (λ (v : View). IsViewOf table payload v) (sym typed.nest)
    (nest_by_view table payload view item.kind shape item.value (nest_of shape) refl refl here.inside (omega (arith, least, long))
    (item_fits table payload view walk item next here walks))

-- ---- no error

-- such a walk has an attribute
pub not_malformed : {F : Type 0} (table : Ghosts F) (payload block : List ℕ) (view : View) (walk : ViewWalk) (e : DecodeError)
    → block ≡ block_of payload view → walk.at < length block → IsFault (drop walk.at block) e → IsWalkOf table payload view walk → ⊥
not_malformed table payload block view walk e is more malformed walks =
    let left = length-drop walk.at (block_of payload view) in
    let long = ap length is in
    shaped_good (scope_of table payload view) view.policy (drop walk.at (block_of payload view)) e
    (λ none. omega (arith, left, long, more, ap length none))
    (subst (λ (b : List ℕ). IsFault (drop walk.at b) e) is malformed) ∣ walks.rest ∣₁

-- its value has the shape of its kind
pub not_misfit : {F : Type 0} (table : Ghosts F) (rows : List Row) (payload block : List ℕ) (view : View) (walk : ViewWalk) (kind next : ℕ)
    (value : List ℕ) (shape : Shape) → rows ≡ table.rows view.message_type → block ≡ block_of payload view
    → Starts (drop walk.at block) (attribute_with kind value) (drop next block)
    → (AreKept (within rows block) view.policy walk → shape ≡ shape_among (within rows block) view.policy kind)
    → has_shape shape value ≡ false → IsWalkOf table payload view walk → ⊥
not_misfit table rows payload block view walk kind next value shape by is starts chosen misfit walks =
    let kept = kept_here table rows payload block view walk by is walks.kept in
    let shapes : AreShaped (within rows block) view.policy (drop walk.at block) =
    subst (λ (b : List ℕ). AreShaped (within rows b) view.policy (drop walk.at b)) (sym is)
    (subst (λ (r : List Row). AreShaped (within r (block_of payload view)) view.policy (drop walk.at (block_of payload view))) (sym by) walks.rest) in
    let fits = (shaped_next (within rows block) view.policy (drop walk.at block) (attribute_with kind value) (drop next block) starts shapes).0 in
    let has = ap (λ (s : Shape). has_shape s value) (chosen kept) ∙ kind_has (within rows block) view.policy kind value fits in
    absurd (cc)

-- what has another shape, in the words of the clause
pub misfit_is : {F : Type 0} (table : Ghosts F) (rows : List Row) (payload block : List ℕ) (view : View) (walk : ViewWalk) (kind next : ℕ)
    (value : List ℕ) (shape : Shape) → rows ≡ table.rows view.message_type → block ≡ block_of payload view
    → Starts (drop walk.at block) (attribute_with kind value) (drop next block)
    → (AreKept (within rows block) view.policy walk → shape ≡ shape_among (within rows block) view.policy kind)
    → has_shape shape value ≡ false → IsMisfit table payload view walk
misfit_is table rows payload block view walk kind next value shape by is starts chosen misfit =
    inr (
      attribute_with kind value,
      drop next block,
      subst (λ (b : List ℕ). Starts (drop walk.at b) (attribute_with kind value) (drop next block)) is starts,
      λ kept.
          (let same : shape ≡ shape_of table payload view kind =
          chosen (kept_here table rows payload block view walk by is kept)
          ∙ ap (λ (r : List Row). shape_among (within r block) view.policy kind) by
          ∙ ap (λ (b : List ℕ). shape_among (within (table.rows view.message_type) b) view.policy kind) is in
          ap (λ (s : Shape). has_shape s value) (sym same) ∙ misfit),
    )
