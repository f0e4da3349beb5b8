-- The error of appending an attribute, by cases.
use Rattle.std.specs.Prelude.{ℕ, ◌≡◌, ◌==◌, ◌&&◌, ◌||◌, if◌then◌else◌, Bool, true, false, List, [], ◌∷◌, drop, length, is_none, Option, None, refl}
use Rattle.std.specs.Option.{option_map}
use Rattle.std.proofs.Common.{ap, sym, ◌∙◌}
use Rattle.std.proofs.lemmas.Bool.{eq-eqb}
use Rattle.netlink_packet_core.specs.Numbers.{bytes_be, bytes_le, unsigned}
use Rattle.netlink_packet_core.specs.Views.{masked}
use Rattle.netlink_shapes.specs.Errors.{value_error}
use Rattle.netlink_shapes.specs.ErrorLaws.{value_shaped}
use Rattle.netlink_shapes.specs.NestLaws.{flat_step}
use Rattle.netlink_shapes.specs.Pushing.{added_error, choosers, chooses, is_chosen_by, push_error, room_error, with_chooser}
use Rattle.netlink_shapes.specs.Shapes.{Row, Scope, fits_kind, has_shape, has_type, is_shaped, nest_levels, nest_of, or_first, resolved, shape_in, within}
use Rattle.netlink_blocks.specs.Values.{is_satisfied, value_bytes, value_shape}
use Rattle.netlink_shapes.specs.declared.attribute_error.AttributeError.{AttributeError}
use Rattle.netlink_shapes.specs.declared.error.FamilyError.TheVariants.{InvalidAttribute}
use Rattle.netlink_shapes.specs.declared.shape.Shape.{Shape}
use Rattle.netlink_shapes.specs.declared.shape.Shape.TheVariants as shape
use Rattle.netlink_blocks.specs.declared.value.Value.{Value}
use Rattle.netlink_blocks.specs.declared.value.Value.TheVariants as variant

-- the error is that of the value, or else that of its place; if it has none, the only error is that
-- there is no room
pub push_by_value : (size : ℕ) (rows : List Row) (bytes : List ℕ) (kind : ℕ) (value block : List ℕ)
    (found : Option AttributeError) → block ≡ drop size bytes
    → added_error (within rows block) kind value ≡ found
    → push_error size rows bytes kind value
    ≡ or_first (option_map InvalidAttribute found) (room_error size bytes value)
push_by_value size rows bytes kind value block found after is =
    ap (λ (o : Option AttributeError). or_first (option_map InvalidAttribute o) (room_error size bytes value))
    (ap (λ (b : List ℕ). added_error (within rows b) kind value) (sym after) ∙ is)

flat_fits : (scope : Scope) (kind : ℕ) (value : List ℕ) (s : Shape) → shape_in scope.0 0 kind ≡ s
    → resolved scope 0 s ≡ s → nest_of s ≡ None → has_shape s value ≡ true → fits_kind scope kind value ≡ true
flat_fits scope kind value s is plain flat has =
    ap (λ (t : Shape). is_shaped nest_levels scope.0 t value) (ap (resolved scope 0) is ∙ plain)
    ∙ flat_step nest_levels scope.0 s value flat ∙ has

-- a value that satisfies the shape of its kind fits
pub satisfied_fits : (scope : Scope) (kind : ℕ) (value : Value) → shape_in scope.0 0 kind ≡ value_shape value
    → is_satisfied value ≡ true → fits_kind scope kind (value_bytes value) ≡ true
unfolding bytes_le bytes_be
satisfied_fits scope kind variant.Flag is has = flat_fits scope kind [] shape.Flag is refl refl refl
satisfied_fits scope kind (variant.U8 n) is has = flat_fits scope kind (n ∷ []) shape.U8 is refl refl refl
satisfied_fits scope kind (variant.U16 n) is has = flat_fits scope kind (bytes_le n 2) shape.U16 is refl refl refl
satisfied_fits scope kind (variant.U32 n) is has = flat_fits scope kind (bytes_le n 4) shape.U32 is refl refl refl
satisfied_fits scope kind (variant.U64 n) is has = flat_fits scope kind (bytes_le n 8) shape.U64 is refl refl refl
satisfied_fits scope kind (variant.I32 n) is has = flat_fits scope kind (bytes_le (unsigned 4 n) 4) shape.I32 is refl refl refl
satisfied_fits scope kind (variant.I64 n) is has = flat_fits scope kind (bytes_le (unsigned 8 n) 8) shape.I64 is refl refl refl
satisfied_fits scope kind (variant.Be16 n) is has = flat_fits scope kind (bytes_be n 2) shape.Be16 is refl refl refl
satisfied_fits scope kind (variant.Be32 n) is has = flat_fits scope kind (bytes_be n 4) shape.Be32 is refl refl refl
satisfied_fits scope kind (variant.Be64 n) is has = flat_fits scope kind (bytes_be n 8) shape.Be64 is refl refl refl
satisfied_fits scope kind (variant.BeI32 n) is has = flat_fits scope kind (bytes_be (unsigned 4 n) 4) shape.BeI32 is refl refl refl
satisfied_fits scope kind (variant.ExactLen b) is has =
    flat_fits scope kind b.now (shape.ExactLen (length b.now)) is refl refl (eq-eqb (length b.now) (length b.now) refl)
satisfied_fits scope kind (variant.Ip b) is has = flat_fits scope kind b.now shape.Ip is refl refl has
satisfied_fits scope kind (variant.NulStr b) is has = flat_fits scope kind b.now shape.NulStr is refl refl has
satisfied_fits scope kind (variant.Str b) is has = flat_fits scope kind b.now shape.Str is refl refl has
satisfied_fits scope kind (variant.MinLen size b) is has = flat_fits scope kind b.now (shape.MinLen size) is refl refl has
satisfied_fits scope kind (variant.Elements size b) is has = flat_fits scope kind b.now (shape.Elements size) is refl refl has
satisfied_fits scope kind (variant.Nested inner) is has = absurd (cc)
satisfied_fits scope kind (variant.HeaderNested header inner) is has = absurd (cc)
satisfied_fits scope kind (variant.Bytes b) is has = flat_fits scope kind b.now shape.Bytes is refl refl refl

-- ---- a value without an error has the shape of its kind

pub no_error_fits : (scope : Scope) (kind : ℕ) (value : List ℕ) → value_error nest_levels scope 0 0 kind value ≡ None
    → fits_kind scope kind value ≡ true
no_error_fits scope kind value none =
    sym (value_shaped nest_levels scope 0 0 kind value) ∙ ap (λ (o : Option AttributeError). is_none o) none

-- ---- the kinds that choose a shape

either_chooses : (top : Bool) (s : Shape) (kinds : List ℕ) (later : Bool) (kind : ℕ)
    → later ≡ has_type kinds (masked kind)
    → (top && is_chosen_by kind s || later) ≡ has_type (if top then with_chooser s kinds else kinds) (masked kind)
either_chooses false s kinds later kind is = is
either_chooses true (shape.Chosen by p) kinds later kind is = ap (λ (b : Bool). by == masked kind || b) is
either_chooses true (shape.ChosenByNumber by p) kinds later kind is = ap (λ (b : Bool). by == masked kind || b) is
either_chooses true shape.Flag kinds later kind is = is
either_chooses true shape.U8 kinds later kind is = is
either_chooses true shape.U16 kinds later kind is = is
either_chooses true shape.U32 kinds later kind is = is
either_chooses true shape.U64 kinds later kind is = is
either_chooses true shape.I32 kinds later kind is = is
either_chooses true shape.I64 kinds later kind is = is
either_chooses true shape.Be16 kinds later kind is = is
either_chooses true shape.Be32 kinds later kind is = is
either_chooses true shape.Be64 kinds later kind is = is
either_chooses true shape.BeI32 kinds later kind is = is
either_chooses true (shape.ExactLen size) kinds later kind is = is
either_chooses true shape.Ip kinds later kind is = is
either_chooses true shape.NulStr kinds later kind is = is
either_chooses true shape.Str kinds later kind is = is
either_chooses true (shape.MinLen size) kinds later kind is = is
either_chooses true (shape.Elements size) kinds later kind is = is
either_chooses true (shape.Nested p) kinds later kind is = is
either_chooses true (shape.HeaderNested size p) kinds later kind is = is
either_chooses true shape.Bytes kinds later kind is = is

-- a table that gives the kinds that choose need not look through its rows
pub chooses_by : (rows : List Row) (kind : ℕ) → chooses rows kind ≡ has_type (choosers rows) (masked kind)
chooses_by [] kind = refl
chooses_by (row ∷ rows) kind =
    either_chooses (row.0 == 0) row.3 (choosers rows) (chooses rows kind) kind (chooses_by rows kind)

pub none_choose : (rows : List Row) (kind : ℕ) → choosers rows ≡ [] → false ≡ chooses rows kind
none_choose rows kind none =
    sym (chooses_by rows kind ∙ ap (λ (kinds : List ℕ). has_type kinds (masked kind)) none)
