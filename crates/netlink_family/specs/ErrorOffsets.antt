-- The offset of an error is inside the payload.
use Rattle.std.specs.Prelude.{ℕ, zero, suc, ◌≡◌, ◌+◌, ◌-◌, ◌<◌, ◌≤◌, Bool, true, false, List, [], ◌∷◌, length, drop, nat_le, Option, Some, None, refl, if◌then◌else◌}
use Rattle.std.specs.Option.{option_map}
use Rattle.std.proofs.Common.{arith, subst, length-drop}
use Rattle.std.proofs.lemmas.Bool.{and_parts, leb-true}
use Rattle.netlink_packet_core.specs.Attribute.{Attribute, padded_size}
use Rattle.netlink_packet_core.specs.FieldLaws.{length-value}
use Rattle.netlink_packet_core.specs.Reading.{attributes_in, starts_whole}
use Rattle.netlink_packet_core.specs.Views.{attribute_of, length_field, raw_kind}
use Rattle.netlink_shapes.specs.Blocks.{block_fits}
use Rattle.netlink_shapes.specs.Errors.{ValueError, block_error, first_error, message_error, too_long_error, value_error, payload_error}
use Rattle.netlink_shapes.specs.Shapes.{Row, Scope, by_nest, has_shape, nest_block, nest_levels, nest_of, nest_start, or_first, shape_among, within}
use Rattle.netlink_shapes.specs.Short.{is_short}
use Rattle.netlink_shapes.specs.declared.error.FamilyError.{FamilyError}
use Rattle.netlink_shapes.specs.declared.error.FamilyError.TheVariants.{InvalidAttribute, HeaderShort, TooLong}
use Rattle.netlink_shapes.specs.declared.attribute_error.AttributeError.{AttributeError}

-- the offset of the error, if there is one, is at least `from` and less than `end`
abbrev pub IsInside : ℕ → ℕ → Option AttributeError → Type 0
IsInside from end None = Unit {0}
IsInside from end (Some f) = (from ≤ f.offset) × (f.offset < end)

inside_wider : (from other end back : ℕ) (found : Option AttributeError) → other ≤ from → end ≤ back
    → IsInside from end found → IsInside other back found
inside_wider from other end back None low high is = tt
inside_wider from other end back (Some f) low high (p, q) = (omega arith, omega arith)

inside_first : (from end : ℕ) (first later : Option AttributeError) → IsInside from end first
    → IsInside from end later → IsInside from end (or_first first later)
inside_first from end None later p q = q
inside_first from end (Some f) later p q = p

inside_by : (whole : Bool) (from end : ℕ) (found malformed : Option AttributeError)
    → (whole ≡ true → IsInside from end found) → IsInside from end malformed
    → IsInside from end (if whole then found else malformed)
inside_by true from end found malformed p q = p refl
inside_by false from end found malformed p q = q

-- an attribute is at most as long as the bytes that contain it
whole_value : (bytes : List ℕ) → starts_whole bytes ≡ true → 4 + length (attribute_of bytes).value ≤ length bytes
whole_value bytes whole =
    let sizes = and_parts _ _ (and_parts _ _ whole).1 in
    let least = leb-true 4 (length_field bytes) sizes.0 in
    let most = leb-true (length_field bytes) (length bytes) (and_parts _ _ sizes.1).0 in
    let value = length-value bytes most in
    omega (arith, least, most, value)

first_inside : (values : ValueError) (policy end most : ℕ) (bytes : List ℕ)
    → ((at kind : ℕ) (value : List ℕ) → IsInside at (at + 4 + length value) (values at kind value))
    → length bytes ≤ end → IsInside (end - length bytes) end (first_error values policy end most bytes)
unfolding first_error
first_inside values policy end zero [] each fits = tt
first_inside values policy end zero (b ∷ more) each fits = (omega arith, omega arith)
first_inside values policy end (suc most) [] each fits = tt
first_inside values policy end (suc most) (b ∷ more) each fits =
    let bytes : List ℕ = b ∷ more in
    let a : Attribute = attribute_of bytes in
    let shorter = length-drop (padded_size a) bytes in
    inside_by (starts_whole bytes) (end - length bytes) end _ _ (λ whole. (let inside = whole_value bytes whole in
    inside_first (end - length bytes) end _ _ (inside_wider (end - length bytes) (end - length bytes)
    (end - length bytes + 4 + length a.value) end _ (omega arith) (omega arith)
    (each (end - length bytes) (raw_kind bytes) a.value))
    (inside_wider (end - length (drop (padded_size a) bytes)) (end - length bytes) end end _
    (omega arith) (omega arith)
    (first_inside values policy end most (drop (padded_size a) bytes) each (omega arith)))))
    (omega arith, omega arith)

by_nest_inside : (nest : Option ℕ) (from end : ℕ) (f : ℕ → Option AttributeError)
    → ((policy : ℕ) → IsInside from end (f policy)) → IsInside from end (by_nest nest f None)
by_nest_inside None from end f p = tt
by_nest_inside (Some policy) from end f p = p policy

flat_inside : (has : Bool) (from end : ℕ) (f : AttributeError) → IsInside from end (Some f)
    → IsInside from end (if has then None else Some f)
flat_inside true from end f is = tt
flat_inside false from end f is = is

value_inside : (levels : ℕ) (scope : Scope) (policy at kind : ℕ) (value : List ℕ)
    → IsInside at (at + 4 + length value) (value_error levels scope policy at kind value)
unfolding value_error
value_inside zero scope policy at kind value =
    inside_first at (at + 4 + length value) _ _
    (flat_inside (has_shape (shape_among scope policy kind) value) at (at + 4 + length value) _ (omega arith, omega arith))
    (by_nest_inside (nest_of (shape_among scope policy kind)) at (at + 4 + length value) _
    (λ inner. (omega arith, omega arith)))
value_inside (suc levels) scope policy at kind value =
    let block : List ℕ = nest_block (shape_among scope policy kind) value in
    let shorter = length-drop (nest_start (shape_among scope policy kind)) value in
    inside_first at (at + 4 + length value) _ _
    (flat_inside (has_shape (shape_among scope policy kind) value) at (at + 4 + length value) _ (omega arith, omega arith))
    (by_nest_inside (nest_of (shape_among scope policy kind)) at (at + 4 + length value) _
    (λ inner. inside_wider (at + 4 + length value - length block) at (at + 4 + length value)
    (at + 4 + length value) _ (omega arith) (omega arith)
    (first_inside (value_error levels (within scope.0 block) inner) inner (at + 4 + length value) (length block) block
    (λ place k v. value_inside levels (within scope.0 block) inner place k v) (omega arith))))

-- the offset of an error in the attributes is after the header and before the end of the payload
pub block_inside : (rows : List Row) (size : ℕ) (payload : List ℕ) (f : AttributeError) → size ≤ length payload
    → block_error rows (length payload) (drop size payload) ≡ Some f → (size ≤ f.offset) × (f.offset < length payload)
block_inside rows size payload f long is =
    let short = length-drop size payload in
    subst (IsInside size (length payload)) is
    (inside_wider (length payload - length (drop size payload)) size (length payload)
    (length payload) _ (omega arith) (omega arith)
    (first_inside (value_error nest_levels (within rows (drop size payload)) 0) 0 (length payload) (length (drop size payload))
    (drop size payload) (λ place k v. value_inside nest_levels (within rows (drop size payload)) 0 place k v) (omega arith)))

too_long_none : (fits : Bool) (f : AttributeError)
    → ◌≡◌ {A = Option FamilyError} (if fits then None else Some TooLong) (Some (InvalidAttribute f)) → ⊥
too_long_none true f is = cc
too_long_none false f is = cc

by_first : (found : Option AttributeError) (all : Option (List Attribute)) (f : AttributeError)
    → or_first (option_map InvalidAttribute found) (too_long_error all) ≡ Some (InvalidAttribute f) → found ≡ Some f
by_first (Some g) all f is = cc
by_first None None f is = absurd (cc)
by_first None (Some all) f is = absurd (too_long_none (block_fits all) f is)

inside_long : (long : Bool) (size : ℕ) (rows : List Row) (payload : List ℕ) (f : AttributeError)
    → nat_le size (length payload) ≡ long → (if long
    then or_first (option_map InvalidAttribute (block_error rows (length payload) (drop size payload)))
    (too_long_error (attributes_in (drop size payload)))
    else Some (HeaderShort size (length payload))) ≡ Some (InvalidAttribute f)
    → (size ≤ f.offset) × (f.offset < length payload)
inside_long true size rows payload f has is =
    block_inside rows size payload f (leb-true size (length payload) has)
    (by_first (block_error rows (length payload) (drop size payload)) (attributes_in (drop size payload)) f is)
inside_long false size rows payload f has is = absurd (cc)

inside_short : (short : Bool) (size : ℕ) (rows : List Row) (payload : List ℕ) (f : AttributeError)
    → (if short then None else payload_error size rows payload) ≡ Some (InvalidAttribute f)
    → (size ≤ f.offset) × (f.offset < length payload)
inside_short true size rows payload f is = absurd (cc)
inside_short false size rows payload f is =
    inside_long (nat_le size (length payload)) size rows payload f refl is

pub message_inside : (is allows : Bool) (size : ℕ) (rows : List Row) (t : ℕ) (payload : List ℕ) (f : AttributeError)
    → message_error is allows size rows t payload ≡ Some (InvalidAttribute f)
    → (size ≤ f.offset) × (f.offset < length payload)
message_inside true allows size rows t payload f has =
    inside_short (is_short allows size payload) size rows payload f has
message_inside false allows size rows t payload f has = absurd (cc)
