-- A payload has an error if and only if it is not read.
use Rattle.std.specs.Prelude.{ℕ, ◌≡◌, Bool, true, false, List, [], ◌∷◌, length, drop, take, nat_le, is_none, is_some, Option, Some, None, refl, if◌then◌else◌}
use Rattle.std.specs.List.{list_all}
use Rattle.std.specs.Option.{option_map}
use Rattle.std.proofs.Common.{ap, sym, ◌∙◌}
use Rattle.netlink_packet_core.specs.Attribute.{Attribute}
use Rattle.netlink_packet_core.specs.Reading.{attributes_in}
use Rattle.netlink_shapes.specs.Blocks.{block_fits, block_reading, keep_fit, normalize}
use Rattle.netlink_shapes.specs.ErrorLaws.{block_shaped, normalized_by_rows}
use Rattle.netlink_shapes.specs.Errors.{block_error, message_error, payload_error, short_error, too_long_error}
use Rattle.netlink_shapes.specs.Listing.{listed_all}
use Rattle.netlink_shapes.specs.Shapes.{Row, Scope, all_shaped, fits_kind, or_first, reading_by, reading_in, within}
use Rattle.netlink_shapes.specs.Short.{is_short}
use Rattle.netlink_shapes.specs.declared.attribute_error.AttributeError.{AttributeError}
use Rattle.netlink_shapes.specs.declared.error.FamilyError.{FamilyError}
use Rattle.netlink_shapes.specs.declared.error.FamilyError.TheVariants.{InvalidAttribute, TooLong}
use Rattle.netlink_family.specs.PayloadReading.{after_header, payload_reading, short_reading}

abbrev fits : Scope → Attribute → Bool
fits scope a = fits_kind scope a.kind a.value

by_fit : (t : ℕ) (head : List ℕ) (all : List Attribute) (b : Bool) → is_none (if b then None else Some TooLong)
    ≡ is_some (after_header t head (if b then Some all else None))
by_fit t head all true = refl
by_fit t head all false = refl

by_list : (scope : Scope) (t : ℕ) (head : List ℕ) (all : List Attribute) (is : Bool)
    (error : Option FamilyError) → list_all (fits scope) all ≡ is → is_none error ≡ is
    → is_none (or_first error (too_long_error (Some all)))
    ≡ is_some (after_header t head (keep_fit (if is then Some all else None)))
by_list scope t head all true None good none = by_fit t head all (block_fits all)
by_list scope t head all true (Some e) good none = absurd (cc)
by_list scope t head all false None good none = absurd (cc)
by_list scope t head all false (Some e) good none = refl

by_attributes : (rows : List Row) (t : ℕ) (head block : List ℕ) (all : Option (List Attribute))
    (error : Option FamilyError) → attributes_in block ≡ all → is_none error ≡ all_shaped (fits (within rows block)) all
    → is_none (or_first error (too_long_error all))
    ≡ is_some (after_header t head (keep_fit (normalize (reading_by rows) all)))
by_attributes rows t head block None None reads is = absurd (cc)
by_attributes rows t head block None (Some e) reads is = refl
by_attributes rows t head block (Some all) error reads is =
    let scope : Scope = (rows, all) in
    let same = listed_all block all reads in
    by_list scope t head all (list_all (fits scope) all) error refl
    (is ∙ ap (λ (x : List Attribute). list_all (fits (rows, x)) all) same)
    ∙ ap (λ (x : Option (List Attribute)). is_some (after_header t head (keep_fit x)))
    (sym (normalized_by_rows scope all))

none_map : (error : Option AttributeError) → is_none (option_map InvalidAttribute error) ≡ is_none error
none_map None = refl
none_map (Some error) = refl

by_long : (long : Bool) (size : ℕ) (rows : List Row) (t : ℕ) (payload : List ℕ) (short : FamilyError)
    → is_none (if long
    then or_first (option_map InvalidAttribute (block_error rows (length payload) (drop size payload)))
    (too_long_error (attributes_in (drop size payload))) else Some short) ≡ is_some (if long
    then after_header t (take size payload) (block_reading (reading_by rows) (drop size payload)) else None)
by_long true size rows t payload short =
    by_attributes rows t (take size payload) (drop size payload) (attributes_in (drop size payload))
    (option_map InvalidAttribute (block_error rows (length payload) (drop size payload)))
    refl (none_map (block_error rows (length payload) (drop size payload))
    ∙ block_shaped rows (length payload) (drop size payload))
by_long false size rows t payload short = refl

-- a payload is read if and only if it has no error
pub payload_complete : (size : ℕ) (rows : List Row) (t : ℕ) (payload : List ℕ)
    → is_none (payload_error size rows payload) ≡ is_some (payload_reading size (reading_by rows) t payload)
payload_complete size rows t payload =
    by_long (nat_le size (length payload)) size rows t payload _

by_short : (short : Bool) (size : ℕ) (rows : List Row) (t : ℕ) (payload : List ℕ)
    → is_none (if short then None else payload_error size rows payload)
    ≡ is_some (if short then Some (t, payload) else payload_reading size (reading_by rows) t payload)
by_short true size rows t payload = refl
by_short false size rows t payload = payload_complete size rows t payload

-- the same for a message type that may allow a short payload
pub short_complete : (allows : Bool) (size : ℕ) (rows : List Row) (t : ℕ) (payload : List ℕ)
    → is_none (short_error allows size rows payload) ≡ is_some (short_reading allows size (reading_by rows) t payload)
short_complete allows size rows t payload = by_short (is_short allows size payload) size rows t payload

pub message_complete : (is allows : Bool) (size : ℕ) (rows : List Row) (t : ℕ) (payload : List ℕ)
    → is_none (message_error is allows size rows t payload)
    ≡ is_some (if is then short_reading allows size (reading_by rows) t payload else None)
message_complete true allows size rows t payload = short_complete allows size rows t payload
message_complete false allows size rows t payload = refl

none_read : {A E : Type 0} (error : Option E) (found : Option A) (e : E)
    → is_none error ≡ is_some found → error ≡ Some e → found ≡ None
none_read error None e same is = refl
none_read error (Some a) e same is = absurd (cc)

-- so a payload with an error is not read
pub payload_rejected : (allows : Bool) (size : ℕ) (rows : List Row) (t : ℕ) (payload : List ℕ) (e : FamilyError)
    → short_error allows size rows payload ≡ Some e → short_reading allows size (reading_by rows) t payload ≡ None
payload_rejected allows size rows t payload e is =
    none_read _ _ e (short_complete allows size rows t payload) is
