-- Facts about a payload that is read in place.
use Rattle.std.proofs.Common.{◌≡◌, ◌≢◌, ℕ, ◌%◌, ◌+◌, ◌-◌, ◌≤◌, ◌<◌, ◌&&◌, Bool, true, false, List, [], ◌∷◌, ◌++◌, length, take, drop, subst, refl, sym, ap, ◌∙◌, inl, inr, arith, length-append, Option, Some, None}
use Rattle.std.specs.Option.{option_map}
use Rattle.std.specs.Prelude.{is_none, is_some, nat_le, nat_lt, not, if◌then◌else◌}
use Rattle.std.proofs.lemmas.Bool.{le-leb, leb-true, lt-leb, ltb-false, ltb-true}
use Rattle.std.proofs.lemmas.List.{drop_all, length-take-le}
use Rattle.netlink_packet_core.specs.Attribute.{Attribute}
use Rattle.netlink_packet_core.specs.AttributeSizes.{length-canonical_block}
use Rattle.netlink_packet_core.specs.Block.{IsCanonicalBlock, canonical_block}
use Rattle.netlink_packet_core.specs.BlockLaws.{canonical_walk}
use Rattle.netlink_packet_core.specs.DecodeError.{DecodeError}
use Rattle.netlink_packet_core.specs.Nla.{block_max}
use Rattle.netlink_packet_core.specs.Numbers.{IsBytes}
use Rattle.netlink_packet_core.specs.Reading.{attributes_in}
use Rattle.netlink_packet_core.specs.ReadingLaws.{attributes_in-walk, walk-attributes_in}
use Rattle.netlink_packet_core.specs.StartLaws.{starts-length}
use Rattle.netlink_packet_core.specs.Views.{attribute_of}
use Rattle.netlink_packet_core.specs.Walk.{IsFault, Starts, Walk}
use Rattle.netlink_shapes.specs.Blocks.{all_normalized, block_fits}
use Rattle.netlink_family.specs.PayloadReading.{payload_reading, short_reading}
use Rattle.netlink_shapes.specs.ErrorLaws.{block_shaped, error_malformed, error_nothing, error_step, none_of, value_shaped}
use Rattle.netlink_family.specs.PayloadErrorLaws.{short_complete}
use Rattle.netlink_shapes.specs.Errors.{block_error, payload_error, message_error, rest_error, too_long_error, value_error, short_error}
use Rattle.netlink_family.specs.Message.{is_canonical_payload}
use Rattle.netlink_family.specs.CanonicalPayloadLaws.{fits_by_size, payload_read, canonical_sent}
use Rattle.netlink_shapes.specs.Shapes.{Row, Scope, all_shaped, fits_kind, is_block_shaped, nest_levels, or_first, reading_by, within}
use Rattle.netlink_shapes.specs.Short.{is_cut, is_short, sent}
use Rattle.netlink_family.specs.ShortLaws.{other_error, short_parts}
use Rattle.netlink_shapes.specs.Fitting.{fits}
use Rattle.netlink_shapes.specs.declared.error.FamilyError.{FamilyError}
use Rattle.netlink_shapes.specs.declared.error.FamilyError.TheVariants.{InvalidAttribute, HeaderShort, TooLong}
use Rattle.netlink_shapes.specs.declared.attribute_error.AttributeError.{AttributeError}
use Rattle.netlink_shapes.specs.Checking.{none_is, shaped_normalized, shaped_nothing}

-- ---- the length of a block in canonical form

-- the smallest multiple of 4 that is at least the size
record IsAligned (size whole : ℕ) : Type 0 where
  pub least : size ≤ whole
  pub most : whole < size + 4
  pub multiple : whole % 4 ≡ 0

written_size : (block : List ℕ) (all : List Attribute) → Walk block all None
    → IsAligned (length block) (length (canonical_block all))
written_size block [] walk =
    let none : length block ≡ 0 = ap length walk in
    record { least = omega (arith, none); most = omega (arith, none); multiple = refl }
written_size block (a ∷ more) (rest, starts, walk) =
    let size = starts-length block a rest starts in
    let whole = length-canonical_block a more in
    let later = written_size rest more walk in
    let least = later.least in
    let most = later.most in
    let multiple = later.multiple in
    elim starts.gap_size [
      | inl full ↦ record { least = omega (arith, full); most = omega (arith, full); multiple = omega arith }
      | inr short ↦
          let less = short.0 in
          let none : length rest ≡ 0 = ap length short.1 in
          record { least = omega (arith, less, none); most = omega (arith, less, none); multiple = omega arith }
    ]

-- so the size of the block itself determines whether it fits in a message
by_size : (size whole : ℕ) (long : Bool) → IsAligned size whole → long ≡ nat_lt block_max size
    → nat_le whole block_max ≡ not long
by_size size whole true aligned is =
    let least = aligned.least in
    let big = ltb-true block_max size (sym is) in
    lt-leb whole block_max (omega arith)
by_size size whole false aligned is =
    let most = aligned.most in
    let multiple = aligned.multiple in
    let small = ltb-false block_max size (sym is) in
    le-leb whole block_max (omega arith)

pub fits_by_own : (block : List ℕ) (all : List Attribute) (long : Bool) → IsBytes block
    → long ≡ nat_lt block_max (length block) → attributes_in block ≡ Some all → block_fits all ≡ not long
fits_by_own block all long each is reads =
    let walk = walk-attributes_in block all each reads in
    fits_by_size block all walk ∙ by_size (length block) (length (canonical_block all)) long (written_size block all walk) is

-- ---- a payload whose attributes have no error

-- ---- the error of a payload

-- a block that does not fit in a message
by_long : (is : Attribute → Bool) (found : Option (List Attribute)) → all_shaped is found ≡ true
    → ((all : List Attribute) → found ≡ Some all → block_fits all ≡ false) → too_long_error found ≡ Some TooLong
by_long is None shaped long = absurd (cc)
by_long is (Some all) shaped long = ap (λ (b : Bool). if b then None else Some TooLong) (long all refl)

pub long_none : (rows : List Row) (end : ℕ) (block : List ℕ) → block_error rows end block ≡ None
    → ((all : List Attribute) → attributes_in block ≡ Some all → block_fits all ≡ false)
    → or_first (option_map InvalidAttribute (block_error rows end block)) (too_long_error (attributes_in block)) ≡ Some TooLong
long_none rows end block none long =
    ap (λ (o : Option AttributeError). or_first (option_map InvalidAttribute o) (too_long_error (attributes_in block))) none
    ∙ by_long (fits (within rows block)) (attributes_in block)
    (sym (block_shaped rows end block) ∙ ap (λ (o : Option AttributeError). is_none o) none) long

-- facts about a payload without an error
pub good_own : (is allows : Bool) (size : ℕ) (rows : List Row) (t : ℕ) (payload : List ℕ)
    → message_error is allows size rows t payload ≡ None → is ≡ true
good_own true allows size rows t payload good = refl
good_own false allows size rows t payload good = absurd (cc)

by_reach : (reaches : Bool) (found short : Option FamilyError) → is_none short ≡ false
    → (if reaches then found else short) ≡ None → (reaches ≡ true) × (found ≡ None)
by_reach true found short some good = (refl, good)
by_reach false found short some good = absurd (cc)

-- which is not short
good_parts : (is allows : Bool) (size : ℕ) (rows : List Row) (t : ℕ) (payload : List ℕ)
    → message_error is allows size rows t payload ≡ None → is_short allows size payload ≡ false
    → (nat_le size (length payload) ≡ true)
    × (or_first (option_map InvalidAttribute (block_error rows (length payload) (drop size payload)))
    (too_long_error (attributes_in (drop size payload))) ≡ None)
good_parts true allows size rows t payload good whole =
    by_reach (nat_le size (length payload)) _ (Some (HeaderShort size (length payload))) refl
    (sym (other_error allows size rows payload whole) ∙ good)
good_parts false allows size rows t payload good whole = absurd (cc)

pub good_long : (is allows : Bool) (size : ℕ) (rows : List Row) (t : ℕ) (payload : List ℕ)
    → message_error is allows size rows t payload ≡ None → is_short allows size payload ≡ false → size ≤ length payload
good_long is allows size rows t payload good whole =
    leb-true size (length payload) (good_parts is allows size rows t payload good whole).0

by_first : (found : Option AttributeError) (later : Option FamilyError) → or_first (option_map InvalidAttribute found) later ≡ None → found ≡ None
by_first None later none = refl
by_first (Some f) later none = absurd (cc)

good_block : (is allows : Bool) (size : ℕ) (rows : List Row) (t : ℕ) (payload : List ℕ)
    → message_error is allows size rows t payload ≡ None → is_short allows size payload ≡ false
    → block_error rows (length payload) (drop size payload) ≡ None
good_block is allows size rows t payload good whole =
    by_first (block_error rows (length payload) (drop size payload)) _
    (good_parts is allows size rows t payload good whole).1

by_short : (short is allows : Bool) (size : ℕ) (rows : List Row) (t : ℕ) (payload : List ℕ)
    → message_error is allows size rows t payload ≡ None → is_short allows size payload ≡ short
    → is_block_shaped nest_levels rows 0 (drop size payload) ≡ true
by_short true is allows size rows t payload good short =
    let less = (short_parts allows size payload short).less in
    shaped_nothing (within rows (drop size payload)) (drop size payload) (drop_all size payload (omega (arith, less)))
by_short false is allows size rows t payload good short =
    sym (block_shaped rows (length payload) (drop size payload))
    ∙ ap (λ (o : Option AttributeError). is_none o) (good_block is allows size rows t payload good short)

-- its attributes; a short payload has none
pub good_shaped : (is allows : Bool) (size : ℕ) (rows names : List Row) (t : ℕ) (payload block : List ℕ)
    → block ≡ drop size payload → names ≡ rows → message_error is allows size rows t payload ≡ None
    → is_block_shaped nest_levels names 0 block ≡ true
good_shaped is allows size rows names t payload block after same good =
    ap (λ (r : List Row). is_block_shaped nest_levels r 0 block) same ∙ ap (is_block_shaped nest_levels rows 0) after
    ∙ by_short (is_short allows size payload) is allows size rows t payload good refl

-- ---- a payload without an error is read as its attributes in canonical form

-- the walk has no error, every attribute has its shape, and in canonical form they fit
record AreRead (rows : List Row) (all : List Attribute) (malformed : Option DecodeError) : Type 0 where
  pub whole : malformed ≡ None
  pub normalized : all_normalized (reading_by rows all) all ≡ Some all
  pub fits : block_fits all ≡ true

by_room : (fit : Bool) → (if fit then None else Some TooLong) ≡ None → fit ≡ true
by_room true none = refl
by_room false none = absurd (cc)

by_over : (all : List Attribute) (found : Option FamilyError) → or_first found (too_long_error (Some all)) ≡ None → block_fits all ≡ true
by_over all (Some e) none = absurd (cc)
by_over all None none = by_room (block_fits all) none

are_read : (rows : List Row) (block : List ℕ) (all : List Attribute) (malformed : Option DecodeError) (found : Option FamilyError)
    → Walk block all malformed → is_block_shaped nest_levels rows 0 block ≡ true
    → or_first found (too_long_error (attributes_in block)) ≡ None → AreRead rows all malformed
are_read rows block all malformed found walk shaped none =
    let read = shaped_normalized rows block all malformed walk shaped in
    let whole : Walk block all None = subst (λ (d : Option DecodeError). Walk block all d) read.0 walk in
    record {
      whole = read.0;
      normalized = read.1;
      fits = by_over all found (ap (λ (o : Option (List Attribute)). or_first found (too_long_error o)) (sym (attributes_in-walk block all whole)) ∙ none);
    }

pub good_read : (is allows : Bool) (size : ℕ) (rows : List Row) (t : ℕ) (payload block head start out : List ℕ)
    (all : List Attribute) (malformed : Option DecodeError) → message_error is allows size rows t payload ≡ None
    → is_short allows size payload ≡ false → block ≡ drop size payload
    → head ≡ take size payload → start ≡ head → Walk block all malformed → out ≡ start ++ canonical_block all
    → (u : ℕ) → payload_reading size (reading_by rows) u payload ≡ Some (u, out)
good_read is allows size rows t payload block head start out all malformed good other after front begun walk writes u =
    let long = good_long is allows size rows t payload good other in
    let parts = (good_parts is allows size rows t payload good other).1 in
    let here : Walk (drop size payload) all malformed = subst (λ (b : List ℕ). Walk b all malformed) after walk in
    let shaped : is_block_shaped nest_levels rows 0 (drop size payload) ≡ true =
    sym (block_shaped rows (length payload) (drop size payload))
    ∙ ap (λ (o : Option AttributeError). is_none o) (good_block is allows size rows t payload good other) in
    let read = are_read rows (drop size payload) all malformed _ here shaped parts in
    let whole : Walk (drop size payload) all None = subst (λ (d : Option DecodeError). Walk (drop size payload) all d) read.whole here in
    let room = leb-true _ _ (sym (fits_by_size (drop size payload) all whole) ∙ read.fits) in
    let text : out ≡ take size payload ++ canonical_block all = writes ∙ ap (λ (x : List ℕ). x ++ canonical_block all) (begun ∙ front) in
    let total = ap length text ∙ length-append (take size payload) (canonical_block all) in
    let taken = length-take-le size payload long in
    payload_read size (reading_by rows) payload out all long whole read.normalized text (omega (arith, total, taken, room)) u

-- a canonical block is copied as a whole
pub copied_whole : (block old new : List ℕ) → IsCanonicalBlock block → new ≡ old ++ block
    → (all : List Attribute) × (error : Option DecodeError) × Walk block all error × (new ≡ old ++ canonical_block all)
copied_whole block old new canonical writes =
    let walk = canonical_walk block canonical in
    (walk.0, None, walk.1, writes ∙ ap (λ (x : List ℕ). old ++ x) (sym walk.2))

-- a short payload has no error, and no attributes
pub short_good : (is allows : Bool) (size : ℕ) (rows : List Row) (t : ℕ) (payload block rest : List ℕ) → is ≡ true
    → is_short allows size payload ≡ true → rest ≡ []
    → message_error is allows size rows t payload ≡ option_map InvalidAttribute (rest_error (within rows block) (length payload) rest)
short_good true allows size rows t payload block rest own short none =
    ap (λ (b : Bool). if b then None else payload_error size rows payload) short
    ∙ ap (option_map InvalidAttribute)
    (sym (error_nothing (value_error nest_levels (within rows block) 0) 0 (length payload) rest none))
short_good false allows size rows t payload block rest own short none = absurd (cc)

-- ---- a canonical payload has no error

some_none : {A E : Type 0} (error : Option E) (found : Option A) (x : A) → is_none error ≡ is_some found → found ≡ Some x → error ≡ None
some_none None found x same is = refl
some_none (Some e) None x same is = absurd (cc)
some_none (Some e) (Some y) x same is = absurd (cc)

pub canonical_good : (is allows : Bool) (size : ℕ) (rows : List Row) (t n : ℕ) (bytes : List ℕ) → is ≡ true
    → is_canonical_payload size rows bytes ≡ true → is_cut allows size n bytes ≡ true
    → message_error is allows size rows t (sent n bytes) ≡ None
canonical_good true allows size rows t n bytes own canonical cut =
    some_none (short_error allows size rows (sent n bytes)) (short_reading allows size (reading_by rows) t (sent n bytes))
    (t, sent n bytes) (short_complete allows size rows t (sent n bytes)) (canonical_sent allows size rows n bytes canonical cut t)
canonical_good false allows size rows t n bytes own canonical cut = absurd (cc)

-- ---- the next attribute, whose kind and value were read

next_none : (scope : Scope) (end : ℕ) (bytes : List ℕ) (kind : ℕ) (value : List ℕ) (is : Bool)
    → kind ≡ (attribute_of bytes).kind → value ≡ (attribute_of bytes).value → is ≡ fits_kind scope kind value
    → is_none (value_error nest_levels scope 0 (end - length bytes) (attribute_of bytes).kind (attribute_of bytes).value) ≡ is
next_none scope end bytes kind value is same value_is tested =
    let a : Attribute = attribute_of bytes in
    value_shaped nest_levels scope 0 (end - length bytes) a.kind a.value
    ∙ ap (λ (k : ℕ). fits_kind scope k a.value) (sym same) ∙ ap (fits_kind scope kind) (sym value_is) ∙ sym tested

-- if it has the shape of its kind, the error of the rest is that of the whole
pub fit_next : (scope : Scope) (end : ℕ) (bytes rest : List ℕ) (kind : ℕ) (value : List ℕ) (is : Bool)
    → Starts bytes (attribute_of bytes) rest → kind ≡ (attribute_of bytes).kind → value ≡ (attribute_of bytes).value
    → is ≡ fits_kind scope kind value → is ≡ true → rest_error scope end bytes ≡ rest_error scope end rest
fit_next scope end bytes rest kind value is starts same value_is tested fit =
    let a : Attribute = attribute_of bytes in
    error_step (value_error nest_levels scope 0) 0 end bytes a rest starts
    ∙ ap (λ (o : Option AttributeError). or_first o (rest_error scope end rest))
    (none_is _ (next_none scope end bytes kind value is same value_is tested ∙ fit))

-- otherwise there is an error
pub other_next : (scope : Scope) (end : ℕ) (bytes rest : List ℕ) (kind : ℕ) (value : List ℕ) (is : Bool)
    → Starts bytes (attribute_of bytes) rest → kind ≡ (attribute_of bytes).kind → value ≡ (attribute_of bytes).value
    → is ≡ fits_kind scope kind value → is ≡ false → is_none (rest_error scope end bytes) ≡ false
other_next scope end bytes rest kind value is starts same value_is tested other =
    let a : Attribute = attribute_of bytes in
    ap (λ (o : Option AttributeError). is_none o) (error_step (value_error nest_levels scope 0) 0 end bytes a rest starts)
    ∙ none_of (value_error nest_levels scope 0 (end - length bytes) a.kind a.value) (rest_error scope end rest)
    ∙ ap (λ (b : Bool). b && is_none (rest_error scope end rest))
    (next_none scope end bytes kind value is same value_is tested ∙ other)

-- the walk ends with an error
pub malformed_next : (scope : Scope) (end : ℕ) (bytes : List ℕ) (e : DecodeError) → bytes ≢ [] → IsFault bytes e
    → is_none (rest_error scope end bytes) ≡ false
malformed_next scope end bytes e some is =
    ap (λ (o : Option AttributeError). is_none o) (error_malformed (value_error nest_levels scope 0) 0 end bytes e some is)

-- a block with an error does not have its shapes
pub error_shaped : (names rows : List Row) (end : ℕ) (block : List ℕ) (found : Option AttributeError) → names ≡ rows
    → (is_none found ≡ false → block_error rows end block ≡ found) → is_none found ≡ false
    → is_block_shaped nest_levels names 0 block ≡ false
error_shaped names rows end block found table passed some =
    ap (λ (r : List Row). is_block_shaped nest_levels r 0 block) table ∙ sym (block_shaped rows end block)
    ∙ ap (λ (o : Option AttributeError). is_none o) (passed some) ∙ some

-- at the end there is no error left
pub none_left : (scope : Scope) (end : ℕ) (rest : List ℕ) → rest ≡ [] → is_none (rest_error scope end rest) ≡ false → ⊥
none_left scope end rest none some =
    let is = sym (ap (λ (o : Option AttributeError). is_none o) (error_nothing (value_error nest_levels scope 0) 0 end rest none)) ∙ some in
    absurd (cc)

-- an error of the rest is that of the whole, also after an attribute without an error
pub passed_next : (rows : List Row) (end : ℕ) (block : List ℕ) (before after : Option AttributeError)
    → before ≡ after → (is_none before ≡ false → block_error rows end block ≡ before)
    → is_none after ≡ false → block_error rows end block ≡ after
passed_next rows end block before after same passed some =
    passed (ap (λ (o : Option AttributeError). is_none o) same ∙ some) ∙ same
