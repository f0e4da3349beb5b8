-- What is read from a block of typed attributes can be written and read again.
use Rattle.std.specs.Prelude.{ℕ, ◌≡◌, Bool, true, false, List, [], ◌∷◌, Option, Some, None, All, refl, if◌then◌else◌}
use Rattle.std.specs.Option.{option_map}
use Rattle.std.proofs.Common.{ap, subst, sym, ◌∙◌}
use Rattle.netlink_packet_core.specs.Attribute.{Attribute, FitsAttribute}
use Rattle.netlink_packet_core.specs.Block.{canonical_block}
use Rattle.netlink_packet_core.specs.Nla.{attribute_with}
use Rattle.netlink_packet_core.specs.Reading.{attributes_in}
use Rattle.netlink_packet_core.specs.ReadingLaws.{attributes_in-fit, attributes_in-written}
use Rattle.netlink_shapes.specs.Blocks.{KeepsValues, KindReading, ValueReading, all_normalized, block_fits, block_reading, keep_fit, normalize, normalized, with_first}

-- ---- canonical attributes are read as themselves

-- attributes that reading does not change, and that fit
pub record AreNormalized (reading : ValueReading) (all : List Attribute) : Type 0 where
  pub again : all_normalized (reading all) all ≡ Some all
  pub fits : All FitsAttribute all
  pub whole : block_fits all ≡ true

-- they are read again from their encoding
pub block_again : (reading : ValueReading) (all : List Attribute) → AreNormalized reading all
    → block_reading reading (canonical_block all) ≡ Some all
block_again reading all are =
    let read = attributes_in-written all are.fits in
    let again = are.again in
    let whole = are.whole in
    ap (λ (x : Option (List Attribute)). keep_fit (normalize reading x)) read ∙ ap keep_fit again
    ∙ ap (λ (b : Bool). if b then Some all else None) whole

-- ---- what is read

some_is : (a b : List Attribute) → ◌≡◌ {A = Option (List Attribute)} (Some a) (Some b) → a ≡ b
some_is a b e = cc

-- reading does not change values
abbrev Keeps : KindReading → Type 0
Keeps reading = (kind : ℕ) (value text : List ℕ) → reading kind value ≡ Some text → value ≡ text

by_value : (a b : Attribute) (text : Option (List ℕ)) → ((found : List ℕ) → text ≡ Some found → a.value ≡ found)
    → option_map (attribute_with a.kind) text ≡ Some b → a ≡ b
by_value a b None keeps gives = absurd (cc)
by_value a b (Some text) keeps gives =
    let is : attribute_with a.kind text ≡ b = cc in ap (attribute_with a.kind) (keeps text refl) ∙ is

by_first : (a : Attribute) (more : List Attribute) (first : Option Attribute) (rest : Option (List Attribute))
    (found : List Attribute) → ((b : Attribute) → first ≡ Some b → a ≡ b)
    → ((later : List Attribute) → rest ≡ Some later → more ≡ later)
    → with_first first rest ≡ Some found → a ∷ more ≡ found
by_first a more None rest found one later gives = absurd (cc)
by_first a more (Some b) None found one later gives = absurd (cc)
by_first a more (Some b) (Some rest) found one later gives =
    ap (λ (x : Attribute). x ∷ more) (one b refl) ∙ ap (λ (x : List Attribute). b ∷ x) (later rest refl)
    ∙ some_is (b ∷ rest) found gives

all_kept : (reading : KindReading) (all found : List Attribute) → Keeps reading
    → all_normalized reading all ≡ Some found → all ≡ found
unfolding all_normalized
all_kept reading [] found keeps gives = some_is [] found gives
all_kept reading (a ∷ more) found keeps gives =
    by_first a more (normalized reading a) (all_normalized reading more) found
    (λ b e. by_value a b (reading a.kind a.value) (λ text is. keeps a.kind a.value text is) e)
    (λ rest e. all_kept reading more rest keeps e) gives

by_fit : (reading : ValueReading) (all found : List Attribute) (fits : Bool) → block_fits all ≡ fits
    → All FitsAttribute all → all_normalized (reading all) all ≡ Some all
    → (if fits then Some all else None) ≡ Some found → AreNormalized reading found
by_fit reading all found true fits each again gives =
    subst (AreNormalized reading) (some_is all found gives) (record { again = again; fits = each; whole = fits })
by_fit reading all found false fits each again gives = absurd (cc)

by_normalized : (reading : ValueReading) (all : List Attribute) (read : Option (List Attribute)) (found : List Attribute)
    → all_normalized (reading all) all ≡ read → ((x : List Attribute) → read ≡ Some x → all ≡ x)
    → All FitsAttribute all → keep_fit read ≡ Some found → AreNormalized reading found
by_normalized reading all None found is kept each gives = absurd (cc)
by_normalized reading all (Some x) found is kept each gives =
    let same : x ≡ all = sym (kept x refl) in
    by_fit reading all found (block_fits all) refl each (is ∙ ap Some same)
    (ap (λ (y : List Attribute). keep_fit (Some y)) (sym same) ∙ gives)

by_block : (reading : ValueReading) (all : Option (List Attribute)) (found : List Attribute)
    → KeepsValues reading → ((x : List Attribute) → all ≡ Some x → All FitsAttribute x)
    → keep_fit (normalize reading all) ≡ Some found → AreNormalized reading found
by_block reading None found keeps fit gives = absurd (cc)
by_block reading (Some all) found keeps fit gives =
    by_normalized reading all (all_normalized (reading all) all) found refl
    (λ x e. all_kept (reading all) all x (keeps all) e) (fit all refl) gives

-- what is read from bytes is written and read again
pub reading_normalized : (reading : ValueReading) (bytes : List ℕ) (found : List Attribute)
    → KeepsValues reading → block_reading reading bytes ≡ Some found → AreNormalized reading found
reading_normalized reading bytes found keeps gives =
    by_block reading (attributes_in bytes) found keeps (λ x e. attributes_in-fit bytes x e) gives
