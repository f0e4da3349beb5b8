-- The attributes of a block, and the first of a kind.
use Rattle.std.specs.Prelude.{ℕ, zero, suc, ◌≡◌, ◌==◌, Bool, true, false, List, [], ◌∷◌, length, drop, Option, Some, None, refl, if◌then◌else◌}
use Rattle.std.specs.Option.{option_map}
use Rattle.std.proofs.Common.{ap, ◌∙◌}
use Rattle.netlink_attributes.specs.Attribute.{Attribute, padded_size}
use Rattle.netlink_attributes.specs.Reading.{attributes_in, attributes_within, starts_whole}
use Rattle.netlink_attributes.specs.Views.{attribute_of, masked}

-- the attributes of bytes up to their end or to an error of the walk
unfoldable pub before_error : ℕ → List ℕ → List Attribute
before_error zero bytes = []
before_error (suc most) [] = []
before_error (suc most) (b ∷ more) =
    if starts_whole (b ∷ more) then attribute_of (b ∷ more)
    ∷ before_error most (drop (padded_size (attribute_of (b ∷ more))) (b ∷ more)) else []

abbrev pub listed : List ℕ → List Attribute
listed block = before_error (length block) block

-- the value of the first attribute of a kind, whatever its flag bits
abbrev pub first_of : ℕ → List Attribute → Option (List ℕ)
first_of kind [] = None
first_of kind (a ∷ more) = if masked a.kind == kind then Some a.value else first_of kind more

by_whole : (whole : Bool) (a : Attribute) (later : Option (List Attribute)) (rest all : List Attribute)
    → ((more : List Attribute) → later ≡ Some more → rest ≡ more)
    → (if whole then option_map (λ more. a ∷ more) later else None) ≡ Some all
    → (if whole then a ∷ rest else []) ≡ all
by_whole true a None rest all same gives = absurd (cc)
by_whole true a (Some more) rest all same gives =
    let is : a ∷ more ≡ all = cc in ap (λ (x : List Attribute). a ∷ x) (same more refl) ∙ is
by_whole false a later rest all same gives = absurd (cc)

within_listed : (most : ℕ) (bytes : List ℕ) (all : List Attribute) → attributes_within most bytes ≡ Some all
    → before_error most bytes ≡ all
unfolding attributes_within before_error
within_listed zero [] all gives = cc
within_listed zero (b ∷ more) all gives = absurd (cc)
within_listed (suc most) [] all gives = cc
within_listed (suc most) (b ∷ more) all gives =
    let bytes : List ℕ = b ∷ more in
    let rest : List ℕ = drop (padded_size (attribute_of bytes)) bytes in
    by_whole (starts_whole bytes) (attribute_of bytes) (attributes_within most rest) (before_error most rest) all
    (within_listed most rest) gives

-- if the walk has no error, they are all its attributes
pub listed_all : (block : List ℕ) (all : List Attribute) → attributes_in block ≡ Some all → listed block ≡ all
listed_all block all gives = within_listed (length block) block all gives
