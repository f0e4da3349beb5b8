-- What a loop over a walk has passed.
use Rattle.std.proofs.Common.{◌≡◌, ◌≢◌, ℕ, List, [], ◌∷◌, ◌++◌, Option, Some, None}
use Rattle.netlink_bytes.specs.Walks.{Passed, passed_ends, passed_faults, passed_keeps, passed_next, passed_none, passed_push, passed_rest, passed_walks}
use Rattle.netlink_bytes.specs.Numbers.{IsBytes}
use Rattle.netlink_bytes.specs.declared.error.DecodeError.{DecodeError}
use Rattle.netlink_attributes.specs.Attribute.{Attribute}
use Rattle.netlink_attributes.specs.StartLaws.{starts_bytes}
use Rattle.netlink_attributes.specs.Walk.{Starts, Walk, IsFault}
use Rattle.netlink_attributes.specs.WalkLaws.{attribute_steps}

-- walking the bytes yields these attributes, and the rest is still to be walked
abbrev pub Passes : List ℕ → List Attribute → List ℕ → Type 0
Passes = Passed Starts

-- at the start none has been passed
pub passes_none : (bytes rest : List ℕ) → rest ≡ bytes → Passes bytes [] rest
passes_none = passed_none Starts

-- each turn passes one more
pub passes_push : (bytes : List ℕ) (done : List Attribute) (middle : List ℕ) (a : Attribute)
    (rest : List ℕ)
    → Passes bytes done middle → Starts middle a rest → Passes bytes (done ++ (a ∷ [])) rest
passes_push = passed_push Starts

-- a loop that reached the end has the whole walk, and so does one that reached an error
pub passes_ends : (bytes : List ℕ) (done : List Attribute) (rest : List ℕ) → Passes bytes done rest
    → rest ≡ [] → Walk bytes done None
passes_ends = passed_ends Starts IsFault

pub passes_faults : (bytes : List ℕ) (done : List Attribute) (rest : List ℕ) (fault : DecodeError)
    → Passes bytes done rest → rest ≢ [] → IsFault rest fault → Walk bytes done (Some fault)
passes_faults = passed_faults Starts IsFault

-- the walk of the bytes is these attributes and then the walk of the rest
pub passes_walks : (bytes : List ℕ) (done : List Attribute) (rest : List ℕ) (more : List Attribute)
    (fault : Option DecodeError)
    → Passes bytes done rest → Walk rest more fault → Walk bytes (done ++ more) fault
passes_walks = passed_walks Starts IsFault

-- and these attributes come first in any walk of the bytes
pub passes_rest : (bytes : List ℕ) (done : List Attribute) (rest : List ℕ) (all : List Attribute)
    (fault : Option DecodeError)
    → Passes bytes done rest → Walk bytes all fault
    → (more : List Attribute) × (all ≡ done ++ more) × Walk rest more fault
passes_rest = passed_rest attribute_steps

-- an attribute that the rest starts with comes next in the walk of the bytes
pub passes_walk : (bytes : List ℕ) (done : List Attribute) (middle : List ℕ) (a : Attribute)
    (rest : List ℕ) (all : List Attribute) (fault : Option DecodeError)
    → Passes bytes done middle → Starts middle a rest → Walk bytes all fault
    → (more : List Attribute) × (all ≡ done ++ (a ∷ more))
passes_walk = passed_next attribute_steps

-- the rest of a list of bytes is a list of bytes
pub passes_bytes : (bytes : List ℕ) (done : List Attribute) (rest : List ℕ) → Passes bytes done rest
    → IsBytes bytes → IsBytes rest
passes_bytes = passed_keeps Starts IsBytes starts_bytes
