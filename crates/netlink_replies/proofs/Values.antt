-- Searching the walk of a block.
use Rattle.std.proofs.Common.{◌≡◌, ◌≢◌, ℕ, Bool, true, false, List, [], ◌∷◌, refl, ap, sym, subst, ◌∙◌, Option, Some, None}
use Rattle.std.proofs.lemmas.Bool.{eq-eqb, ne_eqb}
use Rattle.std.specs.Prelude.{nat_eq, if◌then◌else◌}
use Rattle.netlink_packet_core.specs.Attribute.{Attribute}
use Rattle.netlink_packet_core.specs.DecodeError.{DecodeError}
use Rattle.netlink_packet_core.specs.StartLaws.{nothing_starts, starts-fault}
use Rattle.netlink_packet_core.specs.Views.{masked}
use Rattle.netlink_packet_core.specs.Walk.{IsFault, Starts, Walk}
use Rattle.netlink_packet_core.specs.WalkLaws.{starts_once, walk_once}
use Rattle.netlink_replies.specs.AckValues.{FirstValue, first_value}

-- a walk of bytes that start with an attribute is the attribute and then a walk of the rest
pub walk_after : (bytes : List ℕ) (a : Attribute) (rest : List ℕ) (all : List Attribute)
    (fault : Option DecodeError) → Starts bytes a rest → Walk bytes all fault
    → (more : List Attribute) × (all ≡ a ∷ more) × Walk rest more fault
walk_after bytes a rest [] None starts walk = absurd (nothing_starts bytes a rest walk starts)
walk_after bytes a rest [] (Some fault) starts walk =
    absurd (starts-fault bytes a rest fault starts walk.1)
walk_after bytes a rest (first ∷ more) fault starts (next, begins, walk) =
    let same = starts_once bytes first a next rest begins starts in (
      more,
      ap (λ (b : Attribute). b ∷ more) same.0,
      subst (λ (b : List ℕ). Walk b more fault) same.1 walk,
    )

-- the first value of a kind is in the rest
pub record Searches (kind : ℕ) (bytes rest : List ℕ) : Type 0 where
  pub later : (all : List Attribute) (fault : Option DecodeError) → Walk bytes all fault
      → (more : List Attribute) × Walk rest more fault × (first_value kind all ≡ first_value kind more)

pub searches_all : (kind : ℕ) (bytes rest : List ℕ) → rest ≡ bytes → Searches kind bytes rest
searches_all kind bytes rest same =
    record { later = λ all fault walk. (all, subst (λ (b : List ℕ). Walk b all fault) (sym same) walk, refl) }

first_of_two : (kind : ℕ) (a : Attribute) (more : List Attribute) (b : Bool)
    → nat_eq (masked a.kind) kind ≡ b
    → first_value kind (a ∷ more) ≡ (if b then Some a.value else first_value kind more)
first_of_two kind a more b is =
    ap (λ (t : Bool). if t then Some a.value else first_value kind more) is

pub searches_on : (kind : ℕ) (bytes middle : List ℕ) (a : Attribute) (rest : List ℕ)
    → Searches kind bytes middle → Starts middle a rest → masked a.kind ≢ kind
    → Searches kind bytes rest
searches_on kind bytes middle a rest searches starts unlike =
    record {
      later =
          λ all fault walk.
          let left = searches.later all fault walk in
          let split = walk_after middle a rest left.0 fault starts left.1 in (
            split.0,
            split.2,
            left.2 ∙ ap (first_value kind) split.1
                ∙ first_of_two kind a split.0 false (ne_eqb (masked a.kind) kind unlike),
          );
    }

pub searches_found : (kind : ℕ) (bytes middle : List ℕ) (a : Attribute) (rest : List ℕ) (value : List ℕ)
    → Searches kind bytes middle → Starts middle a rest → masked a.kind ≡ kind → value ≡ a.value
    → FirstValue kind bytes (λ found. Some value ≡ found)
searches_found kind bytes middle a rest value searches starts alike is =
    λ all fault walk.
    let left = searches.later all fault walk in
    let split = walk_after middle a rest left.0 fault starts left.1 in
    ap Some is
    ∙ sym (left.2 ∙ ap (first_value kind) split.1
    ∙ first_of_two kind a split.0 true (eq-eqb (masked a.kind) kind alike))

pub searches_end : (kind : ℕ) (bytes rest : List ℕ) → Searches kind bytes rest → rest ≡ []
    → FirstValue kind bytes (λ found. None ≡ found)
searches_end kind bytes rest searches none =
    λ all fault walk.
    let left = searches.later all fault walk in
    let same = walk_once rest left.0 [] fault None left.1 none in
    sym (left.2 ∙ ap (first_value kind) same.0)

pub searches_fault : (kind : ℕ) (bytes rest : List ℕ) (error : DecodeError) → Searches kind bytes rest
    → rest ≢ [] → IsFault rest error → FirstValue kind bytes (λ found. None ≡ found)
searches_fault kind bytes rest error searches some is =
    λ all fault walk.
    let left = searches.later all fault walk in
    let same = walk_once rest left.0 [] fault (Some error) left.1 (some, is) in
    sym (left.2 ∙ ap (first_value kind) same.0)
