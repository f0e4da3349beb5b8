-- The path to an offset.
use Rattle.std.proofs.Common.{◌≡◌, ◌≢◌, ℕ, ◌+◌, ◌-◌, ◌≤◌, ◌<◌, ◌%◌, Bool, true, false, List, [], ◌∷◌, length, refl, ap, sym, subst, ◌∙◌, arith, Option, Some, None}
use Rattle.std.proofs.lemmas.Bool.{le-ltb, lt-ltb}
use Rattle.std.specs.Iterator.{YieldsThen}
use Rattle.std.specs.Prelude.{is_some, nat_lt, if◌then◌else◌, option_and_then}
use Rattle.netlink_packet_core.specs.Attribute.{Attribute, padded_size, padding}
use Rattle.netlink_packet_core.specs.DecodeError.{DecodeError}
use Rattle.netlink_packet_core.specs.ReadingLaws.{attributes_in-fault, attributes_in-walk}
use Rattle.netlink_packet_core.specs.Walk.{IsFault, Starts, Walk}
use Rattle.netlink_packet_core.specs.WalkLaws.{walk_once}
use Rattle.netlink_replies.specs.Paths.{IsPath, attribute_at, bytes_inside, containing}
use Rattle.netlink_replies.specs.PathSteps.{GivesPath, block_of, offset_of, path_steps}
use Rattle.netlink_replies.specs.declared.path.Path.{Path}
use Rattle.netlink_replies.proofs.Values.{walk_after}

-- calls of `next` yield the path
yields_path : (path : Path) (kinds : List ℕ) (end : Path) → YieldsThen path_steps path kinds None end
    → IsPath (block_of path) (offset_of path) kinds
yields_path path [] end (last, same, ended) =
    ap (λ (p : Path). attribute_at (block_of p) (offset_of p)) same ∙ ended.0
yields_path path (kind ∷ kinds) end (last, (next, step, yields), ended) =
    let later = yields_path next kinds end (last, yields, ended) in (
      step.0,
      step.1,
      step.2,
      subst (λ (at : ℕ). IsPath (bytes_inside step.0) at kinds) step.4
          (subst (λ (b : List ℕ). IsPath b (offset_of next) kinds) step.3 later),
    )

pub gives_path : (path : Path) → GivesPath path
gives_path path = yields_path path

-- ---- finding the attribute

-- a size that is aligned is the size with padding
pub aligned_size : (n size end : ℕ) → size ≡ 4 + n → end % 4 ≡ 0 → size ≤ end → end < size + 4
    → end ≡ 4 + n + padding n
aligned_size n size end is multiple least most = omega arith

-- the attribute that contains the offset is in the rest, at another offset
pub record Seeks (offset : ℕ) (bytes : List ℕ) (left : ℕ) (rest : List ℕ) : Type 0 where
  pub later : (all : List Attribute) → Walk bytes all None
      → (more : List Attribute) × Walk rest more None × (containing offset all ≡ containing left more)
  pub shorter : length rest ≤ length bytes

pub seeks_all : (offset : ℕ) (bytes rest : List ℕ) → rest ≡ bytes → Seeks offset bytes offset rest
seeks_all offset bytes rest same = record {
  later = λ all walk. (all, subst (λ (b : List ℕ). Walk b all None) (sym same) walk, refl);
  shorter = let sizes = ap length same in omega arith;
}

-- `containing` of a list, by its two tests of the first attribute
abbrev pick : Bool → Bool → ℕ → Attribute → List Attribute → Option (Attribute × ℕ)
pick inside short left a more =
    if inside then Some (a, left) else if short then None else containing (left - padded_size a) more

containing_first : (left : ℕ) (a : Attribute) (more : List Attribute) (b c : Bool)
    → nat_lt left (4 + length a.value) ≡ b → nat_lt left (padded_size a) ≡ c
    → containing left (a ∷ more) ≡ pick b c left a more
containing_first left a more b c is also =
    ap (λ (t : Bool). pick t (nat_lt left (padded_size a)) left a more) is
    ∙ ap (λ (t : Bool). pick b t left a more) also

found_first : (left : ℕ) (a : Attribute) (more : List Attribute) → left < 4 + length a.value
    → containing left (a ∷ more) ≡ Some (a, left)
found_first left a more inside =
    containing_first left a more true (nat_lt left (padded_size a))
    (lt-ltb left (4 + length a.value) inside) refl

gap_first : (left : ℕ) (a : Attribute) (more : List Attribute) → 4 + length a.value ≤ left
    → left < padded_size a → containing left (a ∷ more) ≡ None
gap_first left a more after inside =
    containing_first left a more false true (le-ltb left (4 + length a.value) after)
    (lt-ltb left (padded_size a) inside)

past_first : (left : ℕ) (a : Attribute) (more : List Attribute) → 4 + length a.value ≤ left
    → padded_size a ≤ left → containing left (a ∷ more) ≡ containing (left - padded_size a) more
past_first left a more after past =
    containing_first left a more false false (le-ltb left (4 + length a.value) after)
    (le-ltb left (padded_size a) past)

at_walk : (bytes : List ℕ) (offset : ℕ) (all : List Attribute) → Walk bytes all None
    → attribute_at bytes offset ≡ containing offset all
at_walk bytes offset all walk =
    ap (option_and_then (containing offset)) (attributes_in-walk bytes all walk)

none_at_fault : (bytes : List ℕ) (offset : ℕ) (all : List Attribute) (fault : DecodeError)
    → Walk bytes all (Some fault) → attribute_at bytes offset ≡ None
none_at_fault bytes offset all fault walk =
    ap (option_and_then (containing offset)) (attributes_in-fault bytes all fault walk)

pub none_if_fault : (bytes : List ℕ) (offset : ℕ) (fault : Option DecodeError)
    → ((all : List Attribute) × Walk bytes all fault) → is_some fault ≡ true
    → attribute_at bytes offset ≡ None
none_if_fault bytes offset None walk some = absurd (cc)
none_if_fault bytes offset (Some fault) walk some = none_at_fault bytes offset walk.0 fault walk.1

pub whole_if_none : (bytes : List ℕ) (fault : Option DecodeError)
    → ((all : List Attribute) × Walk bytes all fault) → is_some fault ≡ false
    → (all : List Attribute) × Walk bytes all None
whole_if_none bytes None walk none = walk
whole_if_none bytes (Some fault) walk none = absurd (cc)

pub seeks_on : (offset : ℕ) (bytes : List ℕ) (left : ℕ) (middle : List ℕ) (a : Attribute) (rest : List ℕ)
    (next : ℕ) → Seeks offset bytes left middle → Starts middle a rest → 4 + length a.value ≤ left
    → padded_size a ≤ left → next ≡ left - padded_size a → length rest ≤ length middle
    → Seeks offset bytes next rest
seeks_on offset bytes left middle a rest next seeks starts after past is less =
    let short = seeks.shorter in
    record {
      later =
          λ all walk.
          let found = seeks.later all walk in
          let split = walk_after middle a rest found.0 None starts found.1 in (
            split.0,
            split.2,
            found.2 ∙ ap (containing left) split.1 ∙ past_first left a split.0 after past
                ∙ sym (ap (λ (at : ℕ). containing at split.0) is),
          );
      shorter = omega arith;
    }

-- with a walk of the whole
pub seeks_found : (offset : ℕ) (bytes : List ℕ) (left : ℕ) (middle : List ℕ) (a : Attribute) (rest : List ℕ)
    (all : List Attribute) → Walk bytes all None → Seeks offset bytes left middle
    → Starts middle a rest → left < 4 + length a.value
    → attribute_at bytes offset ≡ Some (a, left)
seeks_found offset bytes left middle a rest all walk seeks starts inside =
    let found = seeks.later all walk in
    let split = walk_after middle a rest found.0 None starts found.1 in
    at_walk bytes offset all walk ∙ found.2 ∙ ap (containing left) split.1
    ∙ found_first left a split.0 inside

pub seeks_gap : (offset : ℕ) (bytes : List ℕ) (left : ℕ) (middle : List ℕ) (a : Attribute) (rest : List ℕ)
    (all : List Attribute) → Walk bytes all None → Seeks offset bytes left middle
    → Starts middle a rest → 4 + length a.value ≤ left → left < padded_size a
    → attribute_at bytes offset ≡ None
seeks_gap offset bytes left middle a rest all walk seeks starts after inside =
    let found = seeks.later all walk in
    let split = walk_after middle a rest found.0 None starts found.1 in
    at_walk bytes offset all walk ∙ found.2 ∙ ap (containing left) split.1
    ∙ gap_first left a split.0 after inside

pub seeks_end : (offset : ℕ) (bytes : List ℕ) (left : ℕ) (rest : List ℕ) (all : List Attribute)
    → Walk bytes all None → Seeks offset bytes left rest → rest ≡ []
    → attribute_at bytes offset ≡ None
seeks_end offset bytes left rest all walk seeks none =
    let found = seeks.later all walk in
    let same = walk_once rest found.0 [] None None found.1 none in
    at_walk bytes offset all walk ∙ found.2 ∙ ap (containing left) same.0

-- a walk without an error meets none
pub seeks_fault : (offset : ℕ) (bytes : List ℕ) (left : ℕ) (rest : List ℕ) (error : DecodeError)
    (all : List Attribute) → Walk bytes all None → Seeks offset bytes left rest → rest ≢ []
    → IsFault rest error → ⊥
seeks_fault offset bytes left rest error all walk seeks some is =
    let found = seeks.later all walk in
    let same = walk_once rest found.0 [] None (Some error) found.1 (some, is) in
    let faults = same.1 in
    absurd (cc)
