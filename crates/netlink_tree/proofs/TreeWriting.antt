-- The encoding of trees.
use Rattle.std.proofs.Common.{◌≡◌, ℕ, suc, ◌+◌, ◌-◌, ◌%◌, ◌≤◌, Bool, true, false, nat_lt, ◌||◌, if◌then◌else◌, List, [], ◌∷◌, ◌++◌, length, take, drop, refl, sym, ap, ◌∙◌, Ok, Err, All, arith, append-nil, append_assoc, length-append}
use Rattle.std.proofs.lemmas.Grind.{common_steps}
use Rattle.std.proofs.lemmas.List.Elements.{All-nil, All-cons, All-head, All-tail, All-contains}
use Rattle.std.specs.Prelude.{replicate}
use Rattle.netlink_packet_core.specs.Attribute.{Attribute, FitsAttribute, attribute_bytes, padded, padding, value_max}
use Rattle.netlink_packet_core.specs.AttributeSizes.{length-canonical_block, length-padded}
use Rattle.netlink_packet_core.specs.Block.{canonical_block, IsBlockOf}
use Rattle.netlink_packet_core.specs.Nla.{attribute_with}
use Rattle.netlink_packet_core.specs.Numbers.{bytes_le}
use Rattle.netlink_packet_core.specs.Storage.{put_at}
use Rattle.netlink_packet_core.specs.Views.{is_nested}
use Rattle.netlink_tree.specs.Tree.{Tree, leaf, nest, Forest, no_trees, grow, IsWellFormed, AreWellFormed, levels, TreeInRange, TreesInRange}
use Rattle.netlink_tree.specs.Writing.{written, attributes_of, tree_bytes, is_long, is_too_long, are_too_long, writing, IsCanonicalDeep, deep}
use Rattle.netlink_tree.specs.declared.fault.TreeFault.TheVariants.{TooDeep, TooLong}

pub neither : (a b : Bool) → a || b ≡ false → (a ≡ false) × (b ≡ false)
neither true b e = absurd (cc)
neither false b e = (refl, e)

short : (v : List ℕ) → is_long v ≡ false → length v ≤ value_max
short v e = grind arith

-- what a proof about a size needs
pub ruleset text_sizes = (common_steps, length-canonical_block)

-- ---- a nest whose size is written after what is inside

text_aligned : (ts : Forest) → length (tree_bytes ts) % 4 ≡ 0
text_aligned no_trees = refl
text_aligned (grow t ts) = let first = length-canonical_block (written t) (attributes_of ts) in let later = text_aligned ts in omega arith

put_after : (front rest text : List ℕ) → put_at (front ++ rest) (length front) text ≡ front ++ put_at rest 0 text
put_after [] rest text = refl
put_after (b ∷ front) rest text =
    let whole : List ℕ = b ∷ (front ++ rest) in
    let place : suc (length front) + length text ≡ suc (length front + length text) = omega arith in
    ap (λ (n : ℕ). take (suc (length front)) whole ++ (text ++ drop n whole)) place
    ∙ ap (λ (l : List ℕ). b ∷ l) (put_after front rest text)

counted : (kind : ℕ) (inner : List ℕ) → length inner % 4 ≡ 0
    → put_at (padded (attribute_with kind []) ++ inner) 0 (bytes_le (4 + length inner) 2) ≡ padded (attribute_with kind inner)
unfolding bytes_le
counted kind inner aligned =
    let text : List ℕ = attribute_bytes (attribute_with kind inner) in
    let none : padding (length inner) ≡ 0 = omega arith in
    sym (ap (λ (n : ℕ). text ++ replicate n 0) none ∙ append-nil text)

pub nest_length : (old one two : List ℕ) (kind : ℕ) (ts : Forest) → one ≡ old ++ padded (attribute_with kind [])
    → two ≡ one ++ tree_bytes ts → length two ≡ length old + (4 + length (tree_bytes ts))
nest_length old one two kind ts first second =
    let a = ap length first ∙ length-append old (padded (attribute_with kind [])) in
    let b = ap length second ∙ length-append one (tree_bytes ts) in
    let c = length-padded (attribute_with kind []) in
    omega arith

pub nest_counted : (old one two new : List ℕ) (kind start : ℕ) (ts : Forest) → start ≡ length old
    → one ≡ old ++ padded (attribute_with kind []) → two ≡ one ++ tree_bytes ts
    → new ≡ put_at two start (bytes_le (length two - start) 2) → new ≡ old ++ padded (attribute_with kind (tree_bytes ts))
nest_counted old one two new kind start ts at first second third =
    let header : List ℕ = padded (attribute_with kind []) in
    let size : length two - length old ≡ 4 + length (tree_bytes ts) = let all = nest_length old one two kind ts first second in
    omega arith in
    let whole : two ≡ old ++ (header ++ tree_bytes ts) =
    second ∙ ap (λ (l : List ℕ). l ++ tree_bytes ts) first ∙ append_assoc old header (tree_bytes ts) in
    third ∙ ap (λ (n : ℕ). put_at two n (bytes_le (length two - n) 2)) at ∙ ap (λ (n : ℕ). put_at two (length old) (bytes_le n 2)) size
    ∙ ap (λ (l : List ℕ). put_at l (length old) (bytes_le (4 + length (tree_bytes ts)) 2)) whole
    ∙ put_after old (header ++ tree_bytes ts) (bytes_le (4 + length (tree_bytes ts)) 2)
    ∙ ap (λ (l : List ℕ). old ++ l) (counted kind (tree_bytes ts) (text_aligned ts))

-- ---- attributes that fit

written_fits : (t : Tree) → TreeInRange t → is_too_long t ≡ false → FitsAttribute (written t)
written_fits (leaf k v) range fit = record { kind = range; value = short v fit }
written_fits (nest k ts) range fit = record { kind = range.0; value = short (tree_bytes ts) ((neither _ _ fit).1) }

pub forest_fits : (ts : Forest) → TreesInRange ts → are_too_long ts ≡ false → All FitsAttribute (attributes_of ts)
forest_fits no_trees range fit = All-nil FitsAttribute
forest_fits (grow t ts) range fit =
    let each = neither (is_too_long t) (are_too_long ts) fit in
    All-cons FitsAttribute (written t) (attributes_of ts) (written_fits t range.0 each.0) (forest_fits ts range.1 each.1)

-- ---- blocks

padded-append : (a : Attribute) (rest : List ℕ) → padded a ++ rest ≡ attribute_bytes a ++ (replicate (padding (length a.value)) 0 ++ rest)
padded-append a rest = append_assoc (attribute_bytes a) (replicate (padding (length a.value)) 0) rest

written_block : (all : List Attribute) → All FitsAttribute all → IsBlockOf (canonical_block all) all
written_block [] each = refl
written_block (a ∷ more) each = (
  canonical_block more,
  All-head FitsAttribute a more each,
  padded-append a (canonical_block more),
  written_block more
      (All-tail FitsAttribute a more each),
)

pub block_bytes : (bytes : List ℕ) (all : List Attribute) → IsBlockOf bytes all → canonical_block all ≡ bytes
block_bytes bytes [] none = sym none
block_bytes bytes (a ∷ more) (rest, fits, whole, block) =
    ap (λ (x : List ℕ). padded a ++ x) (block_bytes rest more block) ∙ padded-append a rest ∙ sym whole

pub block_fits : (bytes : List ℕ) (all : List Attribute) → IsBlockOf bytes all → All FitsAttribute all
block_fits bytes [] none = All-nil FitsAttribute
block_fits bytes (a ∷ more) (rest, fits, whole, block) = All-cons FitsAttribute a more fits (block_fits rest more block)

-- ---- canonical at every depth

-- the value is canonical at every depth, if it holds attributes
abbrev pub IsDeep : Attribute → Type 0
IsDeep a = is_nested a.kind ≡ true → IsCanonicalDeep a.value

-- a block is canonical at every depth if its attributes are
block_deep : (all : List Attribute) → All FitsAttribute all → All IsDeep all → IsCanonicalDeep (canonical_block all)
block_deep all fit each = deep (canonical_block all) all (written_block all fit) (λ a inside. All-contains IsDeep all a each inside)

mutual
  tree_deep : (t : Tree) → IsWellFormed t → TreeInRange t → is_too_long t ≡ false → IsDeep (written t)
  tree_deep (leaf k v) formed range fit = λ has. absurd (cc)
  tree_deep (nest k ts) formed range fit =
      let inside = neither (are_too_long ts) (is_long (tree_bytes ts)) fit in
      λ has. block_deep (attributes_of ts) (forest_fits ts range.1 inside.0) (forest_deep ts formed.1 range.1 inside.0)

  forest_deep : (ts : Forest) → AreWellFormed ts → TreesInRange ts → are_too_long ts ≡ false → All IsDeep (attributes_of ts)
  forest_deep no_trees formed range fit = All-nil IsDeep
  forest_deep (grow t ts) formed range fit =
      let each = neither (is_too_long t) (are_too_long ts) fit in
      All-cons IsDeep (written t) (attributes_of ts) (tree_deep t formed.0 range.0 each.0) (forest_deep ts formed.1 range.1 each.1)

pub text_deep : (ts : Forest) → AreWellFormed ts → TreesInRange ts → are_too_long ts ≡ false → IsCanonicalDeep (tree_bytes ts)
text_deep ts formed range fit = block_deep (attributes_of ts) (forest_fits ts range fit) (forest_deep ts formed range fit)

-- ---- the result of writing

chosen : (d l : Bool) (t text : List ℕ) → (if d then Err TooDeep else if l then Err TooLong else Ok t) ≡ Ok text
    → (d ≡ false) × (l ≡ false) × (t ≡ text)
chosen true l t text e = absurd (cc)
chosen false true t text e = absurd (cc)
chosen false false t text e = (refl, refl, cc)

pub writing_ok : (ts : Forest) (text : List ℕ) → writing ts ≡ Ok text
    → (levels ts ≤ 16) × (are_too_long ts ≡ false) × (tree_bytes ts ≡ text)
writing_ok ts text e =
    let parts = chosen (nat_lt 16 (levels ts)) (are_too_long ts) (tree_bytes ts) text e in
    let low : levels ts ≤ 16 = grind (arith, parts.0) in
    (low, parts.1, parts.2)

pub writing_is : (ts : Forest) → levels ts ≤ 16 → are_too_long ts ≡ false → writing ts ≡ Ok (tree_bytes ts)
writing_is ts low fit =
    let deep_enough : nat_lt 16 (levels ts) ≡ false = grind arith in
    rw (deep_enough, fit) refl
