-- The text of a message, step by step.
use Rattle.std.proofs.Common.{◌≡◌, ℕ, zero, suc, ◌+◌, ◌<◌, List, [], ◌∷◌, ◌++◌, length, take, slice_index, refl, sym, ap, ◌∙◌, arith, add-one, append-nil, append_assoc}
use Rattle.netlink_packet_core.specs.Attribute.{Attribute}
use Rattle.netlink_packet_core.specs.Views.{attribute_of}
use Rattle.netlink_packet_core.specs.Walk.{Starts}
use Rattle.netlink_blocks.specs.Show.{before_error, each_of, indent, lines_in, lines_of}
use Rattle.netlink_shapes.specs.ListingLaws.{before_step}

pub joins : (t0 t1 t2 a b : List ℕ) → t1 ≡ t0 ++ a → t2 ≡ t1 ++ b → t2 ≡ t0 ++ (a ++ b)
joins t0 t1 t2 a b first second = second ∙ ap (λ (t : List ℕ). t ++ b) first ∙ append_assoc t0 a b

pub joins_three : (t0 t1 t2 t3 a b c : List ℕ) → t1 ≡ t0 ++ a → t2 ≡ t1 ++ b → t3 ≡ t2 ++ c → t3 ≡ t0 ++ (a ++ (b ++ c))
joins_three t0 t1 t2 t3 a b c first second third =
    joins t0 t1 t3 a (b ++ c) first (joins t1 t2 t3 b c second third)

-- ---- loops over bytes

each_more : (of_byte : ℕ → List ℕ) (bytes : List ℕ) (i : ℕ) → i < length bytes
    → each_of of_byte (take (suc i) bytes) ≡ each_of of_byte (take i bytes) ++ of_byte (slice_index bytes i)
each_more of_byte [] i less = absurd (omega arith)
each_more of_byte (b ∷ bytes) zero less = append-nil (of_byte b)
each_more of_byte (b ∷ bytes) (suc i) less =
    ap (λ (more : List ℕ). of_byte b ++ more) (each_more of_byte bytes i (omega arith))
    ∙ sym (append_assoc (of_byte b) (each_of of_byte (take i bytes)) (of_byte (slice_index bytes i)))

pub each_added : (of_byte : ℕ → List ℕ) (front bytes old new : List ℕ) (i : ℕ) → i < length bytes
    → old ≡ front ++ each_of of_byte (take i bytes) → new ≡ old ++ of_byte (slice_index bytes i)
    → new ≡ front ++ each_of of_byte (take (i + 1) bytes)
each_added of_byte front bytes old new i less so_far added =
    rw (add-one, each_more of_byte bytes i less)
    (joins front old new (each_of of_byte (take i bytes)) (of_byte (slice_index bytes i)) so_far added)

indent_more : (n : ℕ) → indent (suc n) ≡ indent n ++ (32 ∷ (32 ∷ []))
indent_more zero = refl
indent_more (suc n) = ap (λ (more : List ℕ). 32 ∷ (32 ∷ more)) (indent_more n)

pub indent_added : (front old new : List ℕ) (n : ℕ) → old ≡ front ++ indent n → new ≡ old ++ (32 ∷ (32 ∷ []))
    → new ≡ front ++ indent (n + 1)
indent_added front old new n so_far added =
    rw (add-one, indent_more n) (joins front old new (indent n) (32 ∷ (32 ∷ [])) so_far added)

-- ---- the loop over a block

pub lines_later : (line : ℕ → List ℕ → List ℕ) (whole t0 t1 bytes rest : List ℕ) (kind : ℕ) (value : List ℕ)
    → whole ≡ t0 ++ lines_in line bytes → Starts bytes (attribute_of bytes) rest → kind ≡ (attribute_of bytes).kind
    → value ≡ (attribute_of bytes).value → t1 ≡ t0 ++ line kind value → whole ≡ t1 ++ lines_in line rest
lines_later line whole t0 t1 bytes rest kind value so_far starts same is added =
    let a : Attribute = attribute_of bytes in
    so_far ∙ ap (λ (all : List Attribute). t0 ++ lines_of line all) (before_step bytes a rest starts)
    ∙ ap (λ (k : ℕ). t0 ++ (line k a.value ++ lines_in line rest)) (sym same)
    ∙ ap (λ (v : List ℕ). t0 ++ (line kind v ++ lines_in line rest)) (sym is)
    ∙ sym (append_assoc t0 (line kind value) (lines_in line rest))
    ∙ ap (λ (t : List ℕ). t ++ lines_in line rest) (sym added)

pub lines_end : (line : ℕ → List ℕ → List ℕ) (whole t bytes : List ℕ) → whole ≡ t ++ lines_in line bytes
    → before_error (length bytes) bytes ≡ [] → t ≡ whole
lines_end line whole t bytes so_far none =
    sym (so_far ∙ ap (λ (all : List Attribute). t ++ lines_of line all) none ∙ append-nil t)
