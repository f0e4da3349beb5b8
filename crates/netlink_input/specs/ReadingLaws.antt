-- What was read of a stream, where its bytes are known.
use Rattle.std.proofs.Common.{◌≡◌, ◌<◌, ◌≤◌, ◌+◌, ◌∙◌, refl, ℕ, List, ◌++◌, Option, Some, None, take, length, ap, sym, subst, inl, inr, arith, append_assoc, length-append}
use Rattle.std.proofs.KnownBytes.{Consumes-trans}
use Rattle.std.proofs.Math.Seq.{take-append-add}
use Rattle.std.proofs.lemmas.List.{take-append-le, take_all, take_at}
use Rattle.std.specs.Io.KnownBytes.{Consumes, prepend_known}
use Rattle.std.specs.Prelude.{◌⊎◌}
use borrow.Rule.Slice.PartMut.{post_of, put_mid}
use Rattle.netlink_packet_core.specs.Header.{HoldsFrame, field}
use Rattle.netlink_packet_core.specs.Numbers.{number_le}
use Rattle.netlink_input.specs.Reading.{ReadsUpTo, Tries, TriesUpTo}
use Rattle.netlink_input.specs.declared.fault.Fault.{Fault}
use Rattle.netlink_input.specs.declared.fault.Fault.TheVariants.{OutOfMemory, Read}

-- ---- how a stream ends

-- the length field is in the first 16 bytes
pub field_in : (head more : List ℕ) → 4 ≤ length head → field 0 4 (head ++ more) ≡ field 0 4 head
field_in head more long = ap number_le (take-append-le 4 head more long)

-- a header and what was read of the body hold no whole frame
pub no_header : (front : List ℕ) → length front < 16 → HoldsFrame front → ⊥
no_header front short holds = omega (arith, short, holds.header)

pub no_body : (head body : List ℕ) (said : ℕ) → length head ≡ 16 → said ≡ field 0 4 head
    → 16 + length body < said → HoldsFrame (head ++ body) → ⊥
no_body head body said size is short holds =
    let same = field_in head body (omega (arith, size)) in
    let long = length-append head body in
    omega (arith, size, is, short, holds.most, same, long)

-- the reader failed before the end of the frame
tries_body : (old middle new : Option (List ℕ)) (head front : List ℕ) (said : ℕ) → Consumes old middle head
    → Consumes middle new front → length head ≡ 16 → said ≡ field 0 4 head → 16 + length front < said
    → Tries old new
tries_body old middle new head front said took more size is short =
    (head ++ front, Consumes-trans old middle new head front took more, no_body head front said size is short)

pub fails_frame : (old middle new : Option (List ℕ)) (head : List ℕ) (said : ℕ) (why : Fault) → Consumes old middle head
    → length head ≡ 16 → said ≡ field 0 4 head → (why ≡ OutOfMemory) ⊎ ((why ≡ Read) × TriesUpTo middle new head said)
    → (why ≡ OutOfMemory) ⊎ ((why ≡ Read) × Tries old new)
fails_frame old middle new head said why took long is (inl none) = inl none
fails_frame old middle new head said why took long is (inr tries) =
    let (read, given) = tries in
    let (front, more, short) = given in
    inr (read, tries_body old middle new head front said took more long is (omega (arith, short, long, length-append head front)))

-- ---- a vector that gets more bytes

-- the vector was made longer, and n bytes were read into its new part
pub read_items : (s n size k : ℕ) (old zeros xs buffer rest : List ℕ) → s ≡ length old → length old ≤ size
    → xs ≡ take size old ++ zeros → length xs ≡ size → s + length buffer ≡ size → n ≤ length buffer
    → take (s + n) (take size (put_mid s k xs buffer ++ rest)) ≡ old ++ take n buffer
read_items s n size k old zeros xs buffer rest is less same long whole few =
    let after : List ℕ = post_of s k xs in
    let head : take s xs ≡ old =
    ap (take s) (same ∙ ap (λ (l : List ℕ). l ++ zeros) (take_all size old less)) ∙ take_at old zeros s (sym is) in
    let joined : put_mid s k xs buffer ++ rest ≡ (old ++ buffer) ++ (after ++ rest) =
    ap (λ (l : List ℕ). (l ++ (buffer ++ after)) ++ rest) head ∙ append_assoc old (buffer ++ after) rest
    ∙ ap (λ (l : List ℕ). old ++ l) (append_assoc buffer after rest) ∙ sym (append_assoc old buffer (after ++ rest)) in
    let taken : take size (put_mid s k xs buffer ++ rest) ≡ old ++ buffer =
    ap (take size) joined ∙ take_at (old ++ buffer) (after ++ rest) size (omega (arith, length-append old buffer, is, whole)) in
    ap (take (s + n)) taken ∙ ap (λ (m : ℕ). take (m + n) (old ++ buffer)) is ∙ take-append-add old buffer n

-- bytes that were read before are the first ones
pub takes_first : (first : List ℕ) (old : Option (List ℕ)) → Consumes (prepend_known first old) old first
takes_first first None = tt
takes_first first (Some ys) = refl

pub prepend_takes : (first more : List ℕ) (old new : Option (List ℕ)) → Consumes old new more
    → Consumes (prepend_known first old) new (first ++ more)
prepend_takes first more None new took = tt
prepend_takes first more (Some xs) None took = absurd took
prepend_takes first more (Some xs) (Some ys) took =
    ap (λ (l : List ℕ). first ++ l) took ∙ sym (append_assoc first more ys)

-- what was read after the first bytes
pub reads_more : (old new : Option (List ℕ)) (first bytes : List ℕ) (size : ℕ) → ReadsUpTo old new first bytes size
    → Consumes (prepend_known first old) new bytes
reads_more old new first bytes size (more, is, took, few, end) =
    subst (Consumes (prepend_known first old) new) (sym is) (prepend_takes first more old new took)
