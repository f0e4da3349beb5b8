-- The text of a frame, written part by part.
use Rattle.std.proofs.Common.{◌≡◌, ℕ, ◌+◌, ◌*◌, ◌/◌, ◌%◌, ◌^◌, ◌<◌, ◌≤◌, List, [], ◌∷◌, ◌++◌, false, length, take, drop, slice_index, ap, sym, refl, ◌∙◌, arith, add-one, append_assoc, append-nil, length-append}
use Rattle.std.proofs.lemmas.Bool.{true≢false}
use Rattle.std.proofs.lemmas.Fmt.{decimal_step}
use Rattle.std.specs.Fmt.{decimal}
use Rattle.std.specs.Prelude.{◌==◌, codes}
use Rattle.std.proofs.lemmas.List.{drop_at, drop-drop, length-take-le, take_at}
use Rattle.netlink_packet_core.specs.DecodeError.{DecodeError}
use Rattle.netlink_packet_core.specs.DecodeError.TheVariants.{FrameShort, FrameCut, FrameLength}
use Rattle.netlink_packet_core.specs.Header.{HoldsFrame, field, header_lines, header_of}
use Rattle.netlink_packet_core.specs.Refusal.{IsFrameFault}
use Rattle.netlink_packet_core.specs.Storage.{put_at}
use Rattle.netlink_packet_core.specs.Text.{hex_digits, hex_pair, hex_text, number_line}
use Rattle.netlink_packet_core.specs.TextLaws.{hex_digits-take, length-hex_digits}
use Rattle.netlink_packet_core.specs.declared.header.NetlinkHeader.{NetlinkHeader}
use Rattle.netlink_c.specs.Describe.{bytes_line, text_before}
use Rattle.netlink_c.specs.Out.{CopiesOut}

-- bytes that hold a frame have no error
pub no_fault : (bytes : List ℕ) (e : DecodeError) → HoldsFrame bytes → IsFrameFault false bytes e → ⊥
no_fault bytes (FrameShort size inside) holds fault = let header = holds.header in omega (arith, fault.0, header)
no_fault bytes (FrameCut said size inside) holds fault = let most = holds.most in omega (arith, fault.1, most)
no_fault bytes (FrameLength said inside) holds fault = let least = holds.least in omega (arith, fault.1, least)
no_fault bytes _ holds fault = fault

-- what follows the offset of a text that was written, up to `end`
pub prepended : (lines new text : List ℕ) (at end : ℕ) → at + length text ≡ end → end ≤ length lines → new ≡ put_at lines at text
    → drop at new ≡ text ++ drop end lines
prepended lines new text at end size room written =
    ap (drop at) written ∙ drop_at (take at lines) (text ++ drop (at + length text) lines) at (length-take-le at lines (omega arith))
    ∙ ap (λ (k : ℕ). text ++ drop k lines) size

-- two texts that are written one after another
pub put_more : (bytes x y : List ℕ) (at : ℕ) → at ≤ length bytes
    → put_at (put_at bytes at x) (at + length x) y ≡ put_at bytes at (x ++ y)
put_more bytes x y at inside =
    let front : List ℕ = take at bytes ++ x in
    let rest : List ℕ = drop (at + length x) bytes in
    let tail : List ℕ = drop (at + length (x ++ y)) bytes in
    let both = length-append x y in
    let size : length front ≡ at + length x = length-append (take at bytes) x ∙ ap (λ (k : ℕ). k + length x) (length-take-le at bytes inside)
    in
    let same : put_at bytes at x ≡ front ++ rest = sym (append_assoc (take at bytes) x rest) in
    let taken : take (at + length x) (put_at bytes at x) ≡ front = ap (take (at + length x)) same
    ∙ take_at front rest (at + length x) size in
    let ends : at + length x + length y ≡ at + length (x ++ y) = omega (arith, both) in
    let dropped : drop (at + length x + length y) (put_at bytes at x) ≡ tail = sym (drop-drop (length y) (at + length x) (put_at bytes at x))
    ∙ ap (drop (length y)) (ap (drop (at + length x)) same ∙ drop_at front rest (at + length x) size)
    ∙ drop-drop (length y) (at + length x) bytes ∙ ap (λ (k : ℕ). drop k bytes) ends in
    ap (λ (t : List ℕ). t ++ (y ++ drop (at + length x + length y) (put_at bytes at x))) taken
    ∙ ap (λ (t : List ℕ). front ++ (y ++ t)) dropped ∙ append_assoc (take at bytes) x (y ++ tail)
    ∙ ap (λ (t : List ℕ). take at bytes ++ t) (sym (append_assoc x y tail))

-- a text at the start of a buffer with room for it, and the rest unchanged
pub copied_out : (text buffer new : List ℕ) (size : ℕ) → size ≡ length text → length text ≤ length buffer → new ≡ put_at buffer 0 text
    → CopiesOut text buffer new size 0
copied_out text buffer new size sizes room written =
    let none : 0 + length text ≡ length text = omega arith in
    let here : new ≡ text ++ drop (length text) buffer = written ∙ ap (λ (k : ℕ). text ++ drop k buffer) none in
    record {
      counted = sizes;
      written = λ _. (
        refl,
        ap (take size) here ∙ take_at text (drop (length text) buffer) size (sym sizes),
        ap (drop size) here ∙ drop_at text (drop (length text) buffer) size (sym sizes) ∙ ap (λ (k : ℕ). drop k buffer) (sym sizes),
      );
      no_room = λ short. absurd (omega arith);
    }

-- two more digits, at their offset
pub pair_put : (before bytes old new pair : List ℕ) (at end i : ℕ) → i < length bytes → at ≤ length before
    → old ≡ put_at before at (hex_digits (take i bytes)) → end ≡ at + i * 2 → new ≡ put_at old end pair
    → pair ≡ hex_pair (slice_index bytes i)
    → new ≡ put_at before at (hex_digits (take (i + 1) bytes))
pair_put before bytes old new pair at end i less inside so_far ends written is =
    let digits : List ℕ = hex_digits (take i bytes) in
    let size = length-hex_digits (take i bytes) in
    let taken = length-take-le i bytes (omega arith) in
    let here : end ≡ at + length digits = omega (arith, size, taken, ends) in
    rw (add-one, hex_digits-take bytes i less)
    (written ∙ ap (λ (k : ℕ). put_at old k pair) here ∙ ap (λ (t : List ℕ). put_at t (at + length digits) pair) so_far
    ∙ put_more before digits pair at inside ∙ ap (λ (t : List ℕ). put_at before at (digits ++ t)) is)

pub length-hex_text : (bytes : List ℕ) → (length bytes == 0) ≡ false → length (hex_text bytes) ≡ length bytes * 2
length-hex_text [] some = absurd (true≢false some)
length-hex_text (b ∷ bytes) some = length-hex_digits (b ∷ bytes)

-- the digits of a number, the last of which was written
pub digit_before : (n : ℕ) (rest : List ℕ) → 10 ≤ n → n < 2 ^ 64 → decimal (n / 10) ++ ((48 + n % 10) ∷ rest) ≡ decimal n ++ rest
digit_before n rest many fits = sym (append_assoc (decimal (n / 10)) ((48 + n % 10) ∷ []) rest)
    ∙ ap (λ (t : List ℕ). t ++ rest) (sym (decimal_step n many fits))

pub length-decimal-step : (n : ℕ) → 10 ≤ n → n < 2 ^ 64 → length (decimal n) ≡ length (decimal (n / 10)) + 1
length-decimal-step n many fits = ap length (decimal_step n many fits) ∙ length-append (decimal (n / 10)) ((48 + n % 10) ∷ [])

-- six texts, each before the earlier one
six_texts : (t0 t1 t2 t3 t4 t5 rest a b c d e f : List ℕ) → rest ≡ [] → t0 ≡ f ++ rest → t1 ≡ e ++ t0 → t2 ≡ d ++ t1 → t3 ≡ c ++ t2
    → t4 ≡ b ++ t3 → t5 ≡ a ++ t4
    → t5 ≡ (a ++ (b ++ (c ++ (d ++ e)))) ++ f
six_texts t0 t1 t2 t3 t4 t5 rest a b c d e f none p0 p1 p2 p3 p4 p5 =
    let last : t0 ≡ f = p0 ∙ ap (λ (x : List ℕ). f ++ x) none ∙ append-nil f in
    let fourth : t2 ≡ (d ++ e) ++ f = p2 ∙ ap (λ (x : List ℕ). d ++ x) (p1 ∙ ap (λ (x : List ℕ). e ++ x) last) ∙ sym (append_assoc d e f) in
    let third : t3 ≡ (c ++ (d ++ e)) ++ f = p3 ∙ ap (λ (x : List ℕ). c ++ x) fourth ∙ sym (append_assoc c (d ++ e) f) in
    let second : t4 ≡ (b ++ (c ++ (d ++ e))) ++ f = p4 ∙ ap (λ (x : List ℕ). b ++ x) third ∙ sym (append_assoc b (c ++ (d ++ e)) f) in
    p5 ∙ ap (λ (x : List ℕ). a ++ x) second ∙ sym (append_assoc a (b ++ (c ++ (d ++ e))) f)

-- the lines of a header, each before the earlier one
pub lines_join : (frame name t0 t1 t2 t3 t4 t5 rest : List ℕ) (size kind flags sequence port : ℕ) → rest ≡ []
    → t0 ≡ name ++ rest → t1 ≡ number_line (codes "port ") port ++ t0
    → t2 ≡ number_line (codes "sequence ") sequence ++ t1 → t3 ≡ number_line (codes "flags ") flags ++ t2
    → t4 ≡ number_line (codes "type ") kind ++ t3 → t5 ≡ number_line (codes "length ") size ++ t4
    → size ≡ field 0 4 frame → kind ≡ field 4 2 frame → flags ≡ field 6 2 frame → sequence ≡ field 8 4 frame → port ≡ field 12 4 frame
    → t5 ≡ text_before name frame
lines_join frame name t0 t1 t2 t3 t4 t5 rest size kind flags sequence port none p0 p1 p2 p3 p4 p5 e0 e1 e2 e3 e4 =
    let h : NetlinkHeader =
    record { length = size; message_type = kind; flags = flags; sequence_number = sequence; port_number = port } in
    let same : h ≡ header_of frame =
    λ i. record { length = e0 i; message_type = e1 i; flags = e2 i; sequence_number = e3 i; port_number = e4 i } in
    six_texts t0 t1 t2 t3 t4 t5 rest (number_line (codes "length ") size) (number_line (codes "type ") kind)
    (number_line (codes "flags ") flags) (number_line (codes "sequence ") sequence) (number_line (codes "port ") port) name
    none p0 p1 p2 p3 p4 p5
    ∙ ap (λ (x : NetlinkHeader). header_lines x ++ name) same

length-text : (before payload : List ℕ) → length (before ++ bytes_line payload) ≡ length before + length (hex_text payload) + 1
length-text before payload =
    let outer = length-append before (bytes_line payload) in
    let inner = length-append (hex_text payload) (10 ∷ []) in
    omega (arith, outer, inner)

-- the three parts of a text, each at its offset
pub text_out : (buffer b1 b2 b3 before payload : List ℕ) (end size : ℕ) → end ≡ length before + length (hex_text payload)
    → size ≡ end + 1 → end < length buffer → b1 ≡ put_at buffer 0 before → b2 ≡ put_at b1 (length before) (hex_text payload)
    → b3 ≡ put_at b2 end (10 ∷ [])
    → CopiesOut (before ++ bytes_line payload) buffer b3 size 0
text_out buffer b1 b2 b3 before payload end size ends sizes room p1 p2 p3 =
    let hex : List ℕ = hex_text payload in
    let both : List ℕ = before ++ hex in
    let whole = length-text before payload in
    let first = length-append before hex in
    let from : length before ≡ 0 + length before = omega arith in
    let to : end ≡ 0 + length both = omega (arith, first, ends) in
    let one : b2 ≡ put_at buffer 0 both = p2 ∙ ap (λ (t : List ℕ). put_at t (length before) hex) p1
    ∙ ap (λ (k : ℕ). put_at (put_at buffer 0 before) k hex) from ∙ put_more buffer before hex 0 (omega arith) in
    let two : b3 ≡ put_at buffer 0 (both ++ (10 ∷ [])) = p3 ∙ ap (λ (t : List ℕ). put_at t end (10 ∷ [])) one
    ∙ ap (λ (k : ℕ). put_at (put_at buffer 0 both) k (10 ∷ [])) to ∙ put_more buffer both (10 ∷ []) 0 (omega arith) in
    copied_out (before ++ bytes_line payload) buffer b3 size (omega (arith, whole, ends, sizes)) (omega (arith, whole, ends, room))
    (two ∙ ap (put_at buffer 0) (append_assoc before hex (10 ∷ [])))

-- there is no room for it
pub no_room : (buffer before payload : List ℕ) (end size : ℕ) → end ≡ length before + length (hex_text payload) → size ≡ end + 1
    → length buffer ≤ end
    → CopiesOut (before ++ bytes_line payload) buffer buffer size 8
no_room buffer before payload end size ends sizes full =
    let whole = length-text before payload in
    record {
      counted = omega (arith, whole, ends, sizes);
      written = λ fits. absurd (omega (arith, whole, ends, fits, full));
      no_room = λ _. (refl, refl);
    }
