-- The lines of a message, from those of its parts.
use Rattle.std.proofs.Common.{◌≡◌, ◌∙◌, refl, ap, arith, sym, subst, ℕ, List, [], ◌∷◌, Option, Some, None, IfOk, OnOk, Result, Ok, Err, string_bytes}
use Rattle.std.proofs.lemmas.Bool.{eqb-true, ne_eqb}
use Rattle.std.specs.Prelude.{◌≤◌, ◌<◌, Bool, true, false, nat_eq, ◌==◌, if◌then◌else◌}
use Rattle.netlink_family.specs.ErrorTexts.{error_text}
use Rattle.netlink_family.specs.declared.error.FamilyError.{FamilyError}
use Rattle.netlink_family.specs.declared.error.FamilyError.TheVariants.{UnknownType}
use Rattle.netlink_json.specs.Fields.{Adds, AddsAll, AddsParts, Field, Written, no_field, with_field, with_fields, with_parts, written}
use Rattle.netlink_json.specs.declared.object.Object.{Object}
use Rattle.netlink_packet_core.specs.Header.{header_of, payload_of}
use Rattle.netlink_packet_core.specs.Refusal.{refusal_text}
use Rattle.netlink_packet_core.specs.declared.constants.TheConstants.{NLMSG_DONE, NLMSG_ERROR, NLMSG_NOOP, NLMSG_OVERRUN}
use Rattle.netlink_replies.specs.Meaning.{Item, done_item, error_item, meaning}
use Rattle.netlink_replies.specs.declared.reply.Reply.TheVariants.{Message, Overrun}
use Rattle.netlink_lines.specs.Ack.{IsWords, marked_if}
use Rattle.netlink_lines.proofs.Words.{no_words}
use Rattle.netlink_lines.specs.Messages.{Check, HasLines, Lines, Memory, Seen, Tells, TellsLines, TellsMessage, TellsObject, all_lines, bad, error_lines, family_lines, frame_lines, good, item_lines, is_named, known_after, seen_object, time_or, timed, unless_time}
use Rattle.netlink_lines.specs.Lines.{known_by}
use Rattle.netlink_lines.specs.Objects as objects
use Rattle.netlink_lines.specs.Objects.{bad_parts, error_parts, frame_object, front_parts, item_parts, line_of, lined}
use Rattle.netlink_lines.specs.Time.{time_in, time_of}
use Rattle.netlink_names.specs.declared.device.Known.{Known}
use Rattle.netlink_lines.specs.declared.messages.Shown.{Shown}
use Rattle.netlink_lines.specs.declared.options.Options.{Options}
use Rattle.netlink_input.specs.declared.time.Time.{Time}

pub has_lines : {E : Type 0} (check : Check) (options : Options) (known : List Known) (at : ℕ) (frame words : List ℕ) (item : Option Item)
    (flags : ℕ) (shown : Lines) (r : Result Shown E) → item ≡ meaning frame → IsWords item words
    → flags ≡ (header_of frame).flags → shown ≡ item_lines check options known at frame words item
    → IfOk r (λ s. ◌≡◌ {A = Lines} (string_bytes s.text, s.is_malformed) (marked_if flags shown))
    → IfOk r (λ s. HasLines check options known at frame (string_bytes s.text, s.is_malformed))
has_lines check options known at frame words item flags shown (Ok s) same is flag lines marked = (
  words,
  subst (λ (i : Option Item). IsWords i words) same is,
  marked ∙ ap (λ (n : ℕ). marked_if n shown) flag
      ∙ ap (marked_if (header_of frame).flags) (lines ∙ ap (item_lines check options known at frame words) same),
)
has_lines check options known at frame words item flags shown (Err e) same is flag lines marked = tt

-- an error other than an unknown type is the line of a malformed message
pub malformed_lines : (at t size : ℕ) (e : FamilyError) → ((n : ℕ) → e ≡ UnknownType n → ⊥)
    → error_lines at t size e ≡ bad at (refusal_text t (error_text e))
malformed_lines at t size (UnknownType n) not = absurd (not n refl)
malformed_lines at t size e not = refl

pub malformed_parts : (at : ℕ) (frame : List ℕ) (e : FamilyError) → ((n : ℕ) → e ≡ UnknownType n → ⊥)
    → error_parts at frame e ≡ bad_parts at frame (refusal_text (header_of frame).message_type (error_text e))
malformed_parts at frame (UnknownType n) not = absurd (not n refl)
malformed_parts at frame e not = refl

-- ---- after other messages

-- a message with a time has the type 15
chosen : (b : Bool) (o : Option Time) (time : Time) → Some time ≡ (if b then o else None) → b ≡ true
chosen true o time is = refl
chosen false o time is = absurd cc

pub time_type : (frame : List ℕ) (time : Time) → Some time ≡ time_in frame → (header_of frame).message_type ≡ 15
unfolding time_in
time_type frame time is =
    eqb-true (header_of frame).message_type 15
    (chosen ((header_of frame).message_type == 15) (time_of (payload_of frame)) time is)

-- so it is no error or done message
time_meaning : (frame : List ℕ) (time : Time) → Some time ≡ time_in frame → meaning frame ≡ Some (Ok (Message frame))
time_meaning frame time is =
    ap (λ (t : ℕ).
    if nat_eq t NLMSG_NOOP then None
    else if nat_eq t NLMSG_ERROR then Some (error_item (header_of frame).flags (payload_of frame))
    else if nat_eq t NLMSG_DONE then Some (done_item (header_of frame).flags (payload_of frame))
    else if nat_eq t NLMSG_OVERRUN then Some (Ok Overrun)
    else Some (Ok (Message frame))) (time_type frame time is)

-- what a message leaves, by its time and the names after it
leaves_these : (check : Check) (frame : List ℕ) (memory : Memory) (time : Option Time) (known : List Known)
    → time ≡ time_or (time_in frame) memory.stamp → known ≡ known_after check frame memory.known
    → ◌≡◌ {A = Memory} (record { time = time; known = known; options = memory.options; stamp = memory.stamp })
    (record { time = time_or (time_in frame) memory.stamp; known = known_after check frame memory.known; options = memory.options; stamp = memory.stamp })
leaves_these check frame memory time known same names = cc

-- a time leaves itself, and has no line
pub tells_time : (check : Check) (at : ℕ) (frame : List ℕ) (memory : Memory) (lines : Lines) (result : Option Time)
    (known : List Known) (time : Time) → result ≡ time_in frame → known ≡ known_after check frame memory.known
    → Some time ≡ time_in frame → lines ≡ good []
    → TellsMessage check at frame memory lines (record { time = result; known = known; options = memory.options; stamp = memory.stamp })
tells_time check at frame memory lines result known time same names is none =
    let after : List Known = known_after check frame memory.known in (
      [],
      subst (λ (i : Option Item). IsWords i []) (sym (time_meaning frame time is)) (no_words frame),
      none ∙ ap (λ (t : Option Time). unless_time t (timed memory.time (frame_lines check memory.options after at frame []))) is,
      leaves_these check frame memory result known (same ∙ sym is ∙ ap (λ (t : Option Time). time_or t memory.stamp) is) names,
    )

-- any other message has its lines after the time so far, by the names after it
pub tells_lines : {E : Type 0} (check : Check) (at : ℕ) (frame : List ℕ) (memory : Memory) (shown : Lines)
    (known view : List Known) (r : Result Shown E)
    → known ≡ known_after check frame memory.known → None ≡ time_in frame → view ≡ known
    → HasLines check memory.options view at frame shown
    → IfOk r (λ s. ◌≡◌ {A = Lines} (string_bytes s.text, s.is_malformed) (timed memory.time shown))
    → IfOk r (λ s. TellsMessage check at frame memory (string_bytes s.text, s.is_malformed) (record { time = memory.stamp; known = known; options = memory.options; stamp = memory.stamp }))
tells_lines check at frame memory shown known view (Ok s) names is seen (words, has, lines) timely =
    let after : List Known = known_after check frame memory.known in (
      words,
      has,
      timely ∙ ap (timed memory.time) (lines ∙ ap (λ (k : List Known). frame_lines check memory.options k at frame words) (seen ∙ names))
          ∙ ap (λ (t : Option Time). unless_time t (timed memory.time (frame_lines check memory.options after at frame words))) is,
      leaves_these check frame memory memory.stamp known (ap (λ (t : Option Time). time_or t memory.stamp) is) names,
    )
tells_lines check at frame memory shown known view (Err e) names is seen has timely = tt

-- ---- objects

-- the same for objects
pub tells_time_object : (check : Check) (at : ℕ) (frame : List ℕ) (memory : Memory) (lines : Lines) (result : Option Time)
    (known : List Known) (time : Time) → result ≡ time_in frame → known ≡ known_after check frame memory.known
    → Some time ≡ time_in frame → lines ≡ good []
    → TellsObject check at frame memory lines (record { time = result; known = known; options = memory.options; stamp = memory.stamp })
tells_time_object check at frame memory lines result known time same names is none =
    let after : List Known = known_after check frame memory.known in (
      [],
      subst (λ (i : Option Item). IsWords i []) (sym (time_meaning frame time is)) (no_words frame),
      none ∙ ap (λ (t : Option Time). unless_time t (frame_object check after memory.time at frame [])) is,
      leaves_these check frame memory result known (same ∙ sym is ∙ ap (λ (t : Option Time). time_or t memory.stamp) is) names,
    )

pub tells_object : {E : Type 0} (check : Check) (at : ℕ) (frame words : List ℕ) (memory : Memory) (item : Option Item)
    (known view : List Known) (r : Result Shown E)
    → known ≡ known_after check frame memory.known → None ≡ time_in frame → view ≡ known → item ≡ meaning frame → IsWords item words
    → IfOk r (λ s. ◌≡◌ {A = Lines} (string_bytes s.text, s.is_malformed) (line_of (front_parts memory.time frame) (item_parts check view at frame words item)))
    → IfOk r (λ s. TellsObject check at frame memory (string_bytes s.text, s.is_malformed) (record { time = memory.stamp; known = known; options = memory.options; stamp = memory.stamp }))
tells_object check at frame words memory item known view (Ok s) names is seen same said lines =
    let after : List Known = known_after check frame memory.known in (
      words,
      subst (λ (i : Option Item). IsWords i words) same said,
      lines ∙ ap (λ (i : Option Item). line_of (front_parts memory.time frame) (item_parts check view at frame words i)) same
          ∙ ap (λ (k : List Known). frame_object check k memory.time at frame words) (seen ∙ names)
          ∙ ap (λ (t : Option Time). unless_time t (frame_object check after memory.time at frame words)) is,
      leaves_these check frame memory memory.stamp known (ap (λ (t : Option Time). time_or t memory.stamp) is) names,
    )
tells_object check at frame words memory item known view (Err e) names is seen same said lines = tt

-- an object of a time, a mark and other parts, as a line
pub shows_object : {E : Type 0} (first timed_one marked_one last : Object) (time : List Field) (mark : Field) (parts : objects.Shown)
    (malformed : Bool) (r : Result Shown E)
    → written first ≡ no_field → AddsAll first timed_one time → Adds timed_one marked_one mark → AddsParts marked_one last parts.0 → malformed ≡ parts.1
    → IfOk r (λ s. ◌≡◌ {A = Lines} (string_bytes s.text, s.is_malformed) (lined (written last) malformed))
    → IfOk r (λ s. ◌≡◌ {A = Lines} (string_bytes s.text, s.is_malformed) (line_of (time ∷ (mark ∷ []) ∷ []) parts))
shows_object first timed_one marked_one last time mark parts malformed (Ok s) none front marks others bad_one line =
    line ∙ ap (lined (written last)) bad_one
    ∙ ap (λ (w : Written). lined w parts.1)
    (others ∙ ap (λ (w : Written). with_parts w parts.0)
    (marks ∙ ap (λ (w : Written). with_field w mark) (front ∙ ap (λ (w : Written). with_fields w time) none)))
shows_object first timed_one marked_one last time mark parts malformed (Err e) none front marks others bad_one line = tt

-- what is shown, by what is asked for
pub tells_as_object : {E : Type 0} (check : Check) (at : ℕ) (frame : List ℕ) (memory after : Memory) (r : Result Shown E)
    → memory.options.json ≡ true → IfOk r (λ s. TellsObject check at frame memory (string_bytes s.text, s.is_malformed) after)
    → IfOk r (λ s. Tells check at frame memory (string_bytes s.text, s.is_malformed) after)
tells_as_object check at frame memory after (Ok s) json (words, is, lines, leaves) =
    let seen : Seen = record { at = at; frame = frame; words = words } in
    (words, is, lines ∙ sym (ap (λ (b : Bool). if b then seen_object check memory seen else all_lines check memory seen) json), leaves)
tells_as_object check at frame memory after (Err e) json tells = tt

pub tells_as_lines : {E : Type 0} (check : Check) (at : ℕ) (frame : List ℕ) (memory after : Memory) (r : Result Shown E)
    → memory.options.json ≡ false → IfOk r (λ s. TellsLines check at frame memory (string_bytes s.text, s.is_malformed) after)
    → IfOk r (λ s. Tells check at frame memory (string_bytes s.text, s.is_malformed) after)
tells_as_lines check at frame memory after (Ok s) json (words, is, lines, leaves) =
    let seen : Seen = record { at = at; frame = frame; words = words } in
    (words, is, lines ∙ sym (ap (λ (b : Bool). if b then seen_object check memory seen else all_lines check memory seen) json), leaves)
tells_as_lines check at frame memory after (Err e) json tells = tt

-- ---- a message of a family

-- a message of the type 16 or above is no control message
own_meaning : (frame : List ℕ) → 16 ≤ (header_of frame).message_type → meaning frame ≡ Some (Ok (Message frame))
own_meaning frame least =
    let t : ℕ = (header_of frame).message_type in
    rw (
      ne_eqb t NLMSG_NOOP (λ e. omega (arith, e, least)),
      ne_eqb t NLMSG_ERROR (λ e. omega (arith, e, least)),
      ne_eqb t NLMSG_DONE (λ e. omega (arith, e, least)),
      ne_eqb t NLMSG_OVERRUN (λ e. omega (arith, e, least)),
    ) refl

-- nor a time
own_time : (frame : List ℕ) → 16 ≤ (header_of frame).message_type → None ≡ time_in frame
unfolding time_in
own_time frame least = rw (ne_eqb (header_of frame).message_type 15 (λ e. omega (arith, e, least))) refl

-- its line, where the kernel says nothing
own_item : (check : Check) (options : Options) (known : List Known) (at : ℕ) (frame : List ℕ) → 16 ≤ (header_of frame).message_type
    → family_lines options known at frame (check.error (header_of frame).message_type (payload_of frame))
    ≡ item_lines check options known at frame [] (meaning frame)
own_item check options known at frame least =
    rw (own_meaning frame least, ne_eqb (header_of frame).message_type 15 (λ e. omega (arith, e, least))) refl

-- it has its lines after the time so far, by the names after it, and leaves no time
pub tells_own : {E : Type 0} (check : Check) (at : ℕ) (frame : List ℕ) (memory : Memory) (known : List Known) (flags : ℕ)
    (shown marked : Lines) (r : Result Shown E)
    → 16 ≤ (header_of frame).message_type → known ≡ known_after check frame memory.known → flags ≡ (header_of frame).flags
    → shown ≡ family_lines memory.options known at frame (check.error (header_of frame).message_type (payload_of frame))
    → marked ≡ marked_if flags shown
    → IfOk r (λ s. ◌≡◌ {A = Lines} (string_bytes s.text, s.is_malformed) (timed memory.time marked))
    → IfOk r (λ s. TellsMessage check at frame memory (string_bytes s.text, s.is_malformed) (record { time = memory.stamp; known = known; options = memory.options; stamp = memory.stamp }))
tells_own check at frame memory known flags shown marked (Ok s) least names flag lines mark timely =
    let after : List Known = known_after check frame memory.known in
    let item : shown ≡ item_lines check memory.options after at frame [] (meaning frame) =
    lines ∙ own_item check memory.options known at frame least
    ∙ ap (λ (k : List Known). item_lines check memory.options k at frame [] (meaning frame)) names in (
      [],
      subst (λ (i : Option Item). IsWords i []) (sym (own_meaning frame least)) (no_words frame),
      timely ∙ ap (timed memory.time)
          (mark ∙ ap (λ (n : ℕ). marked_if n shown) flag ∙ ap (marked_if (header_of frame).flags) item)
          ∙ ap (λ (t : Option Time). unless_time t (timed memory.time (frame_lines check memory.options after at frame []))) (own_time frame least),
      leaves_these check frame memory memory.stamp known (ap (λ (t : Option Time). time_or t memory.stamp) (own_time frame least)) names,
    )
tells_own check at frame memory known flags shown marked (Err e) least names flag lines mark timely = tt

-- the names of links after a message without errors, if they were updated by it
pub knows_message : (check : Check) (frame : List ℕ) (known after : List Known) (flags t : ℕ) (payload : List ℕ)
    → flags ≡ (header_of frame).flags → t ≡ (header_of frame).message_type → payload ≡ payload_of frame
    → check.error (header_of frame).message_type (payload_of frame) ≡ None
    → after ≡ (if is_named flags t then known_by (t, payload) known else known) → after ≡ known_after check frame known
unfolding known_after
knows_message check frame known after flags t payload flag type is checked learned = rw checked (rw (flag, type, is) at learned)

same_names : (b : Bool) (known : List Known) → known ≡ (if b then known else known)
same_names true known = refl
same_names false known = refl

-- an error leaves them
pub knows_error : (check : Check) (frame : List ℕ) (known : List Known) (e : FamilyError)
    → check.error (header_of frame).message_type (payload_of frame) ≡ Some e → known ≡ known_after check frame known
unfolding known_after
knows_error check frame known e checked = rw checked (same_names (is_named (header_of frame).flags (header_of frame).message_type) known)

-- a control message leaves them
pub knows_other : (check : Check) (frame : List ℕ) (known : List Known) → (header_of frame).message_type < 16
    → known ≡ known_after check frame known
unfolding known_after
knows_other check frame known less =
    rw (
      ne_eqb (header_of frame).message_type 16 (λ e. omega (arith, e, less)),
      ne_eqb (header_of frame).message_type 17 (λ e. omega (arith, e, less)),
    ) refl

-- a fact holds with or without a value
pub on_ok : {T E : Type 0} {P : Type 0} (r : Result T E) → P → OnOk r P
on_ok (Ok value) is = is
on_ok (Err e) is = tt

-- a fact follows from another with or without a value
pub on_ok_then : {T E : Type 0} {P Q : Type 0} (r : Result T E) → (P → Q) → OnOk r P → OnOk r Q
on_ok_then (Ok value) gives is = gives is
on_ok_then (Err e) gives is = tt
