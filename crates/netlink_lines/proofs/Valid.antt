-- What is shown as objects is lines of values of JSON.
use Rattle.std.proofs.Common.{◌≡◌, sym, subst, ℕ, List, [], ◌∷◌, Option, Some, None, if◌then◌else◌}
use Rattle.std.specs.List.{fold}
use Rattle.std.specs.Prelude.{Bool, true, false}
use Rattle.netlink_json.specs.FieldLaws.{lines_after, object_line}
use Rattle.netlink_json.specs.Grammar.{AreLines}
use Rattle.netlink_lines.specs.Format.{Told, tell, told_from, told_nothing}
use Rattle.netlink_lines.specs.Messages.{Check, Lines, Memory, Seen, all_lines, good, known_after, seen_lines, seen_object, unless_time}
use Rattle.netlink_lines.specs.Objects.{bad_fields, front_parts, item_parts, netlink_fields}
use Rattle.netlink_lines.specs.Packet.{content_shown, content_text, from_stop, is_silent, stop_line, stop_shown}
use Rattle.netlink_lines.specs.Stream.{messages_of}
use Rattle.netlink_lines.specs.Time.{time_in}
use Rattle.netlink_lines.specs.declared.packet.Content.{Content}
use Rattle.netlink_lines.specs.declared.packet.Content.TheVariants as content
use Rattle.netlink_input.specs.Stream.{why_text}
use Rattle.netlink_input.specs.declared.stream.Stop.{Stop}
use Rattle.netlink_input.specs.declared.time.Time.{Time}
use Rattle.netlink_replies.specs.Meaning.{meaning}

unless_valid : (time : Option Time) (lines : Lines) → AreLines lines.0 → AreLines (unless_time time lines).0
unless_valid None lines valid = valid
unless_valid (Some time) lines valid = AreLines.no_lines

seen_valid : (check : Check) (memory : Memory) (seen : Seen) → AreLines (seen_object check memory seen).0
seen_valid check memory seen =
    unless_valid (time_in seen.frame) _
    (object_line (front_parts memory.time seen.frame)
    (item_parts check (known_after check seen.frame memory.known) seen.at seen.frame seen.words (meaning seen.frame)).0)

-- a message of a run that shows objects
lines_valid : (check : Check) (memory : Memory) (seen : Seen) → memory.options.json ≡ true
    → AreLines (seen_lines check memory seen).0
lines_valid check memory seen json =
    subst (λ (j : Bool). AreLines ((λ (l : Lines). l) (if j then seen_object check memory seen else all_lines check memory seen)).0)
    (sym json) (seen_valid check memory seen)

-- and all of them
abbrev told_text : Check → Told → List Seen → List ℕ
told_text check told all = (fold (tell (messages_of check)) told all).text

from_told : (check : Check) (told : Told) (all : List Seen) → told.memory.options.json ≡ true → AreLines told.text
    → AreLines (told_text check told all)
from_told check told [] json valid = valid
from_told check told (seen ∷ all) json valid =
    from_told check (tell (messages_of check) told seen) all json
    (lines_after told.text (seen_lines check told.memory seen).0 valid (lines_valid check told.memory seen json))

pub messages_valid : (check : Check) (memory : Memory) (all : List Seen) → memory.options.json ≡ true
    → AreLines (told_from (messages_of check) memory all).text
messages_valid check memory all json = from_told check (told_nothing memory) all json AreLines.no_lines

-- ---- packets

pub content_valid : (at size : ℕ) (what : Content) → AreLines (content_shown at size what true).0
content_valid at size (content.Family n) = object_line [] (netlink_fields n size ∷ [])
content_valid at size content.Messages = object_line [] (bad_fields at (content_text content.Messages) ∷ [])
content_valid at size (content.CutMessages n m) = object_line [] (bad_fields at (content_text (content.CutMessages n m)) ∷ [])
content_valid at size (content.Cut n m) = object_line [] (bad_fields at (content_text (content.Cut n m)) ∷ [])
content_valid at size (content.Short n) = object_line [] (bad_fields at (content_text (content.Short n)) ∷ [])
content_valid at size (content.Device n) = object_line [] (bad_fields at (content_text (content.Device n)) ∷ [])

by_silence : (silent : Bool) (stop : Stop) → AreLines ((λ (l : Lines). l) (if silent then good [] else (stop_line stop true, true))).0
by_silence true stop = AreLines.no_lines
by_silence false stop = object_line [] (bad_fields stop.at (why_text stop.cause) ∷ [])

pub stop_valid : (cut : Bool) (at : ℕ) (bytes : List ℕ) (stop : Option Stop) → AreLines (stop_shown cut at bytes stop true).0
stop_valid cut at bytes None = AreLines.no_lines
stop_valid cut at bytes (Some stop) = by_silence (is_silent cut (from_stop at bytes stop)) stop
