-- The object of a message with a name.
use Rattle.std.proofs.Common.{◌≡◌, ◌∙◌, ap, ℕ, Bool, false, List, [], ◌∷◌, length, codes, nat_eq}
use Rattle.std.specs.Prelude.{◌==◌, true}
use Rattle.netlink_json.specs.Fields.{Field, Written, present, with_field, with_fields, with_parts}
use Rattle.netlink_json.specs.Json.{boolean, text}
use Rattle.netlink_objects.specs.Forms.{when_json}
use Rattle.netlink_objects.specs.Rows.{field_of}
use Rattle.netlink_packet_core.specs.Header.{header_of}
use Rattle.netlink_lines.specs.Members.{message_name}
use Rattle.netlink_lines.specs.Objects.{header_fields, message_parts, parts_by, request_field}
use Rattle.netlink_lines.specs.Requests.{is_request}

by_name : (frame name : List ℕ) (parts : List (List Field)) (w w1 w2 w3 w4 : Written)
    → (length name == 0) ≡ false
    → w1 ≡ with_field w (present (codes "message") (text name))
    → w2 ≡ with_fields w1 (header_fields frame)
    → w3 ≡ with_field w2 (request_field frame)
    → w4 ≡ with_parts w3 parts
    → w4 ≡ with_parts w (parts_by frame name parts)
by_name frame [] parts w w1 w2 w3 w4 some one two three four = absurd (cc)
by_name frame (b ∷ name) parts w w1 w2 w3 w4 some one two three four =
    four
    ∙ ap (λ (v : Written). with_parts v parts)
    (three ∙ ap (λ (v : Written). with_field v (request_field frame)) (two ∙ ap (λ (v : Written). with_fields v (header_fields frame)) one))

pub message_added : (frame name : List ℕ) (asked : Bool) (parts : List (List Field)) (w w1 w2 w3 w4 : Written)
    → (length name == 0) ≡ false
    → name ≡ message_name (header_of frame).message_type
    → asked ≡ is_request (header_of frame).flags (header_of frame).message_type
    → w1 ≡ with_field w (present (codes "message") (text name))
    → w2 ≡ with_fields w1 (header_fields frame)
    → w3 ≡ with_field w2 (field_of (codes "request") (when_json asked (boolean true)))
    → w4 ≡ with_parts w3 parts
    → w4 ≡ with_parts w (message_parts frame parts)
message_added frame name asked parts w w1 w2 w3 w4 some is asks one two three four =
    by_name frame name parts w w1 w2 w3 w4 some one two
    (three ∙ ap (λ (holds : Bool). with_field w2 (field_of (codes "request") (when_json holds (boolean true)))) asks) four
    ∙ ap (λ (it : List ℕ). with_parts w (parts_by frame it parts)) is
