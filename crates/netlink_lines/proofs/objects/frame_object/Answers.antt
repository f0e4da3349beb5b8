use Rattle.std.proofs.Common.{◌≡◌, ◌∙◌, ap, codes}
use Rattle.std.specs.Prelude.{Bool, true}
use Rattle.netlink_json.specs.Fields.{Field, with_field, written}
use Rattle.netlink_json.specs.Json.{boolean}
use Rattle.netlink_objects.specs.Forms.{when_json}
use Rattle.netlink_objects.specs.Rows.{field_of}
use Rattle.netlink_packet_core.specs.Header.{header_of}
use Rattle.netlink_replies.specs.Meaning.{shown_item}
use Rattle.netlink_lines.specs.Ack.{is_interrupted}
use Rattle.netlink_lines.specs.Check.{check_of}
use Rattle.netlink_lines.specs.Objects.{AddsShown, Shown, item_parts, time_fields}
use Rattle.netlink_lines.proofs.Shown.{shows_object}
use Rattle.netlink_lines.proofs.objects.frame_object.Goals as goal

marked : Bool → Field
marked b = field_of (codes "interrupted") (when_json b (boolean true))

pub returns : goal.returns
unfolding marked with_field
returns g c =
    let mark : c.is_interrupted.result ≡ is_interrupted (header_of c.args.frame.now).flags =
    c.is_interrupted.ensures ∙ ap is_interrupted c.flags_of.ensures in
    let parts : Shown = item_parts (check_of g.F.Table) c.args.known.now c.args.at c.args.frame.now c.args.words.now (shown_item c.args.item) in
    let both : AddsShown c.put_true.new.object c.put_item.new.object c.in_ok-is_malformed.is_malformed parts = c.in_ok-is_malformed.ensures in
    shows_object c.new-object.result c.put_time.new.object c.put_true.new.object c.put_item.new.object (time_fields c.args.time)
    (marked (is_interrupted (header_of c.args.frame.now).flags)) parts c.in_ok-is_malformed.is_malformed c.object_line.result c.new-object.ensures.none
    c.in_ok-put_time.ensures
    (c.in_ok-put_true.ensures.adds ∙ ap (λ (b : Bool). with_field (written c.put_time.new.object) (marked b)) mark)
    both.0 both.1 c.object_line.ensures
