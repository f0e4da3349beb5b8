use Rattle.std.proofs.Common.{rules, ◌≡◌, ◌∙◌, ap, refl, false, length, codes, ℕ, List}
use Rattle.std.specs.Prelude.{◌==◌}
use Rattle.netlink_json.specs.Fields.{present, with_field, written}
use Rattle.netlink_json.specs.Json.{text}
use Rattle.netlink_packet_core.specs.Header.{header_of}
use Rattle.netlink_lines.specs.Members.{message_name, route_parts}
use Rattle.netlink_lines.specs.Requests.{is_request}
use Rattle.netlink_lines.proofs.Named.{message_added}
use Rattle.netlink_lines.proofs.objects.put_message.Goals as goal

pub returns : goal.returns
returns g c =
    let some : (length c.message_name-name.result.now == 0) ≡ false = search rules in
    let is : c.message_name-name.result.now ≡ message_name (header_of c.args.frame.now).message_type = search rules in
    let asks : c.is_request-is_asked.result ≡ is_request (header_of c.args.frame.now).flags (header_of c.args.frame.now).message_type = search rules in
    let named =
    c.in_ok-put_text.ensures.adds
    ∙ ap (λ (it : List ℕ). with_field (written c.args.object.now) (present (codes "message") (text it))) c.as_bytes.ensures.value in (
      message_added c.args.frame.now c.message_name-name.result.now c.is_request-is_asked.result
          (route_parts c.args.known.now (c.args.message.now.message_type, c.args.message.now.payload.now))
          (written c.args.object.now) (written c.put_text.new.self) (written c.put_header.new.object) (written c.put_true.new.object)
          (written c.put_members.new.object) some is asks
          named c.in_ok-put_header.ensures c.in_ok-put_true.ensures.adds c.in_ok-put_members.ensures.members,
      refl,
    )
