use Rattle.std.proofs.Common.{◌≡◌, true, rules, refl, ap, ◌∙◌, ◌++◌, ℕ, List, Bool, None, arith, replicate}
use Rattle.std.specs.Prelude.{if◌then◌else◌}
use Rattle.std.proofs.lemmas.Result.{err_from_is_err_and}
use Rattle.netlink_family.specs.CanonicalPayloadLaws.{reading_canonical}
use Rattle.netlink_family.specs.PayloadErrorLaws.{payload_rejected}
use Rattle.netlink_family.specs.PayloadReading.{short_reading}
use Rattle.netlink_shapes.specs.Shapes.{has_type, reading_by}
use Rattle.netlink_family.specs.ShortLaws.{other_error, other_read, whole_not}
use Rattle.netlink_family.proofs.Frames.{after_room, room_size, with_fewer}
use Rattle.netlink_family.proofs.owned.OwnedMessageNetlinkDeserializable.normal_frame.Goals as goal

pub returns-in_err-append_payload-clause-refuses : goal.returns-in_err-append_payload-clause-refuses
returns-in_err-append_payload-clause-refuses g c =
    let error = err_from_is_err_and c.from_residual-in_err-append_payload.result c.from_residual-in_err-append_payload.ensures.1 in
    let kind : ℕ = c.args.header.now.message_type in
    let own : has_type g.F.Table.types kind ≡ true = search rules in
    let size = c.header_len-size.ensures.len in
    let whole = whole_not (g.F.Table.short kind) (g.F.Table.header_len kind) c.args.payload.now (omega (arith, size)) in
    rw (error.1, error.2) (λ never.
    ap (λ (b : Bool). if b then short_reading (g.F.Table.short kind) (g.F.Table.header_len kind) (reading_by (g.F.Table.rows kind)) kind c.args.payload.now else None) own
    ∙ payload_rejected (g.F.Table.short kind) (g.F.Table.header_len kind) (g.F.Table.rows kind) kind c.args.payload.now _
    (other_error (g.F.Table.short kind) (g.F.Table.header_len kind) (g.F.Table.rows kind) c.args.payload.now whole
    ∙ c.in_err-append_payload.ensures.error never))

pub returns-clause-writes : goal.returns-clause-writes
returns-clause-writes g c =
    let kind : ℕ = c.args.header.now.message_type in
    let own : has_type g.F.Table.types kind ≡ true = search rules in
    let size = c.header_len-size.ensures.len in
    let whole = whole_not (g.F.Table.short kind) (g.F.Table.header_len kind) c.args.payload.now (omega (arith, size)) in
    let parts = c.in_ok-append_payload.ensures.reads in
    let room : c.in_ok-frame.frame.items ≡ replicate 16 0 = search rules in
    let text : c.append_payload.new.bytes.items ≡ replicate 16 0 ++ parts.0 = parts.1 ∙ ap (λ (x : List ℕ). x ++ parts.0) room in
    let long = room_size c.append_payload.new.bytes.items parts.0 text in
    record {
      value = record {
        message_type = kind;
        bytes = with_fewer c.append_payload.new.bytes parts.0 (omega (arith, long));
        short = 0;
        family = record {};
        own = own;
        canonical = reading_canonical (g.F.Table.header_len kind) (g.F.Table.rows kind) c.args.payload.now parts.0 (parts.2 0);
        cut = refl;
      };
      in_range = search rules;
      reads =
          ap (λ (b : Bool). if b then short_reading (g.F.Table.short kind) (g.F.Table.header_len kind) (reading_by (g.F.Table.rows kind)) kind c.args.payload.now else None) own
          ∙ (other_read (g.F.Table.short kind) (g.F.Table.header_len kind) (reading_by (g.F.Table.rows kind)) kind c.args.payload.now whole
          ∙ parts.2 kind);
      message_type = refl;
      room = omega (arith, long);
      encoded = after_room c.append_payload.new.bytes.items parts.0 text;
    }
