use Rattle.std.proofs.Common.{ℕ, List, [], ◌∷◌, ap, rules, ◌≡◌, ◌∙◌, ◌++◌, length, take}
use Rattle.std.proofs.lemmas.List.{take_at}
use Rattle.netlink_family.specs.Values.{value_bytes}
use Rattle.netlink_json.specs.Fields.{Field, items_written, no_field, object_of, with_fields, with_item, written}
use Rattle.netlink_objects.specs.RouteHops.{outgoing_fields}
use Rattle.netlink_objects.proofs.Items.{one_part}
use Rattle.netlink_objects.proofs.multicast_route.put_outgoing.Goals as goal

pub returns : goal.returns
returns c =
    let header : List ℕ = c.in-HeaderNested.header.bytes.now in
    let block : List ℕ = c.in-HeaderNested.field-1.block.now in
    let fields : List Field = outgoing_fields c.args.known.now c.args.word header in
    let size : length header ≡ 4 = search rules in
    let bytes : value_bytes c.args.value ≡ header ++ block = ap value_bytes c.in-HeaderNested.is in
    let front : take 4 (value_bytes c.args.value) ≡ header = ap (take 4) bytes ∙ take_at header block 4 size in
    let is : written c.put_outgoing_fields.new.object ≡ with_fields no_field fields = search rules in
    let put : items_written c.put_object.new.self ≡ with_item (items_written c.args.items.now) (object_of fields) =
    c.in_ok-put_object-in-HeaderNested.ensures.adds (fields ∷ []) is ∙ ap (with_item (items_written c.args.items.now)) (one_part fields) in
    rw front put
