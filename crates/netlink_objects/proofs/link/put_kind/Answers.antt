use Rattle.std.proofs.Common.{◌∙◌, ap, codes, [], ◌∷◌}
use Rattle.netlink_json.specs.Fields.{Field, Written, present, with_field}
use Rattle.netlink_json.specs.Json.{text}
use Rattle.netlink_objects.proofs.link.put_kind.Goals as goal

pub returns-in_ok-put_object-in-Some : goal.returns-in_ok-put_object-in-Some
returns-in_ok-put_object-in-Some c =
    let kind : Field = present (codes "info_kind") (text c.in-Some.kind.now) in
    rw c.in-Some.is
    (c.in_ok-put_object-in-Some.ensures.adds ((kind ∷ []) ∷ [])
    (c.in_ok-put_text-in-Some.ensures.adds ∙ ap (λ (w : Written). with_field w kind) c.new-info.ensures.none))
