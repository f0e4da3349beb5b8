use Rattle.std.proofs.Common.{◌∙◌, ◌++◌, ap, ℕ, List, string_bytes}
use Rattle.netlink_json.specs.Fields.{object_text, written}
use Rattle.netlink_json.specs.FieldLaws.{member_object}
use Rattle.netlink_json.proofs.object.Object.put_object.Goals as goal

pub returns : goal.returns
returns c =
    record {
      adds = λ parts is. member_object (string_bytes c.args.self.now.text) (string_bytes c.args.self.now.raw)
          (string_bytes c.push_object.new.text) c.args.key.now (written c.args.inner) parts is
          (c.in_ok-push_object.ensures
          ∙ ap (λ (l : List ℕ). l ++ object_text (written c.args.inner)) c.in_ok-push_key.ensures);
    }
