use Rattle.std.proofs.Common.{◌≡◌, ◌∙◌, ◌++◌, ap, ℕ, List, codes, rules, string_bytes}
use Rattle.netlink_json.specs.Fields.{object_text, written}
use Rattle.netlink_json.specs.FieldLaws.{item_object}
use Rattle.netlink_json.proofs.array.Array.put_object.Goals as goal

pub returns : goal.returns
returns c =
    let comma : string_bytes c.push.new.self ≡ string_bytes c.args.self.now.text ++ codes "," = search rules in
    record {
      adds = λ parts is. item_object (string_bytes c.args.self.now.text) (string_bytes c.args.self.now.raw)
          (string_bytes c.push_object.new.text) (written c.args.inner) parts is
          (c.in_ok-push_object.ensures ∙ ap (λ (l : List ℕ). l ++ object_text (written c.args.inner)) comma);
    }
