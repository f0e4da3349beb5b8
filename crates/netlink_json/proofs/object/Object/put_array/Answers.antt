use Rattle.std.proofs.Common.{◌∙◌, ◌++◌, ap, ℕ, List, string_bytes}
use Rattle.netlink_json.specs.Fields.{bracketed, items_written, with_raw_array}
use Rattle.netlink_json.specs.FieldLaws.{member_array}
use Rattle.netlink_json.proofs.object.Object.put_array.Goals as goal

pub returns : goal.returns
returns c =
    record {
      adds = λ values is. member_array (string_bytes c.args.self.now.text) (string_bytes c.args.self.now.raw)
          (string_bytes c.push_bracketed.new.text) (string_bytes c.push_raw_array.new.raw) c.args.key.now
          (items_written c.args.items.now) values is
          (c.in_ok-push_bracketed.ensures
          ∙ ap (λ (l : List ℕ). string_bytes c.push_key.new.text ++ bracketed l) c.deref.ensures
          ∙ ap (λ (l : List ℕ). l ++ bracketed (string_bytes c.args.items.now.text)) c.in_ok-push_key.ensures)
          (c.in_ok-push_raw_array.ensures
          ∙ ap (λ (l : List ℕ). with_raw_array (string_bytes c.args.self.now.raw) c.args.key.now l) c.deref-2.ensures);
    }
