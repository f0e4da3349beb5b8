use Rattle.netlink_json.specs.FieldLaws.{object_valid}
use Rattle.netlink_json.specs.JsonLaws.{value_valid}
use Rattle.netlink_json.proofs.laws.texts_are_json.Goals as goal

pub returns : goal.returns
returns c = record { values = value_valid; objects = object_valid }
