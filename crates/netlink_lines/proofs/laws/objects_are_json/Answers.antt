use Rattle.netlink_lines.proofs.Valid.{content_valid, messages_valid, stop_valid}
use Rattle.netlink_lines.proofs.laws.objects_are_json.Goals as goal

pub returns : goal.returns
returns c = record { messages = messages_valid; contents = content_valid; stops = stop_valid }
