use Rattle.std.proofs.Common.{drop}
use Rattle.std.proofs.lemmas.List.{take-append-drop}
use Rattle.netlink_replies.specs.Bodies.{request_size}
use Rattle.netlink_replies.proofs.laws.returned_request.Goals as goal

pub returns : goal.returns
returns c = record {
  prefix = λ flags bytes. take-append-drop (request_size flags (drop 4 bytes)) (drop 4 bytes);
}
