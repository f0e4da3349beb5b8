use Rattle.std.proofs.Common.{◌≡◌, drop}
use Rattle.netlink_names.specs.Device.{name_of}
use Rattle.netlink_names.proofs.device.first_name.Given as goal

-- none of the links so far has the index
abbrev pub invariant-loop-link : goal.invariant-loop-link
invariant-loop-link l = name_of l.known l.index ≡ name_of (drop l.link-index l.known) l.index
